-- Lists that are filled from another, number by number, and what a run over work of zeros gives. Assumes nothing.
use Prim.Native.Nat.{ℕ, zero, suc, ◌+◌, ◌<◌, ◌≤◌}
use native.Mathlib.Omega.{arith}
use Rattle.numbers.specs.declared.Refusal.{Refusal}
use Rattle.sparse_pgo.specs.declared.Joined.{Joined}
use Rattle.std.specs.Prelude.{Result}
use mathlib.Core.Path.{◌≡◌, refl, ap, ◌∙◌}
use native.Mathlib.Numerals.{add-one}
use mathlib.Core.List.{List, ◌∷◌}
use lib.ListN.{length, get_or, set, take, replicate}
use lib.Seq.{take-suc, take-suc-set}
use lib.Ieee.{Float, nan, of_bits, of_fields, odd, binary32, binary64, to_bits, round}
use Rattle.std.specs.List.{AllZip}
use Rattle.std.proofs.lemmas.Slice.Zip.{all_zipped_more}
use Rattle.numbers.specs.Notation.{num, ratio}
use Rattle.checks.specs.Input.{lent}
use Rattle.graph.specs.declared.Manifold.TheVariants.{Se3}
use Rattle.rows.specs.declared.Settings.{Settings}
use Rattle.sparse_pgo.specs.Optimize.{After, optimized}
use Rattle.job.specs.declared.SettingBits.{SettingBits}
use Rattle.job.specs.Format.{Space}
use Rattle.job_terms.specs.Terms.{settings_as}
use Rattle.join_job.specs.Joining.{floats, ran_over, run_of, judged_as, judged_over, judged_of}

pub nan64 : of_bits binary64 0x7ff8_0000_0000_0000 ≡ nan
unfolding of_bits of_fields odd
nan64 = refl

pub nan_bits_lem : 0x7ff8_0000_0000_0000 ≡ to_bits binary64 nan
unfolding to_bits
nan_bits_lem = refl

-- what a run over work of zeros gives
pub over_is : (t : SettingBits) (poses : List Float) (ends : List ℕ) (edges : List Float) (fixed : List ℕ) (out work32 work64 : List Float)
    (set : Settings) (a : After) → set ≡ settings_as t → work32 ≡ replicate 148608 (num 0) → work64 ≡ replicate 6144 (num 0)
    → a ≡ optimized (lent Se3 poses ends edges fixed set (record { work32 = length work32; work64 = length work64; out = length out })) work32 work64 out
    → a ≡ ran_over t poses ends edges fixed out
unfolding ran_over
over_is t poses ends edges fixed out work32 work64 set a p q r e =
    let run : Settings → List Float → List Float → After =
    λ x y z. optimized (lent Se3 poses ends edges fixed x (record { work32 = length y; work64 = length z; out = length out })) y z out in
    e
    ∙ ap (λ (x : Settings). run x work32 work64) p
    ∙ ap (λ (y : List Float). run (settings_as t) y work64) q
    ∙ ap (λ (z : List Float). run (settings_as t) (replicate 148608 (num 0)) z) r

pub zero32 : of_bits binary32 0 ≡ num 0
unfolding of_bits of_fields odd ratio round
zero32 = refl

pub zero64 : of_bits binary64 0 ≡ num 0
unfolding of_bits of_fields odd ratio round
zero64 = refl

-- one more of another list's numbers made
pub zipped_more : {A B : Type 0} (R : A → B → Type 0) (xs : List A) (ys : List B) (i : ℕ) (x : A) (y : B) → i < length xs → i < length ys
    → x ≡ get_or xs i x → AllZip R (take i xs) (take i ys) → R x y → AllZip R (take (i + 1) xs) (take (i + 1) (set ys i y))
zipped_more R xs ys i x y h k e z r =
    rw (add-one, take-suc xs i x h, take-suc-set ys i y k, ← e) (all_zipped_more R (take i xs) (take i ys) x y z r)

-- ---- the front of an array of zeros, and what a run over it gives

pub take_replicate : {A : Type 0} (n k : ℕ) (v : A) → n ≤ k → take n (replicate k v) ≡ replicate n v
take_replicate zero k v h = refl
take_replicate (suc n) zero v h = absurd (omega arith)
take_replicate (suc n) (suc k) v h = ap (λ (l : List _). v ∷ l) (take_replicate n k v (omega arith))

-- what is worked out from what was read, from its floats and an output of zeros
from_floats : {A : Type 0} (f : List Float → List ℕ → List Float → List ℕ → List Float → A) (l : Space) (poses edges out : List Float)
    → poses ≡ floats binary64 l.poses → edges ≡ floats binary32 l.edges → out ≡ replicate (length l.poses) (num 0)
    → f poses l.ends edges l.fixed out
    ≡ f (floats binary64 l.poses) l.ends (floats binary32 l.edges) l.fixed (replicate (length l.poses) (num 0))
from_floats f l poses edges out p q r = rw (p, q, r)

module _ (t : SettingBits) (l : Space) (poses edges out : List Float) (p : poses ≡ floats binary64 l.poses) (q : edges ≡ floats binary32 l.edges)
    (r : out ≡ replicate (length l.poses) (num 0)) where
  pub run_is : ran_over t poses l.ends edges l.fixed out ≡ run_of t l
  unfolding run_of
  run_is = from_floats (ran_over t) l poses edges out p q r

  pub judged_is : judged_over t poses l.ends edges l.fixed out ≡ judged_of t l
  unfolding judged_of
  judged_is = from_floats (judged_over t) l poses edges out p q r

-- a run's answer, judged at what it gave
pub judged_as_lem : (t : SettingBits) (poses : List Float) (ends : List ℕ) (edges : List Float) (fixed : List ℕ) (out new : List Float) (a : Result Joined Refusal)
    → a ≡ (ran_over t poses ends edges fixed out).answer → new ≡ (ran_over t poses ends edges fixed out).out
    → judged_as t.limit poses ends edges new a ≡ judged_over t poses ends edges fixed out
unfolding judged_over
judged_as_lem t poses ends edges fixed out new a p q =
    ap (λ (x : List Float). judged_as t.limit poses ends edges x a) q
    ∙ ap (judged_as t.limit poses ends edges (ran_over t poses ends edges fixed out).out) p

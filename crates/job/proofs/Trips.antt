-- What is read, written again, is the same bytes; so two jobs with one meaning are one. And what is read is as long and as wide as it should be.
-- Assumes nothing.
use Prim.Native.Nat.{ℕ, zero, suc, ◌+◌, ◌*◌, ◌/◌, ◌^◌, ◌≤◌, ◌<◌}
use native.Mathlib.Omega.{arith}
use mathlib.Core.Path.{◌≡◌, refl, sym, ap, subst, ◌∙◌}
use mathlib.Core.Bool.{Bool, true, false}
use mathlib.Core.List.{List, [], ◌∷◌, ◌++◌}
use lib.Dec.{eqb, lit<}
use lib.ListN.{length, get_or}
use lib.Seq.{take_all}
use Rattle.numbers.specs.Notation.{if_then}
use Rattle.numbers.specs.Walks.{table}
use Rattle.job_records.specs.Bytes.{value_at, values_at}
use Rattle.job_records.specs.declared.Tally.{Tally}
use Rattle.job_records.specs.declared.Cursor.{Cursor}
use Rattle.job_records.specs.Records.{kind_at, length_at}
use Rattle.job.specs.Format.{Job, tally_of, end_record, encoded, numbers_if, holding, taken, reading}
use Rattle.job.proofs.Stepping.{Kind, settings as of-settings, pose as of-pose, edge as of-edge, fixed as of-fixed, end as of_end}
use Rattle.job.proofs.Stepping.{fault_free, rises, ended}
use Rattle.job.proofs.Firsts.{Comes, begins, passes, taken_there}
use Rattle.job.proofs.Bytewise.{Bytes, value_small, passed}
use Rattle.job.proofs.Along.{Along, records_of, comes_along, four_settings}

-- ---- where reading ends

-- the end record: where it stands, the kind of the record before it, what was read up to it; and that it is the last
record ReadTo (room : Tally) (s : List ℕ) (t : Tally) (j : Job) : Type 0 where
  pub at : ℕ
  pub last : ℕ
  pub along : Along room s (record { at = at; last = last; had = t }) j
  pub some : 0 < last
  pub kind : kind_at s at ≡ 5
  pub empty : length_at s at ≡ 0
  pub size : length s ≡ at + 4

read_to : (room : Tally) (s : List ℕ) (t : Tally) (j : Job) → reading room s ≡ taken t j → ReadTo room s t j
read_to room s t j e =
    let x = taken_there room s t j e in
    let c = x.0 in
    let w = ended room s c x.2 in
    let h = fault_free room s c w.fine in
    let k = w.end in
    record {
      at = c.at;
      last = c.last;
      along = subst (λ (y : Tally). Along room s (record { at = c.at; last = c.last; had = y }) j) (sym x.3) (comes_along room s x.1);
      some = (rises c.last (kind_at s c.at) h.follows (λ q. omega arith)).0;
      kind = k;
      empty = empty_end (kind_at s c.at) (length_at s c.at) k h.kind;
      size = w.last;
    }
  where
    empty_end : (kind len : ℕ) → kind ≡ 5 → Kind kind len → len ≡ 0
    empty_end kind len e (of-settings k l) = absurd (omega arith)
    empty_end kind len e (of-pose k l) = absurd (omega arith)
    empty_end kind len e (of-edge k l) = absurd (omega arith)
    empty_end kind len e (of-fixed k l) = absurd (omega arith)
    empty_end kind len e (of_end k l) = l

-- ---- how long what is read is

module _ (room : Tally) (s : List ℕ) (t : Tally) (j : Job) (e : reading room s ≡ taken t j) where
  -- the settings are those of the first record: there is no default
  pub read_settings : (j.settings ≡ values_at 4 4 s 4) × (length j.settings ≡ 4) × (kind_at s 0 ≡ 1) × (20 ≤ length s)
  read_settings =
      let x = read_to room s t j e in
      let o = x.along.opened x.some in
      (x.along.settings x.some, four_settings x.along x.some, o.0, o.1)

  pub read_lengths : (length j.poses ≡ 12 * t.poses) × (length j.ends ≡ 2 * t.edges)
      × (length j.edges ≡ 8 * t.edges) × (length j.fixed ≡ t.fixed)
  read_lengths = let a = (read_to room s t j e).along in (a.poses, a.ends, a.edges, a.fixed)

  tally_same : (p q f : ℕ) → p ≡ t.poses → q ≡ t.edges → f ≡ t.fixed → t ≡ record { poses = p; edges = q; fixed = f }
  tally_same p q f x y z = rw (x, y, z)

  -- as many as there are, and no more than there is room for
  pub read_tally : (t ≡ tally_of j) × (t.poses ≤ room.poses) × (t.edges ≤ room.edges) × (t.fixed ≤ room.fixed)
  read_tally =
      let a = (read_to room s t j e).along in
      let x = a.poses in let y = a.ends in let z = a.fixed in
      (tally_same (length j.poses / 12) (length j.ends / 2) (length j.fixed) (omega arith) (omega arith) z, a.poses_fit, a.edges_fit, a.fixed_fit)

-- ---- the trip

-- what is read, written again, is the same bytes
pub read_written : (room : Tally) (s : List ℕ) (t : Tally) (j : Job) → Bytes s → reading room s ≡ taken t j → encoded j ≡ s
unfolding encoded
read_written room s t j b e =
    let x = read_to room s t j e in
    let n = x.size in
    ap (λ (y : Tally). records_of y j ++ end_record) (sym (read_tally room s t j e).0)
    ∙ sym (passed s b x.at 5 0 [] (records_of t j) (omega arith) x.kind x.empty refl (x.along.bytes b x.some))
    ∙ take_all (x.at + 4 + 0) s (omega arith)

-- two jobs with one meaning are one
pub one_encoding : (room room' : Tally) (s s' : List ℕ) (t t' : Tally) (j : Job) → Bytes s → Bytes s'
    → reading room s ≡ taken t j → reading room' s' ≡ taken t' j → s ≡ s'
one_encoding room room' s s' t t' j b b' e e' = sym (read_written room s t j b e) ∙ read_written room' s' t' j b' e'

-- ---- how wide its numbers are

-- every number of ns is below a bound
abbrev pub Below : ℕ → List ℕ → Type 0
Below m ns = (k : ℕ) → get_or ns k 0 < m

pub record Wide (j : Job) : Type 0 where
  pub settings : Below (256 ^ 4) j.settings
  pub poses : Below (256 ^ 8) j.poses
  pub ends : Below (256 ^ 4) j.ends
  pub edges : Below (256 ^ 4) j.edges
  pub fixed : Below (256 ^ 4) j.fixed

below_append : (m : ℕ) (xs ys : List ℕ) → Below m xs → Below m ys → Below m (xs ++ ys)
below_append m [] ys p q k = q k
below_append m (x ∷ xs) ys p q zero = p 0
below_append m (x ∷ xs) ys p q (suc k) = below_append m xs ys (λ i. p (suc i)) q k

below_table : (m : ℕ) (f : ℕ → ℕ) (n : ℕ) → 0 < m → ((i : ℕ) → f i < m) → Below m (table f n)
unfolding table
below_table m f zero p h = λ k. p
below_table m f (suc n) p h = below_append m (table f n) (f n ∷ []) (below_table m f n p h) one
  where
    one : Below m (f n ∷ [])
    one zero = h n
    one (suc k) = p

module _ (s : List ℕ) (b : Bytes s) where
  below_held : (w n at : ℕ) (ns : List ℕ) (held : Bool) → Below (256 ^ w) ns → Below (256 ^ w) (ns ++ numbers_if held (values_at w n s at))
  unfolding if_then
  below_held w n at ns held h =
      let v = value_small w s at b in
      below_append (256 ^ w) ns (numbers_if held (values_at w n s at)) h (more held (omega arith))
    where
      more : (x : Bool) → 0 < 256 ^ w → Below (256 ^ w) (numbers_if x (values_at w n s at))
      more true p = below_table (256 ^ w) (λ i. value_at w s (at + w * i)) n p (λ i. value_small w s (at + w * i) b)
      more false p = λ k. p

  wide_holding : (at : ℕ) (j : Job) → Wide j → Wide (holding s at j)
  unfolding holding
  wide_holding at j h =
      record {
        settings = below_held 4 4 (at + 4) j.settings (eqb (kind_at s at) 1) h.settings;
        poses = below_held 8 12 (at + 4) j.poses (eqb (kind_at s at) 2) h.poses;
        ends = below_held 4 2 (at + 4) j.ends (eqb (kind_at s at) 3) h.ends;
        edges = below_held 4 8 (at + 12) j.edges (eqb (kind_at s at) 3) h.edges;
        fixed = below_held 4 1 (at + 4) j.fixed (eqb (kind_at s at) 4) h.fixed;
      }

  pub comes_wide : (room : Tally) {c : Cursor} {j : Job} → Comes room s c j → Wide j
  comes_wide room begins = record { settings = λ k. lit< tt; poses = λ k. lit< tt; ends = λ k. lit< tt; edges = λ k. lit< tt; fixed = λ k. lit< tt }
  comes_wide room (passes {c = c} {j = j} w e) = wide_holding c.at j (comes_wide room w)

-- eight bytes a number of a pose, four each other number
pub read_wide : (room : Tally) (s : List ℕ) (t : Tally) (j : Job) → Bytes s → reading room s ≡ taken t j → Wide j
read_wide room s t j b e = comes_wide s b room (taken_there room s t j e).1

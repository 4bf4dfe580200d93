use mathlib.Core.Path.{◌≡◌, refl, ◌∙◌}
use mathlib.Core.Bool.{Bool, true, false}
use mathlib.Core.List.{List}
use Prim.Native.Nat.{ℕ, ◌+◌, ◌*◌, ◌<◌, ◌≤◌}
use native.Mathlib.Omega.{arith}
use borrow.Author.Count.{below_more}
use borrow.Author.Tests.{leb-true}
use lib.Dec.{leb}
use lib.ListN.{length, get_or, set, length-set, length-replicate}
use lib.Seq.{get_or-set_same, get_or-set_other}
use Rattle.numbers.specs.Notation.{if_then}
use Rattle.numbers.proofs.Tables.{is_table}
use Rattle.profile.specs.Layout.{need}
use Rattle.profile.specs.Starts.{start_of, order_for}
use Rattle.profile.proofs.starts.Goals as goal

within : (len n : ℕ) → order_for len n * order_for len n ≤ len
unfolding order_for if_then
within len n = go (leb (need n) len) (leb-true (need n) len)
  where
    go : (b : Bool) → (b ≡ true → need n ≤ len) → if_then b n 0 * if_then b n 0 ≤ len
    go true h = omega (arith, h refl)
    go false h = omega arith

more : (f : List ℕ) (i x : ℕ) (s : ℕ → ℕ) → i < length f → ((q : ℕ) → q < i → get_or f q 0 ≡ s q) → x ≡ s i → (q : ℕ) → q < i + 1 → get_or (set f i x) q 0 ≡ s q
more f i x s l h e =
    below_more (λ q. get_or (set f i x) q 0 ≡ s q) i
    (λ q g. get_or-set_other f i q x 0 (λ z. omega arith) ∙ h q g)
    (get_or-set_same f i x 0 l ∙ e)

pub loop-i-init : goal.loop-i-init
loop-i-init c = (length-replicate {A = ℕ} 384 0, λ q l. absurd (omega arith))

pub first_in-requires : goal.first_in-requires
first_in-requires c = rw c.order_for-m.ensures (within _ _)

pub loop-i-preserved : goal.loop-i-preserved
loop-i-preserved c = (simp length-set c.loop-i.invariant.0, more c.loop-i.f c.loop-i.i c.first_in.result _ (omega arith) c.loop-i.invariant.1 c.first_in.ensures)

pub returns : goal.returns
returns c =
    let w = c.args.w.now in
    let e : c.loop-i.i ≡ 384 = omega arith in
    is_table 0 c.loop-i.f (start_of w c.order_for-m.result) 384 c.loop-i.invariant.0 (rw e at c.loop-i.invariant.1) ∙ rw c.order_for-m.ensures

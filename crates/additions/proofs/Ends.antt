-- What a free end adds, and what two add, by what went well of it. Assumes nothing.
use Rattle.std.specs.Prelude.{Err, Ok}
use mathlib.Core.Path.{◌≡◌, ap, sym, ◌∙◌}
use mathlib.Core.List.{List, ◌++◌}
use Prim.Native.Nat.{ℕ, ◌+◌, ◌*◌}
use lib.Ieee.{Float}
use lib.ListN.{take, drop}
use Rattle.numbers.specs.Walks.{and_then, Went}
use Rattle.numbers.specs.declared.Failure.{Failure}
use Rattle.numbers.proofs.Walking.{then_failed, then_went}
use Rattle.numbers.proofs.Parted.{part_from, with_part, part_from_lem, with_part_lem}
use Rattle.additions.specs.Additions.{on_part, gradient_added, lower_triangle, block_added, end_added, cross_added, ends_added}

-- what a call said, by what was told of it
pub answered : {S : Type 0} {x y : Went} {t : S} {z : Went × S} → (x, t) ≡ z → x ≡ y → z ≡ (y, t)
answered {t = t} e f = sym e ∙ ap (λ (x : Went). (x, t)) f

-- what a callee that was lent the part says of it, said of the whole
lent_part : (f : List Float → Went × List Float) (at : ℕ) (w : List Float) {r s : Went} {ys : List Float}
    → (r, ys) ≡ f (part_from at w) → r ≡ s → on_part at f w ≡ (s, with_part at w ys)
lent_part f at w {r} {s} {ys} e q =
    let p : f (drop at w) ≡ (s, ys) = sym (e ∙ ap f (part_from_lem at w)) ∙ ap (λ (x : Went). (x, ys)) q in
    ap (λ (x : Went × List Float). (x.0, take at w ++ x.1)) p ∙ ap (λ (y : List Float). (s, y)) (sym (with_part_lem at w ys))

-- a free end whose gradient could not be added, and one whose gradient could
module _ (n dof b : ℕ) (j : List (List Float)) (r w : List Float) where
  pub end_failed : {went : Went} {why : Failure} {ys : List Float}
      → (went, ys) ≡ gradient_added dof j r (part_from (n * n + n + b * dof) w) → went ≡ Err why
      → (Err why, with_part (n * n + n + b * dof) w ys) ≡ end_added lower_triangle n dof b j r w
  unfolding end_added
  end_failed e q = then_failed _ _ (lent_part (gradient_added dof j r) (n * n + n + b * dof) w e q)

  pub end_went : {went said : Went} {ys last : List Float}
      → (went, ys) ≡ gradient_added dof j r (part_from (n * n + n + b * dof) w) → went ≡ Ok tt
      → (said, last) ≡ block_added lower_triangle n dof b b j j (with_part (n * n + n + b * dof) w ys)
      → (said, last) ≡ end_added lower_triangle n dof b j r w
  unfolding end_added
  end_went e q h = then_went _ _ (lent_part (gradient_added dof j r) (n * n + n + b * dof) w e q) h

-- two free ends
module _ (n dof i k : ℕ) (ja jb : List (List Float)) (r w : List Float) {x : Went} {wa : List Float} (a : (x, wa) ≡ end_added lower_triangle n dof i ja r w) where
  pub ends_lost_a : {why : Failure} → x ≡ Err why → (Err why, wa) ≡ ends_added lower_triangle n dof i k ja jb r w
  unfolding ends_added and_then
  ends_lost_a e = rw (← a, e)

  module _ (e : x ≡ Ok tt) {y : Went} {wb : List Float} (b : (y, wb) ≡ end_added lower_triangle n dof k jb r wa) where
    pub ends_lost_b : {why : Failure} → y ≡ Err why → (Err why, wb) ≡ ends_added lower_triangle n dof i k ja jb r w
    unfolding ends_added and_then
    ends_lost_b f = rw (← a, e, ← b, f)

    pub ends_had : {s : Went × List Float} → y ≡ Ok tt → s ≡ cross_added lower_triangle n dof i k ja jb wb → s ≡ ends_added lower_triangle n dof i k ja jb r w
    unfolding ends_added and_then
    ends_had f h = rw (← a, e, ← b, f) h

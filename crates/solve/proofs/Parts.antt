-- A part of the work, the m places from p on: cleared and put back, and looked at. Assumes nothing.
use mathlib.Core.Path.{◌≡◌, sym, ap, ◌∙◌}
use mathlib.Core.Bool.{Bool, true, false}
use mathlib.Core.List.{List, ◌++◌}
use Prim.Native.Nat.{ℕ, ◌+◌, ◌-◌, ◌<◌, ◌≤◌}
use native.Mathlib.Omega.{arith}
use lib.ListN.{length, get_or, take, drop, replicate, length-drop}
use lib.Seq.{length-take-le, get_or-take, get_or-drop}
use lib.Ieee.{Float, nan}
use Rattle.std.specs.Bool.{MatchBool}
use Rattle.std.specs.List.{AllWithin, HoldsAt}
use Rattle.numbers.specs.Notation.{num}
use Rattle.numbers.specs.Walks.{every}
use Rattle.numbers.proofs.Walking.{every_all, every_miss}
use Rattle.slices.proofs.Laws.{cleared_within}
use Rattle.solve.specs.forms.Profile.{cleared_at}
use Rattle.solve.proofs.Places.{cleared_whole}

module _ (p m : ℕ) (w : List Float) where
  -- as the code takes it
  abbrev pub part : List Float
  part = take (p + m - p) (drop p w)

  module _ (room : p + m ≤ length w) where
    part_long : length part ≡ m
    part_long =
        let e : p + m - p ≡ m = omega arith in
        length-take-le (p + m - p) (drop p w) (rw (length-drop p w) (omega arith)) ∙ e

    pub part_cleared : {ys : List Float} → ys ≡ replicate (length part) (num 0) → take p w ++ (ys ++ drop (p + m - p) (drop p w)) ≡ cleared_at w p m
    part_cleared c = cleared_within p m w room c ∙ cleared_whole w p m room

    part_at : (k : ℕ) → k < m → get_or w (p + k) nan ≡ get_or part k nan
    part_at k l = sym (get_or-take (p + m - p) (drop p w) k nan (omega arith) ∙ get_or-drop p w k nan)

    -- a test of each
    pub part_every : (t : Float → Bool) (r : Bool)
        → MatchBool r (AllWithin (λ x. t x ≡ true) part 0 (length part)) ((k : ℕ) × (k < length part) × HoldsAt (λ x. t x ≡ false) part k)
        → r ≡ every (λ k. t (get_or w (p + k) nan)) m
    part_every t true h = sym (every_all (λ k. t (get_or w (p + k) nan)) m (λ k l. ap t (part_at k l) ∙ h k nan (omega arith) (rw part_long l)))
    part_every t false h =
        let l : h.0 < m = rw part_long at h.1 in
        sym (every_miss (λ k. t (get_or w (p + k) nan)) h.0 m l (ap t (part_at h.0 l) ∙ h.2 nan))

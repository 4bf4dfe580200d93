-- Additions to a part of the work are additions to the whole. Assumes nothing.
use Rattle.std.specs.Prelude.{Err, Ok}
use mathlib.Core.Path.{◌≡◌, refl, ap, ◌∙◌}
use mathlib.Core.List.{List, ◌++◌}
use Prim.Native.Nat.{ℕ, zero, suc, ◌+◌}
use native.Mathlib.Omega.{arith}
use lib.ListN.{take, drop, take-append-drop}
use lib.Seq.{get_or-drop, take-set-le, drop-set-add}
use lib.Ieee.{Float, nan}
use Rattle.numbers.specs.Walks.{Ended, done, stopped, step_end, step_on, each, well, Went}
use Rattle.numbers.proofs.Invariants.{Good, Over, each_over}
use Rattle.additions.specs.Additions.{add_to, on_part}

abbrev part : ℕ → Ended (List Float) → Ended (List Float)
part at (done w) = done (drop at w)
part at (stopped k why w) = stopped k why (drop at w)

module _ (at : ℕ) (v : ℕ → Float) where
  abbrev in_part : ℕ → List Float → Went × List Float
  in_part c w = add_to w c (v c)

  abbrev in_whole : ℕ → List Float → Went × List Float
  in_whole c w = add_to w (at + c) (v c)

  add_part : (c : ℕ) (w : List Float) → in_part c (drop at w) ≡ ((in_whole c w).0, drop at (in_whole c w).1)
  unfolding add_to
  add_part c w = rw (get_or-drop at w c nan, drop-set-add)

  turn_part : (n : ℕ) (x : Went × List Float) → step_end n (x.0, drop at x.1) ≡ part at (step_end n x)
  turn_part n (Ok _, w) = refl
  turn_part n (Err why, w) = refl

  each_part : (n : ℕ) (w : List Float) → each in_part n (drop at w) ≡ part at (each in_whole n w)
  unfolding each
  each_part zero w = refl
  each_part (suc n) w = rw (each_part n w) (go (each in_whole n w))
    where
      go : (e : Ended (List Float)) → step_on (part at e) n in_part ≡ part at (step_on e n in_whole)
      go (done w) = ap (step_end n) (add_part n w) ∙ turn_part n (in_whole n w)
      go (stopped k why w) = refl

  -- the numbers before the part stay
  abbrev Front : List Float → List Float → Type 0
  Front w y = take at y ≡ take at w

  kept : (w : List Float) (x : Went) (y : List Float) → Front w y → Good (Front w) (Front w) (x, y)
  kept w (Ok _) y e = e
  kept w (Err why) y e = e

  stored : (w : List Float) (c : ℕ) (y : List Float) → Front w y → Front w (in_whole c y).1
  unfolding add_to
  stored w c y e = take-set-le at y (at + c) _ (omega arith) ∙ e

  front_kept : (n : ℕ) (w : List Float) → Over (Front w) (Front w) (each in_whole n w)
  front_kept n w = each_over (Front w) (Front w) in_whole n w (λ c _ y e. kept w (in_whole c y).0 (in_whole c y).1 (stored w c y e)) refl

  pub part_each : (n : ℕ) (w : List Float) → on_part at (λ y. well (each in_part n y)) w ≡ well (each in_whole n w)
  part_each n w = ap (λ (e : Ended (List Float)). ((well e).0, take at w ++ (well e).1)) (each_part n w) ∙ go (each in_whole n w) (front_kept n w)
    where
      go : (e : Ended (List Float)) → Over (Front w) (Front w) e → ((well (part at e)).0, take at w ++ (well (part at e)).1) ≡ well e
      go (done y) q = ap (λ (l : List Float). (Ok tt, l)) (rw (← q) (take-append-drop at y))
      go (stopped k why y) q = ap (λ (l : List Float). (Err why, l)) (rw (← q) (take-append-drop at y))

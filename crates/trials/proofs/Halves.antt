-- What a trial leaves in numbers that hold so many poses twice and nothing else: its poses behind the accepted ones, and in their place. Assumes nothing.
use Rattle.std.specs.Prelude.{Option}
use mathlib.Core.Path.{◌≡◌, ap, ◌∙◌}
use mathlib.Core.List.{List, ◌++◌, append-nil}
use Prim.Native.Nat.{ℕ, ◌+◌, ◌*◌, ◌/◌, ◌≤◌}
use native.Mathlib.Omega.{arith}
use lib.ListN.{length, get_or, take, drop, length-append, drop_of_length-le}
use lib.Seq.{length-take-le, take_at, drop_at, take_all}
use lib.Ieee.{Float, nan, lt}
use Rattle.numbers.specs.Notation.{if_then}
use Rattle.numbers.proofs.Tables.{length_table}
use Rattle.graph.specs.Graph.{Links}
use Rattle.graph.specs.Lent.{pose_at}
use Rattle.graph.specs.declared.Edge.{Edge}
use Rattle.graph.specs.declared.Manifold.{Manifold}
use Rattle.costs.specs.Costs.{cost_ends}
use Rattle.decisions.specs.Run.{heard}
use Rattle.decisions.specs.declared.Raw.TheVariants as raw
use Rattle.trials.specs.Trials.{norm_of, step_tolerance, moves, moved_numbers, tried_as, half, trial_in, taken_over, try_answers}

module _ (m : Manifold) (slot : ℕ → Option ℕ) (δ : ℕ → Float) (poses : ℕ) (w : List Float) (long : length w ≡ poses * 24) where
  pub count_is : length w / 24 ≡ poses
  count_is = omega arith

  pub half_is : half w ≡ poses * 12
  half_is = omega arith

  abbrev held : List Float
  held = take (poses * 12) w

  abbrev moved : List Float
  moved = moved_numbers m slot held δ

  held_long : length held ≡ poses * 12
  held_long = length-take-le (poses * 12) w (omega arith)

  moved_long : length moved ≡ poses * 12
  unfolding moved_numbers
  moved_long = length_table _ _ ∙ held_long

  -- the accepted poses, then the trial's
  trial_is : trial_in m slot δ w ≡ held ++ moved
  trial_is =
      let past : length w ≤ poses * 12 + poses * 12 = omega arith in
      ap (λ (k : ℕ). take k w ++ (moved_numbers m slot (take k w) δ ++ drop (k + k) w)) half_is
      ∙ ap (λ (z : List Float). held ++ (moved ++ z)) (drop_of_length-le w past)
      ∙ ap (λ (z : List Float). held ++ z) (append-nil moved)

  trial_long : length (trial_in m slot δ w) ≡ length w
  trial_long = let a = held_long in let b = moved_long in ap length trial_is ∙ length-append held moved ∙ omega arith

  pub trial_front : take (poses * 12) (trial_in m slot δ w) ≡ take (poses * 12) w
  trial_front = ap (take (poses * 12)) trial_is ∙ take_at held moved (poses * 12) held_long

  pub trial_behind : drop (half w) (trial_in m slot δ w) ≡ moved_numbers m slot (take (poses * 12) w) δ
  trial_behind =
      ap (λ (k : ℕ). drop k (trial_in m slot δ w)) half_is ∙ ap (drop (poses * 12)) trial_is ∙ drop_at held moved (poses * 12) held_long

  -- the trial's taken over
  pub accepted_front : take (poses * 12) (taken_over (trial_in m slot δ w)) ≡ moved_numbers m slot (take (poses * 12) w) δ
  accepted_front =
      let e : half (trial_in m slot δ w) ≡ half w = ap (λ (k : ℕ). k / 24 * 12) trial_long in
      let b : drop (half (trial_in m slot δ w)) (trial_in m slot δ w) ≡ moved = ap (λ (k : ℕ). drop k (trial_in m slot δ w)) e ∙ trial_behind in
      let h : half (trial_in m slot δ w) ≡ poses * 12 = e ∙ half_is in
      let f : taken_over (trial_in m slot δ w) ≡ moved ++ moved
      = rw (b, h) (ap (λ (z : List Float). z ++ moved) (take_all (poses * 12) moved (omega (arith, moved_long)))) in
      ap (take (poses * 12)) f ∙ take_at moved moved (poses * 12) moved_long

  -- what the step comes to
  pub tried_halves : (l : Links Edge) (cost : Float) (step : List Float) → slot ≡ l.slot → δ ≡ (λ i. get_or step i nan)
      → try_answers m l cost step w
      ≡ heard cost
      (if_then (lt (norm_of δ (length step)) step_tolerance) raw.Small
      (tried_as (moves m l.slot poses (take (poses * 12) w) δ) (cost_ends l (pose_at (moved_numbers m l.slot (take (poses * 12) w) δ)))))
  unfolding try_answers
  tried_halves l cost step e f = rw (← e, ← f, trial_behind, count_is)

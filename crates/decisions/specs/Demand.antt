-- Demand 3 of docs/PROOF.md, of a state that a run has come to from the first cost. Definitions only.
use Rattle.numbers.specs.declared.Refusal.{Refusal}
use Rattle.decisions.specs.declared.Why.{Why}
use Rattle.std.specs.Prelude.{ℕ, ◌+◌, ◌*◌, ◌≤◌, ◌<◌, ◌≡◌, true, Float, Err, Ok, Result}
use Rattle.std.specs.Float.Ieee.{lt}
use Rattle.decisions.specs.declared.State.{State}
use Rattle.decisions.specs.declared.Why.TheVariants as why

-- A + R is at most the limit; R + F at most A + 55; the solves tried at most 2A + 55; the cost is the first one where A is 0, and strictly
-- lower where A is above 0
pub record Held (limit : ℕ) (first : Float) (s : State) : Type 0 where
  pub trials : s.accepted + s.rejected ≤ limit
  pub raises : s.rejected + s.failed ≤ s.accepted + 55
  pub tried : s.solves ≤ 2 * s.accepted + 55
  pub kept : s.accepted ≡ 0 → s.cost ≡ first
  pub lower : 0 < s.accepted → lt s.cost first ≡ true

-- The solves tried in a run that has ended so: A + R + F, and one more where it ended by Step, whose last solve is counted and is no trial.
abbrev pub small_steps : Result Why Refusal → ℕ
small_steps (Ok why.Budget) = 0
small_steps (Ok why.Gradient) = 0
small_steps (Ok why.Step) = 1
small_steps (Ok why.Cost) = 0
small_steps (Ok why.Damping) = 0
small_steps (Err r) = 0

abbrev pub solves_tried : State → Result Why Refusal → ℕ
solves_tried s e = s.accepted + s.rejected + s.failed + small_steps e

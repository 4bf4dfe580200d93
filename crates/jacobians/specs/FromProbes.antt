-- The Jacobian of an edge from its parts: the link, and the transforms of the probes of an end. `proofs/Parting` says that it is what `Jacobians` says.
-- Definitions only.
use Rattle.exp_log.specs.Formats.{Twist}
use Rattle.numbers.specs.declared.Failure.{Failure}
use Rattle.std.specs.Prelude.{ℕ, ◌<◌, ◌≡◌, Bool, true, false, List, Float, Err, Ok, Result}
use Rattle.numbers.specs.Walks.{each, well, Went}
use Rattle.rotations.specs.Formats.{Transform}
use Rattle.pose_conversion.specs.Conversions.{converting}
use Rattle.residual.specs.EdgeParts.{residual_in, end_at}
use Rattle.residual.specs.declared.Link.{Link}
use Rattle.residual.specs.declared.EdgeEndpoint.{EdgeEndpoint}
use Rattle.jacobians.specs.Jacobians.{with_six, derivative, put_six, zeros}

-- the residual with one end at another transform
unfoldable pub moved_in : Link → EdgeEndpoint → Result Transform Failure → Result Twist Failure
moved_in l end x = converting x (λ t. residual_in (end_at l end t)) Err

-- the six derivatives along an axis, from an end's transforms ahead and behind
unfoldable pub column_in : Link → EdgeEndpoint → Result Transform Failure → Result Transform Failure → Result Twist Failure
column_in l end x y = with_six (moved_in l end x) (λ p. with_six (moved_in l end y) (λ q. derivative p q) Err) Err

-- the probes along the first three axes have one quaternion
abbrev pub SharesTurn : (ℕ → Bool → Result Transform Failure) → Type 0
SharesTurn probe = (c : ℕ) (ahead : Bool) (t u : Transform) → c < 3 → probe 0 true ≡ Ok u → probe c ahead ≡ Ok t → t.q ≡ u.q

unfoldable pub column_step_in : Link → EdgeEndpoint → (ℕ → Bool → Result Transform Failure) → ℕ → List (List Float) → Went × List (List Float)
column_step_in l end probe c j = with_six (column_in l end (probe c true) (probe c false)) (λ d. (Ok tt, put_six j c d)) (λ why. (Err why, j))

unfoldable pub jacobian_in : ℕ → Link → EdgeEndpoint → (ℕ → Bool → Result Transform Failure) → Went × List (List Float)
jacobian_in dof l end probe = well (each (column_step_in l end probe) dof zeros)

-- The Jacobian of an edge from the cells in which an assembly keeps what it knows of the poses, eight numbers each (Stowed of costs): first the transforms
-- of the first 256 poses, then twelve cells a pose, of its probes ahead along each axis and of its probes behind. All shifts have one hinge, that of the
-- first probe. `proofs/Sharing` says that where the shifts share their quaternion this is what `FromProbes` says. Definitions only.
use Rattle.exp_log.specs.Formats.{Twist}
use Rattle.numbers.specs.declared.Failure.{Failure}
use Rattle.rotations.specs.Formats.{Transform, Quat}
use Rattle.std.specs.Prelude.{ℕ, ◌+◌, ◌*◌, Bool, true, false, ◌&&◌, List, ltb, leb, length, Float, Err, Ok, Result}
use Rattle.numbers.specs.Notation.{if_then}
use Rattle.numbers.specs.Walks.{each, well, Went}
use Rattle.numbers.specs.declared.Failure.TheVariants.{Numerical}
use Rattle.rotations.specs.Rotation.{wide}
use Rattle.pose_conversion.specs.Conversions.{converting}
use Rattle.graph.specs.Lent.{edge_at}
use Rattle.graph.specs.declared.Edge.{Edge}
use Rattle.residual.specs.EdgeParts.{hinge_of, residuals_at}
use Rattle.costs.specs.Stowed.{stowed_from, stowed_in}
use Rattle.exp_log.specs.declared.Both.{Both}
use Rattle.residual.specs.declared.EdgeEndpoint.{EdgeEndpoint}
use Rattle.residual.specs.declared.Hinge.{Hinge}
use Rattle.residual.specs.declared.Link.{Link}
use Rattle.jacobians.specs.declared.BadJacobian.{BadJacobian}
use Rattle.jacobians.specs.Jacobians.{with_six, derivative, put_six, zeros}

-- the cell of pose x's probe along axis c, and what it holds
abbrev pub spot : ℕ → ℕ → Bool → ℕ
spot x c true = 256 + (x * 12 + c)
spot x c false = 256 + (x * 12 + (6 + c))

abbrev pub stowed_probes : List Float → ℕ → ℕ → Bool → Result Transform Failure
stowed_probes l x c ahead = stowed_in l (spot x c ahead)

-- ---- the derivatives along an axis

-- what the quaternion q of an end gives along axis c, all shifts having one, which gives `shift`; and what two give
unfoldable pub hinge_along : Link → EdgeEndpoint → Hinge → ℕ → Quat → Hinge
hinge_along l end shift c q = if_then (ltb c 3) shift (hinge_of l end q)

unfoldable pub hinges_along : Link → EdgeEndpoint → Hinge → ℕ → Quat → Quat → Both Hinge
hinges_along l end shift c p q = record { ahead = hinge_along l end shift c p; behind = hinge_along l end shift c q }

-- from the probes and the two residuals, asked in turn
unfoldable pub column_by : Result Transform Failure → Result Twist Failure → Result Transform Failure → Result Twist Failure → Result Twist Failure
column_by x p y q = converting x (λ t. with_six p (λ p. converting y (λ u. with_six q (λ q. derivative p q) Err) Err) Err) Err

-- from the two cells, of which both residuals are worked out whether they hold a probe or not
abbrev pub residuals_by : Link → EdgeEndpoint → Hinge → ℕ → Edge → Edge → Both (Result Twist Failure)
residuals_by l end shift c a b =
    residuals_at l end (hinges_along l end shift c (wide a.measured).q (wide b.measured).q) (wide a.measured).t (wide b.measured).t

unfoldable pub column_shared : Link → EdgeEndpoint → Hinge → ℕ → Edge → Edge → Result Twist Failure
column_shared l end shift c a b =
    column_by (stowed_from a) (residuals_by l end shift c a b).ahead (stowed_from b) (residuals_by l end shift c a b).behind

-- ---- the Jacobian: column by column, with the hinge of all shifts; and where the first probe could be had, with its hinge

unfoldable pub column_step_shared : Link → EdgeEndpoint → Hinge → (ℕ → Bool → Edge) → ℕ → List (List Float) → Went × List (List Float)
column_step_shared l end shift cell c j =
    with_six (column_shared l end shift c (cell c true) (cell c false)) (λ d. (Ok tt, put_six j c d)) (λ why. (Err why, j))

unfoldable pub jacobian_by : ℕ → Link → EdgeEndpoint → Hinge → (ℕ → Bool → Edge) → Went × List (List Float)
jacobian_by dof l end shift cell = well (each (column_step_shared l end shift cell) dof zeros)

abbrev pub jacobian_shared : ℕ → Link → EdgeEndpoint → Result Transform Failure → (ℕ → Bool → Edge) → Went × List (List Float)
jacobian_shared dof l end first cell = converting first (λ t. jacobian_by dof l end (hinge_of l end (wide t).q) cell) (λ why. (Err why, zeros))

-- from the cells of pose x; its first probe can't be had where not all 26624 numbers are lent or x is not one of the 256 poses
abbrev pub cells_of : List Float → ℕ → ℕ → Bool → Edge
cells_of l x c ahead = edge_at l (spot x c ahead)

unfoldable pub first_probe : List Float → ℕ → Result Transform Failure
first_probe l x = if_then (leb 26624 (length l) && ltb x 256) (stowed_probes l x 0 true) (Err Numerical)

unfoldable pub jacobian_at : List Float → ℕ → ℕ → Link → EdgeEndpoint → Went × List (List Float)
jacobian_at known x dof l end = jacobian_shared dof l end (first_probe known x) (cells_of known x)

-- an answer of the code: the whole Jacobian, or why it can't be had and the columns till then
abbrev pub jacobian_told : Result (List (List Float)) BadJacobian → Went × List (List Float)
jacobian_told (Ok j) = (Ok tt, j)
jacobian_told (Err bad) = (Err bad.why, bad.columns)

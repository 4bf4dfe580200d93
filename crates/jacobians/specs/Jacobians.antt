-- The Jacobian of an edge for one of its ends: document 01, "Graph, residual, assembly". Six rows of DOF numbers, held as six rows of six; the columns from
-- DOF on stay +0. All f32. Definitions only.
use Rattle.std.specs.Prelude.{ℕ, List, [], get_or, set, replicate, Float, Err, Ok, Result}
use Rattle.std.specs.Float.Ieee.{neg}
use Rattle.numbers.specs.Notation.{◌⊟◌, ◌⊠◌, ◌⧄◌, num}
use Rattle.numbers.specs.Walks.{each, well, Went}
use Rattle.numbers.specs.declared.Failure.{Failure}
use Rattle.rotations.specs.Formats.{Vec3F32}
use Rattle.exp_log.specs.Formats.{Twist}
use Rattle.rotations.specs.declared.Pose.{Pose}
use Rattle.pose_conversion.specs.Conversions.{restoring}
use Rattle.graph.specs.Lent.{dof_of}
use Rattle.graph.specs.declared.Edge.{Edge}
use Rattle.graph.specs.declared.Manifold.{Manifold}
use Rattle.retraction.specs.Retraction.{retract_of}
use Rattle.residual.specs.Residuals.{residual_of, six_if_finite}
use Rattle.probes.specs.Probes.{eps, nudge}
use Rattle.residual.specs.declared.EdgeEndpoint.{EdgeEndpoint}
use Rattle.residual.specs.declared.EdgeEndpoint.TheVariants.{A, B}

-- the number in row k and column i replaced
abbrev pub put_at : List (List Float) → ℕ → ℕ → Float → List (List Float)
put_at j k i v = set j k (set (get_or j k []) i v)

-- the residual with one end moved by δ
unfoldable pub moved_residual : Manifold → Pose → Pose → Edge → EdgeEndpoint → List Float → Result Twist Failure
moved_residual m a b e A δ = restoring (retract_of m a δ) (λ p. residual_of p b e) Err
moved_residual m a b e B δ = restoring (retract_of m b δ) (λ p. residual_of a p e) Err

-- go on with six numbers that could be had
unfoldable pub with_six : {X : Type 0} → Result Twist Failure → (Twist → X) → (Failure → X) → X
with_six (Ok d) next failed = next d
with_six (Err why) next failed = failed why

-- (r(+0.001) − r(−0.001)) / (2 × 0.001), each finite
abbrev pub slope : Float → Float → Float
slope p q = (p ⊟ q) ⧄ (num 2 ⊠ eps)

unfoldable pub slope_vec : Vec3F32 → Vec3F32 → Vec3F32
slope_vec p q = record { x = slope p.x q.x; y = slope p.y q.y; z = slope p.z q.z }

unfoldable pub derivative : Twist → Twist → Result Twist Failure
derivative p q = six_if_finite (record { t = slope_vec p.t q.t; r = slope_vec p.r q.r })

-- the six derivatives along axis c
unfoldable pub column_of : Manifold → Pose → Pose → Edge → EdgeEndpoint → ℕ → Result Twist Failure
column_of m a b e end c =
    with_six (moved_residual m a b e end (nudge c eps))
    (λ p. with_six (moved_residual m a b e end (nudge c (neg eps)))
    (λ q. derivative p q)
    Err) Err

-- a column filled in, row by row
abbrev pub put_six : List (List Float) → ℕ → Twist → List (List Float)
put_six j c d = put_at (put_at (put_at (put_at (put_at (put_at j 0 c (d.t).x) 1 c (d.t).y) 2 c (d.t).z) 3 c (d.r).x) 4 c (d.r).y) 5 c (d.r).z

unfoldable pub column_step : Manifold → Pose → Pose → Edge → EdgeEndpoint → ℕ → List (List Float) → Went × List (List Float)
column_step m a b e end c j = with_six (column_of m a b e end c) (λ d. (Ok tt, put_six j c d)) (λ why. (Err why, j))

abbrev pub zeros : List (List Float)
zeros = replicate 6 (replicate 6 (num 0))

-- column by column
unfoldable pub jacobian_of : Manifold → Pose → Pose → Edge → EdgeEndpoint → Went × List (List Float)
jacobian_of m a b e end = well (each (column_step m a b e end) (dof_of m) zeros)

-- The weighted relative residual of an edge: document 01, "Graph, residual, assembly". Definitions only.
use Rattle.numbers.specs.declared.Failure.{Failure}
use Rattle.std.specs.Prelude.{Bool, true, false, ◌&&◌, List, [], ◌∷◌, Float, Err, Ok, Result}
use Rattle.std.specs.Float.Ieee.Scale.{finite}
use Rattle.numbers.specs.Notation.{◌⊠◌, if_then}
use Rattle.rounding.specs.Rounding.{narrowed}
use Rattle.numbers.specs.declared.Failure.TheVariants.{Numerical}
use Rattle.rotations.specs.Rotation.{product, inverse}
use Rattle.exp_log.specs.ExpLog.{log_wide}
use Rattle.rotations.specs.Formats.{Transform, Vec3, Vec3F32}
use Rattle.exp_log.specs.Formats.{Twist, WideTwist}
use Rattle.rotations.specs.declared.Pose.{Pose}
use Rattle.pose_conversion.specs.Conversions.{finite3, valid_transform, checked_transform, converting}
use Rattle.graph.specs.declared.Edge.{Edge}

-- measured⁻¹ · (B · A⁻¹)
unfoldable pub error_of : Transform → Transform → Transform → Transform
error_of a b measured = product (inverse measured) (product b (inverse a))

-- document 01, "Rotation arithmetic": the six numbers of log are narrowed first, and then weighted in f32 (T12)
unfoldable pub weighted_vec : Float → Vec3 → Vec3F32
weighted_vec w v = record { x = w ⊠ narrowed v.x; y = w ⊠ narrowed v.y; z = w ⊠ narrowed v.z }

unfoldable pub weighted : Float → WideTwist → Twist
weighted w d = record { t = weighted_vec w d.t; r = weighted_vec w d.r }

unfoldable pub finite_twist : Twist → Bool
finite_twist d = finite3 (d.t).x (d.t).y (d.t).z && finite3 (d.r).x (d.r).y (d.r).z

unfoldable pub six_if_finite : Twist → Result Twist Failure
six_if_finite d = if_then (finite_twist d) (Ok d) (Err Numerical)

-- weight × log(measured⁻¹ · (B · A⁻¹)), translation first. The weight, the measured transform and both poses must convert, and the residual be finite.
unfoldable pub residual_of : Pose → Pose → Edge → Result Twist Failure
residual_of a b e =
    if_then (finite e.weight)
    (converting (valid_transform e.measured)
    (λ m. converting (checked_transform b)
    (λ tb. converting (checked_transform a)
    (λ ta. six_if_finite (weighted e.weight (log_wide (error_of ta tb m))))
    Err) Err) Err)
    (Err Numerical)

-- whether it could be had
abbrev pub has_residual : Result Twist Failure → Bool
has_residual (Ok d) = true
has_residual (Err why) = false

-- the six numbers in order
abbrev pub six_of : Twist → List Float
six_of d = (d.t).x ∷ (d.t).y ∷ (d.t).z ∷ (d.r).x ∷ (d.r).y ∷ (d.r).z ∷ []

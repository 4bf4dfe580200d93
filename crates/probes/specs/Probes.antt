-- The probes of a pose: document 01, "Graph, residual, assembly", the derivatives. Each is the transform of the pose moved by a step of 0.001 along one
-- axis, ahead or behind. Definitions only.
use Rattle.numbers.specs.declared.Failure.{Failure}
use Rattle.rotations.specs.Formats.{Transform}
use Rattle.std.specs.Prelude.{ℕ, Bool, true, false, List, set, replicate, Float, Err, Result}
use Rattle.std.specs.Float.Ieee.{neg}
use Rattle.numbers.specs.Notation.{num, ratio32}
use Rattle.rotations.specs.declared.Pose.{Pose}
use Rattle.pose_conversion.specs.Conversions.{checked_transform, restoring}
use Rattle.graph.specs.declared.Manifold.{Manifold}
use Rattle.retraction.specs.Retraction.{retract_of}

-- NUM_JACOBIAN_EPS of the Rust
abbrev pub eps : Float
eps = ratio32 1 1000

-- a step of h along axis c
abbrev pub nudge : ℕ → Float → List Float
nudge c h = set (replicate 6 (num 0)) c h

-- how far: ahead, or behind
abbrev pub step_size : Bool → Float
step_size true = eps
step_size false = neg eps

-- the transform of a pose moved by δ
unfoldable pub probe_of : Manifold → Pose → List Float → Result Transform Failure
probe_of m p δ = restoring (retract_of m p δ) checked_transform Err

abbrev pub probes_of : Manifold → Pose → ℕ → Bool → Result Transform Failure
probes_of m p c ahead = probe_of m p (nudge c (step_size ahead))

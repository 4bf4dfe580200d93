-- The Jacobian of an edge, worked out from its parts, is what the definitions say. Assumes nothing.
use Rattle.numbers.specs.declared.Failure.{Failure}
use Rattle.rotations.specs.Formats.{Transform}
use Rattle.std.specs.Prelude.{Err, Ok, Result}
use mathlib.Core.Path.{◌≡◌, refl, ap}
use mathlib.Core.Bool.{Bool, true, false}
use mathlib.Core.List.{List}
use Prim.Native.Nat.{ℕ, ◌<◌}
use lib.Ieee.{Float}
use Rattle.numbers.specs.Walks.{well}
use Rattle.numbers.proofs.Walking.{each_ext}
use Rattle.exp_log.specs.Formats.{Twist}
use Rattle.rotations.specs.declared.Pose.{Pose}
use Rattle.pose_conversion.specs.Conversions.{checked_transform, converting, restoring}
use Rattle.graph.specs.Lent.{dof_of}
use Rattle.graph.specs.declared.Edge.{Edge}
use Rattle.graph.specs.declared.Manifold.{Manifold}
use Rattle.probes.specs.Probes.{nudge, step_size, probe_of, probes_of}
use Rattle.retraction.specs.Retraction.{retract_of}
use Rattle.residual.specs.EdgeParts.{residual_in, end_at, linked_of}
use Rattle.residual.specs.declared.Link.{Link}
use Rattle.residual.specs.declared.EdgeEndpoint.{EdgeEndpoint}
use Rattle.residual.specs.declared.EdgeEndpoint.TheVariants.{A, B}
use Rattle.residual.proofs.Linking.{other_from, other_to}
use Rattle.jacobians.specs.Jacobians.{moved_residual, column_of, column_step, zeros, jacobian_of}
use Rattle.jacobians.specs.FromProbes.{moved_in, column_in, column_step_in, jacobian_in}

-- the pose at an end
abbrev pub end_pose : EdgeEndpoint → Pose → Pose → Pose
end_pose A a b = a
end_pose B a b = b

module _ (m : Manifold) (a b : Pose) (e : Edge) {l : Link} {d : Twist} (h : linked_of (checked_transform a) (checked_transform b) e ≡ Ok (record { link = l; six = d })) where
  -- a pose moved, and the residual with it
  moved_pose : (end : EdgeEndpoint) {f : Pose → Result Twist Failure} → ((x : Pose) → f x ≡ converting (checked_transform x) (λ t. residual_in (end_at l end t)) Err)
      → (r : Result Pose Failure) → restoring r f Err ≡ moved_in l end (restoring r checked_transform Err)
  unfolding restoring converting moved_in
  moved_pose end g (Ok p) = g p
  moved_pose end g (Err why) = refl

  moved_linked : (end : EdgeEndpoint) (c : ℕ) (ahead : Bool)
      → moved_residual m a b e end (nudge c (step_size ahead)) ≡ moved_in l end (probes_of m (end_pose end a b) c ahead)
  unfolding moved_residual probe_of
  moved_linked A c ahead = moved_pose A (other_from a b e h) (retract_of m a (nudge c (step_size ahead)))
  moved_linked B c ahead = moved_pose B (other_to a b e h) (retract_of m b (nudge c (step_size ahead)))

  module _ (end : EdgeEndpoint) (probe : ℕ → Bool → Result Transform Failure) (p : (c : ℕ) → c < dof_of m → (s : Bool) → probe c s ≡ probes_of m (end_pose end a b) c s) where
    step_linked : (c : ℕ) → c < dof_of m → (j : List (List Float)) → column_step m a b e end c j ≡ column_step_in l end probe c j
    unfolding column_step column_step_in column_of column_in
    step_linked c b j = rw (p c b true, p c b false, moved_linked end c true, moved_linked end c false)

    pub jacobian_linked : jacobian_of m a b e end ≡ jacobian_in (dof_of m) l end probe
    unfolding jacobian_of jacobian_in
    jacobian_linked = ap well (each_ext (column_step m a b e end) (column_step_in l end probe) (dof_of m) zeros step_linked)

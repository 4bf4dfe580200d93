-- What an edge adds, worked out from its parts, is what the definitions say. Assumes nothing.
use Rattle.residual.specs.declared.Linked.{Linked}
use Rattle.numbers.specs.declared.Failure.{Failure}
use Rattle.rotations.specs.Formats.{Transform}
use Rattle.std.specs.Prelude.{Err, Ok, Result}
use mathlib.Core.Path.{◌≡◌, refl}
use mathlib.Core.Bool.{Bool}
use mathlib.Core.List.{List}
use Prim.Native.Nat.{ℕ, ◌<◌}
use lib.Ieee.{Float}
use Rattle.rotations.specs.declared.Pose.{Pose}
use Rattle.pose_conversion.specs.Conversions.{checked_transform}
use Rattle.graph.specs.Lent.{dof_of}
use Rattle.graph.specs.declared.Edge.{Edge}
use Rattle.graph.specs.declared.Manifold.{Manifold}
use Rattle.probes.specs.Probes.{probes_of}
use Rattle.residual.specs.EdgeParts.{linked_of}
use Rattle.residual.proofs.Linking.{linked_six, linked_lost}
use Rattle.jacobians.proofs.Parting.{end_pose, jacobian_linked}
use Rattle.jacobians.specs.Jacobians.{with_six}
use Rattle.additions.specs.Additions.{lower_triangle}
use Rattle.assembly.specs.Assembly.{one_of, both_of}
use Rattle.assembly.specs.FromParts.{with_link, one_in, both_in}
use Rattle.residual.specs.declared.EdgeEndpoint.{EdgeEndpoint}
use Rattle.residual.specs.declared.EdgeEndpoint.TheVariants.{A, B}

module _ (m : Manifold) (n : ℕ) (a b : Pose) (e : Edge) (w : List Float) where
  pub one_linked : (end : EdgeEndpoint) (i : ℕ) (probe : ℕ → Bool → Result Transform Failure)
      → ((c : ℕ) → c < dof_of m → (s : Bool) → probe c s ≡ probes_of m (end_pose end a b) c s)
      → one_in (dof_of m) n probe (linked_of (checked_transform a) (checked_transform b) e) end i w ≡ one_of lower_triangle m n a b e end i w
  unfolding one_in one_of with_link with_six
  one_linked end i probe p = go (linked_of (checked_transform a) (checked_transform b) e) refl
    where
      go : (x : Result Linked Failure) → linked_of (checked_transform a) (checked_transform b) e ≡ x → one_in (dof_of m) n probe x end i w ≡ one_of lower_triangle m n a b e end i w
      go (Ok y) h = rw (linked_six a b e h, jacobian_linked m a b e h end probe p)
      go (Err why) h = rw (linked_lost a b e h)

  pub both_linked : (i k : ℕ) (pa pb : ℕ → Bool → Result Transform Failure) → ((c : ℕ) → c < dof_of m → (s : Bool) → pa c s ≡ probes_of m a c s)
      → ((c : ℕ) → c < dof_of m → (s : Bool) → pb c s ≡ probes_of m b c s)
      → both_in (dof_of m) n pa pb (linked_of (checked_transform a) (checked_transform b) e) i k w ≡ both_of lower_triangle m n a b e i k w
  unfolding both_in both_of with_link with_six
  both_linked i k pa pb p q = go (linked_of (checked_transform a) (checked_transform b) e) refl
    where
      go : (x : Result Linked Failure) → linked_of (checked_transform a) (checked_transform b) e ≡ x → both_in (dof_of m) n pa pb x i k w ≡ both_of lower_triangle m n a b e i k w
      go (Ok y) h = rw (linked_six a b e h, jacobian_linked m a b e h A pa p, jacobian_linked m a b e h B pb q)
      go (Err why) h = rw (linked_lost a b e h)

-- What an edge adds, from its parts: the link, and the transforms of the probes of a free end. `proofs/Parting` says that it is what `Assembly` says.
-- Definitions only.
use Rattle.numbers.specs.Walks.{Went}
use Rattle.residual.specs.declared.Linked.{Linked}
use Rattle.rotations.specs.Formats.{Transform}
use Rattle.std.specs.Prelude.{ℕ, Bool, List, Float, Err, Ok, Result}
use Rattle.numbers.specs.declared.Failure.{Failure}
use Rattle.exp_log.specs.Formats.{Twist}
use Rattle.residual.specs.Residuals.{six_of}
use Rattle.residual.specs.declared.EdgeEndpoint.{EdgeEndpoint}
use Rattle.residual.specs.declared.EdgeEndpoint.TheVariants.{A, B}
use Rattle.residual.specs.declared.Link.{Link}
use Rattle.additions.specs.Additions.{lower_triangle, end_added, ends_added}
use Rattle.jacobians.specs.FromProbes.{jacobian_in}
use Rattle.assembly.specs.Assembly.{with_jacobian}

-- go on with a link that could be had
unfoldable pub with_link : {X : Type 0} → Result Linked Failure → (Link → Twist → X) → (Failure → X) → X
with_link (Ok x) next failed = next x.link x.six
with_link (Err why) next failed = failed why

-- an edge with one free end, and with two
unfoldable pub one_in : ℕ → ℕ → (ℕ → Bool → Result Transform Failure) → Result Linked Failure → EdgeEndpoint → ℕ → List Float → Went × List Float
one_in dof n probe x end i w =
    with_link x
    (λ l d. with_jacobian (jacobian_in dof l end probe) w
    (λ j. end_added lower_triangle n dof i j (six_of d) w))
    (λ why. (Err why, w))

unfoldable pub both_in : ℕ → ℕ → (ℕ → Bool → Result Transform Failure) → (ℕ → Bool → Result Transform Failure) → Result Linked Failure → ℕ → ℕ → List Float
    → Went × List Float
both_in dof n pa pb x i k w =
    with_link x
    (λ l d. with_jacobian (jacobian_in dof l A pa) w
    (λ ja. with_jacobian (jacobian_in dof l B pb) w
    (λ jb. ends_added lower_triangle n dof i k ja jb (six_of d) w)))
    (λ why. (Err why, w))

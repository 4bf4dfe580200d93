-- Row 26 of an assembly alone: it answers 26 exactly where a pose is adrift, and then the work is as found. Assumes nothing.
use Prim.Native.Nat.{ℕ, ◌*◌}
use native.Mathlib.Omega.{arith}
use Rattle.numbers.specs.declared.Refusal.{Refusal}
use Rattle.std.specs.Prelude.{Err, Ok, Result}
use mathlib.Core.Path.{◌≡◌, refl, ap, ◌∙◌}
use mathlib.Core.List.{List, []}
use lib.Ieee.{Float}
use Rattle.numbers.specs.Refusals.{refusal}
use Rattle.numbers.specs.Walks.{Ended, done, stopped}
use Rattle.numbers.specs.declared.Failure.TheVariants.{Numerical}
use Rattle.graph.specs.Graph.{links_of, free_count}
use Rattle.graph.specs.Lent.{dof_of, pose_at}
use Rattle.checks.specs.Input.{Input, graph_of}
use Rattle.checks.specs.Table.{graph_checks}
use Rattle.checks.specs.declared.Counts.{Counts}
use Rattle.checks.proofs.Row26.{SomeAdrift, refused_26_graph}
use Rattle.retraction.specs.Retraction.{unit_of}
use Rattle.assembly.specs.Assembly.{assembled_ends}
use Rattle.normal_system.specs.NormalSystem.{system_out, assemble_from, system_of}

system_other : (n : ℕ) (w : List Float) (e : Ended (List Float)) → (system_out n w e).0 ≡ 26 → ⊥
system_other n w (done s) e = omega arith
system_other n w (stopped k Numerical s) e = omega arith

fit_other : (i : Input) (w : List Float) (c : Counts) → (assemble_from i w (Ok c)).0 ≡ 26 → ⊥
fit_other i w c e =
    let n = dof_of i.manifold * free_count (graph_of i) in
    system_other n w (assembled_ends (unit_of i.manifold) n (links_of (graph_of i)) (pose_at i.poses) []) e

pub assembly_26 : (i : Input) (w : List Float) → ((system_of i w).0 ≡ 26 → SomeAdrift i) × (SomeAdrift i → system_of i w ≡ (26, w))
unfolding system_of
assembly_26 i w = (λ e. go (graph_checks i).answer refl e, λ a. ap (assemble_from i w) ((refused_26_graph i a.pose).1 a.adrift))
  where
    go : (v : Result Counts Refusal) → (graph_checks i).answer ≡ v → (assemble_from i w v).0 ≡ 26 → SomeAdrift i
    go (Err r) h e =
        record { pose = r.place; adrift = (refused_26_graph i r.place).0 (h ∙ ap (λ (n : ℕ). Err (refusal n r.place)) e) }
    go (Ok c) h e = absurd (fit_other i w c e)

-- The run's own numerics (document 01, "The solve and the run"): the parts that a graph and a manifold give. The poses are held as their numbers, twelve a
-- pose; a system as the work of a solve.
-- Definitions only.
use Rattle.std.specs.Prelude.{ℕ, ◌*◌, List, [], Float}
use Rattle.std.specs.Float.Ieee.{lt}
use Rattle.numbers.specs.Notation.{if_then}
use Rattle.rotations.specs.declared.Pose.{Pose}
use Rattle.graph.specs.Graph.{Graph, Links, links_of, free_count}
use Rattle.graph.specs.Lent.{dof_of, pose_at}
use Rattle.graph.specs.declared.Edge.{Edge}
use Rattle.graph.specs.declared.Manifold.{Manifold}
use Rattle.rows.specs.declared.Settings.{Settings}
use Rattle.costs.specs.Costs.{cost_ends}
use Rattle.assembly.specs.Assembly.{assembled_ends}
use Rattle.solve.specs.Rule.{solvable}
use Rattle.profile.specs.Layout.{hessian_of}
use Rattle.solve.specs.Work.{gradient_of, step_in}
use Rattle.trials.specs.Trials.{norm_of, step_tolerance, moves, moved_numbers}
use Rattle.sparse_pgo.specs.Parts.{Parts, step, no_step}

-- ---- the parts: of a manifold (gravity of unit length), n unknowns, so many poses, the settings, and the edges

unfoldable pub parts_on : Manifold → ℕ → ℕ → Settings → Links Edge → Parts (List Float) (List Float) (ℕ → Float)
parts_on m n poses set l = record {
  cost = λ x. cost_ends l (pose_at x);
  assembled = λ x. assembled_ends m n l (pose_at x) [];
  flat = λ w. lt (norm_of (gradient_of w n) n) set.gradient_tolerance;
  solve = λ w d. if_then (solvable (hessian_of w n) (gradient_of w n) n d) (step (step_in w n d)) no_step;
  small = λ δ. lt (norm_of δ n) step_tolerance;
  trial = λ x δ. (moves m l.slot poses x δ, moved_numbers m l.slot x δ);
}

abbrev pub parts_of : Manifold → Settings → Graph Pose Edge → Parts (List Float) (List Float) (ℕ → Float)
parts_of m set g = parts_on m (dof_of m * free_count g) g.poses set (links_of g)

-- Everything that a run is given, and the graph that it makes: document 01, "Numbers lent and given back". Definitions only.
use Rattle.std.specs.Prelude.{ℕ, ◌/◌, Bool, List, length, get_or, eqb, Float}
use Rattle.numbers.specs.Notation.{num}
use Rattle.numbers.specs.Walks.{some}
use Rattle.rotations.specs.declared.Pose.{Pose}
use Rattle.graph.specs.declared.Edge.{Edge}
use Rattle.graph.specs.declared.Manifold.{Manifold}
use Rattle.rows.specs.declared.Settings.{Settings}
use Rattle.rows.specs.declared.Room.{Room}
use Rattle.graph.specs.Graph.{Graph}
use Rattle.graph.specs.Lent.{pose_at, edge_at, end_a, end_b}

-- the list names pose x; repeats count once
abbrev pub names : List ℕ → ℕ → Bool
names l x = some (λ k. eqb (get_or l k 0) x) (length l)

abbrev pub lent_graph : List Float → List ℕ → List Float → List ℕ → Graph Pose Edge
lent_graph poses ends edges fixed = record {
  poses = length poses / 12;
  pose = pose_at poses;
  edges = length ends / 2;
  a = end_a ends;
  b = end_b ends;
  measured = edge_at edges;
  fixed = names fixed;
}

-- what a run is given, and the lengths of what is lent to be written
pub record Input : Type 0 where
  pub manifold : Manifold
  pub poses : List Float
  pub ends : List ℕ
  pub edges : List Float
  pub fixed : List ℕ
  pub settings : Settings
  pub room : Room

abbrev pub lent : Manifold → List Float → List ℕ → List Float → List ℕ → Settings → Room → Input
lent m poses ends edges fixed settings room =
    record { manifold = m; poses = poses; ends = ends; edges = edges; fixed = fixed; settings = settings; room = room }

-- settings of zeros, for the checks of a graph, which look at none
abbrev pub unset : Settings
unset = record { limit = 0; cost_tolerance = num 0; gradient_tolerance = num 0; damping = num 0 }

abbrev pub graph_of : Input → Graph Pose Edge
graph_of i = lent_graph i.poses i.ends i.edges i.fixed

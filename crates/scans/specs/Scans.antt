-- A scan, keyframes in order and loops that were verified between two of them, and the graph that is built of it (pose_graph.rs; document 02, Wish 2): chain
-- edges of weight 1 from each keyframe to the next, then the loop edges; pose 0 is fixed. Definitions only.
use Rattle.std.specs.Prelude.{ℕ, zero, suc, ◌+◌, ◌-◌, ◌*◌, ◌/◌, List, [], ◌∷◌, eqb, ltb, length, get_or, Float, None, Option, Some}
use Rattle.numbers.specs.Notation.{num, if_then}
use Rattle.numbers.specs.Walks.{strung}
use Rattle.rotations.specs.Rotation.{plus, minus, turned, transpose, mat_product}
use Rattle.rotations.specs.declared.Pose.{Pose}
use Rattle.rotations.specs.Formats.{Transform}
use Rattle.pose_conversion.specs.Conversions.{transform_of}
use Rattle.graph.specs.Lent.{pose_at}
use Rattle.checks.specs.Input.{Input, lent}
use Rattle.graph.specs.declared.Edge.{Edge}
use Rattle.graph.specs.declared.Manifold.{Manifold}
use Rattle.rows.specs.declared.Settings.{Settings}
use Rattle.rows.specs.declared.Room.{Room}

-- an id and twelve numbers a keyframe; two ids (candidate, query) and twelve numbers (the pose from one to the other) a loop; the weight of every loop
pub record Scan : Type 0 where
  pub ids : List ℕ
  pub poses : List Float
  pub loops : List ℕ
  pub loop_poses : List Float
  pub weight : Float

abbrev pub scan : List ℕ → List Float → List ℕ → List Float → Float → Scan
scan ids poses loops loop_poses weight = record { ids = ids; poses = poses; loops = loops; loop_poses = loop_poses; weight = weight }

-- ---- which keyframe an id means: the last that has it

unfoldable pub node_below : List ℕ → ℕ → ℕ → Option ℕ
node_below ids id zero = None
node_below ids id (suc n) = if_then (eqb (get_or ids n 0) id) (Some n) (node_below ids id n)

abbrev pub node_of : List ℕ → ℕ → Option ℕ
node_of ids id = node_below ids id (length ids)

-- of loop k
abbrev pub candidate_node : List ℕ → List ℕ → ℕ → Option ℕ
candidate_node ids loops k = node_of ids (get_or loops (k * 2) 0)

abbrev pub query_node : List ℕ → List ℕ → ℕ → Option ℕ
query_node ids loops k = node_of ids (get_or loops (k * 2 + 1) 0)

-- an absent one is refused before its number is used
abbrev pub node_number : Option ℕ → ℕ
node_number (Some n) = n
node_number None = 0

-- ---- later · earlier⁻¹, in f64

-- (Rᵀ, −(Rᵀt))
unfoldable pub inverse_pose : Pose → Pose
inverse_pose p =
    let back = transpose p.rotation in
    record { rotation = back; translation = minus (turned back p.translation) }

-- (R_b R, (R_b t) + t_b)
unfoldable pub pose_product : Pose → Pose → Pose
pose_product b p = record { rotation = mat_product b.rotation p.rotation; translation = plus (turned b.rotation p.translation) b.translation }

unfoldable pub between : Pose → Pose → Pose
between earlier later = pose_product later (inverse_pose earlier)

-- ---- the edges: those of the chain first, one fewer than keyframes; then those of the loops

abbrev pub edge_with : Transform → Float → Edge
edge_with measured weight = record { measured = measured; weight = weight }

-- measured in f64, then narrowed
unfoldable pub chain_edge : List Float → ℕ → Edge
chain_edge poses k = edge_with (transform_of (between (pose_at poses k) (pose_at poses (k + 1)))) (num 1)

unfoldable pub loop_edge : List Float → Float → ℕ → Edge
loop_edge poses weight k = edge_with (transform_of (pose_at poses k)) weight

unfoldable pub scan_edge : ℕ → List Float → List Float → Float → ℕ → Edge
scan_edge chain poses loop_poses weight k = if_then (ltb k chain) (chain_edge poses k) (loop_edge loop_poses weight (k - chain))

unfoldable pub scan_ends : List ℕ → List ℕ → ℕ → List ℕ
scan_ends ids loops k =
    let chain = length ids - 1 in
    if_then (ltb k chain)
    (k ∷ (k + 1) ∷ [])
    (node_number (candidate_node ids loops (k - chain)) ∷ node_number (query_node ids loops (k - chain)) ∷ [])

-- quaternion x, y, z, w, translation, weight
abbrev pub edge_numbers : Edge → List Float
edge_numbers e =
    (e.measured).q.x ∷ (e.measured).q.y ∷ (e.measured).q.z ∷ (e.measured).q.w
    ∷ (e.measured).t.x ∷ (e.measured).t.y ∷ (e.measured).t.z ∷ e.weight ∷ []

abbrev pub edge_count : Scan → ℕ
edge_count s = length s.ids - 1 + length s.loops / 2

-- the first n edges
abbrev pub ends_to : Scan → ℕ → List ℕ
ends_to s n = strung (scan_ends s.ids s.loops) n

abbrev pub edges_to : Scan → ℕ → List Float
edges_to s n = strung (λ k. edge_numbers (scan_edge (length s.ids - 1) s.poses s.loop_poses s.weight k)) n

-- ---- the graph

abbrev pub graph_to : ℕ → Manifold → Settings → Room → Scan → Input
graph_to n manifold settings room s = lent manifold s.poses (ends_to s n) (edges_to s n) (0 ∷ []) settings room

abbrev pub built_graph : Manifold → Settings → Room → Scan → Input
built_graph manifold settings room s = graph_to (edge_count s) manifold settings room s

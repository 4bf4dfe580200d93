-- The table of refusals, rows 1 to 19 and 26: document 01, "What is turned down, and in what order", and document 02, Wish 6. A line a row; 7 to 10 go
-- edge by edge. What a row asks stands in its line, or under a name in `rows`, Tests, and for 26 in Islands. Definitions only.
use Rattle.numbers.specs.declared.Refusal.{Refusal}
use Rattle.std.specs.Prelude.{◌≡◌, ℕ, ◌*◌, not, ◌||◌, List, [], ◌∷◌, ◌++◌, length, eqb, ltb, leb, Err, Ok, Result}
use Rattle.std.specs.Float.Ieee.Scale.{finite}
use Rattle.numbers.specs.Notation.{if_then}
use Rattle.numbers.specs.Walks.{count, table}
use Rattle.numbers.specs.Refusals.{Fault, Row, row, placed, fault, verdict, Verdict}
use Rattle.rotations.specs.declared.Pose.{Pose}
use Rattle.pose_conversion.specs.Conversions.{finite_pose, finite_transform}
use Rattle.graph.specs.declared.Edge.{Edge}
use Rattle.graph.specs.Graph.{Graph, is_free, block_of, free_count}
use Rattle.graph.specs.Lent.{dof_of, none}
use Rattle.rows.specs.declared.Settings.{Settings}
use Rattle.rows.specs.Tests.{bad_gravity, unfit, too_many, short_work, fixed_faults, setting_rows}
use Rattle.checks.specs.declared.Counts.{Counts}
use Rattle.checks.specs.declared.Checks.{Checks}
use Rattle.checks.specs.Input.{Input, graph_of, lent_graph}
use Rattle.checks.specs.Islands.{is_loose}

-- ---- the table

-- row 6, pose by pose
abbrev pub pose_faults : {M : Type 0} → Graph Pose M → List Fault
pose_faults g =
    fault 6 (λ x. not (finite_pose (g.pose x)))
    ∷ []

-- rows 7 to 10, edge by edge
abbrev pub edge_faults : {P : Type 0} → Graph P Edge → List Fault
edge_faults g =
    fault 7 (λ k. leb g.poses (g.a k) || leb g.poses (g.b k))
    ∷ fault 8 (λ k. eqb (g.a k) (g.b k))
    ∷ fault 9 (λ k. not (finite (g.measured k).weight))
    ∷ fault 10 (λ k. not (finite_transform (g.measured k).measured))
    ∷ []

-- row 26, pose by pose
abbrev pub island_faults : {P : Type 0} → Graph P Edge → List Fault
island_faults g =
    fault 26 (is_loose g)
    ∷ []

-- rows 1 to 13: manifold, shape, numbers, free poses
abbrev pub rows_to13 : Input → List Row
rows_to13 i =
    let g = graph_of i in
    row 1 (bad_gravity i.manifold)
    ∷ row 2 (unfit (length i.poses) (length i.ends) (length i.edges) i.room.out)
    ∷ row 3 (too_many g.poses g.edges (length i.fixed))
    ∷ row 4 (eqb g.poses 0)
    ∷ row 5 (eqb g.edges 0)
    ∷ placed g.poses (pose_faults g)
    ∷ placed g.edges (edge_faults g)
    ∷ placed (length i.fixed) (fixed_faults g.poses i.fixed)
    ∷ row 12 (eqb (free_count g) 0)
    ∷ row 13 (ltb 64 (free_count g))
    ∷ []

-- then islands (26) and work (14)
abbrev pub graph_rows : Input → List Row
graph_rows i =
    let g = graph_of i in
    rows_to13 i
    ++ (placed g.poses (island_faults g)
    ∷ row 14 (short_work (dof_of i.manifold * free_count g) g.poses i.room.work32 i.room.work64)
    ∷ [])

abbrev pub rows : Input → List Row
rows i = graph_rows i ++ setting_rows i.settings

-- ---- the answer: the refusal, or what was counted; and the block of every pose

abbrev pub counts_of : Input → Counts
counts_of i = record { poses = (graph_of i).poses; edges = (graph_of i).edges; free = free_count (graph_of i) }

abbrev pub checked_by : Verdict → Counts → Result Counts Refusal
checked_by (Ok _) c = Ok c
checked_by (Err r) c = Err r

-- a free pose's block, or none
unfoldable pub block_number : {P M : Type 0} → Graph P M → ℕ → ℕ
block_number g x = if_then (is_free g x) (block_of g x) none

-- the array of blocks that the ends and the fixed list make, and how many poses are free (the word of a private function)
abbrev pub Numbered : List ℕ → List ℕ → List ℕ → ℕ → Type 0
Numbered ends fixed at free =
    let g = lent_graph [] ends [] fixed in
    (at ≡ table (block_number g) 256) × (free ≡ count (is_free g) 256)

abbrev pub blocks_of : Input → List ℕ
blocks_of i = table (block_number (graph_of i)) 256

-- of the graph alone
abbrev pub graph_answer : Input → Result Counts Refusal
graph_answer i = checked_by (verdict (graph_rows i)) (counts_of i)

-- that, and where it is counts, what the settings say (the word of a private function)
abbrev pub settings_answer : Result Counts Refusal → Settings → Result Counts Refusal
settings_answer (Ok c) s = checked_by (verdict (setting_rows s)) c
settings_answer (Err r) s = Err r

unfoldable pub graph_checks : Input → Checks
graph_checks i = record { answer = graph_answer i; blocks = blocks_of i }

unfoldable pub checks : Input → Checks
checks i = record { answer = checked_by (verdict (rows i)) (counts_of i); blocks = blocks_of i }

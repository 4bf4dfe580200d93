-- What the table says of small graphs, loose poses among them, computed by antt: Wish 6 of document 02. Assumes nothing.
use Rattle.std.specs.Prelude.{◌≡◌, refl, List, [], ◌∷◌, ◌++◌, map, ℕ, replicate, Float, Err, Ok}
use Rattle.std.specs.Float.{binary32}
use Rattle.std.specs.Float.Ieee.{of_bits, add, sub, mul, eq, lt}
use Rattle.numbers.specs.Notation.{num, ratio, if_then}
use Rattle.rounding.specs.Rounding.{rounded}
use Rattle.numbers.specs.Walks.{some, count}
use Rattle.numbers.specs.Refusals.{verdict, Verdict}
use Rattle.rotations.specs.Rotation.{matrix_of, wide}
use Rattle.pose_conversion.specs.Conversions.{vec_f32, mat_f32, rebuilt, finite_pose, finite_transform}
use Rattle.graph.specs.declared.Manifold.TheVariants.{Se3}
use Rattle.graph.specs.Graph.{is_free}
use Rattle.graph.specs.Lent.{pose_from, edge_from}
use Rattle.checks.specs.Input.{lent, unset}
use Rattle.checks.specs.Islands.{weighs, connected, reaches, is_loose}
use Rattle.checks.specs.Table.{graph_rows}
use Rattle.rows.specs.Tests.{bad_gravity, unfit, too_many, short_work}

-- an edge that measured no step, of weight w
abbrev edge : Float → List Float
edge w = num 0 ∷ num 0 ∷ num 0 ∷ num 1 ∷ num 0 ∷ num 0 ∷ num 0 ∷ w ∷ []

abbrev number_and_place : Verdict → List ℕ
number_and_place (Ok _) = []
number_and_place (Err r) = r.number ∷ r.place ∷ []

-- three poses, the ends of two edges and the weights of these, and the fixed list
pub data Case : Type 0 where
  three : List ℕ → Float → Float → List ℕ → Case

-- no work is lent, so that what passes row 26 is refused by 14
unfoldable pub table_says : Case → List ℕ
table_says (three ends v w fixed) =
    number_and_place (verdict (graph_rows (lent Se3 (replicate 36 (num 0)) ends (edge v ++ edge w) fixed unset (record { work32 = 0; work64 = 0; out = 36 }))))

abbrev chain : List ℕ
chain = 0 ∷ 1 ∷ 1 ∷ 2 ∷ []

-- A chain from fixed pose 0 passes row 26: as it is, with either edge turned round, with both, and with a first weight of the least size, above 0 or below.
-- So does a graph with a pose that no edge names. With the first weight 0, or −0, poses 1 and 2 are loose and 1 is the place; with the second 0, 2 is.
-- A fixed pose that no edge names ties nothing. With nothing fixed, pose 0 is the place; with all fixed, none is free, and row 12 speaks.
pub samples : map table_says (
    three chain (num 1) (num 1) (0 ∷ [])
    ∷ three (1 ∷ 0 ∷ 1 ∷ 2 ∷ []) (num 1) (num 1) (0 ∷ [])
    ∷ three (0 ∷ 1 ∷ 2 ∷ 1 ∷ []) (num 1) (num 1) (0 ∷ [])
    ∷ three (1 ∷ 0 ∷ 2 ∷ 1 ∷ []) (num 1) (num 1) (0 ∷ [])
    ∷ three chain (of_bits binary32 1) (num 1) (0 ∷ [])
    ∷ three chain (of_bits binary32 0x8000_0001) (num 1) (0 ∷ [])
    ∷ three (0 ∷ 1 ∷ 1 ∷ 0 ∷ []) (num 1) (num 1) (0 ∷ [])
    ∷ three chain (num 0) (num 1) (0 ∷ [])
    ∷ three chain (of_bits binary32 0x8000_0000) (num 1) (0 ∷ [])
    ∷ three chain (num 1) (num 0) (0 ∷ [])
    ∷ three (0 ∷ 1 ∷ 1 ∷ 0 ∷ []) (num 1) (num 1) (2 ∷ [])
    ∷ three chain (num 1) (num 1) []
    ∷ three chain (num 0) (num 0) (0 ∷ 1 ∷ 2 ∷ [])
    ∷ []
    )
    ≡ (14 ∷ 0 ∷ [])
    ∷ (14 ∷ 0 ∷ [])
    ∷ (14 ∷ 0 ∷ [])
    ∷ (14 ∷ 0 ∷ [])
    ∷ (14 ∷ 0 ∷ [])
    ∷ (14 ∷ 0 ∷ [])
    ∷ (14 ∷ 0 ∷ [])
    ∷ (26 ∷ 1 ∷ [])
    ∷ (26 ∷ 1 ∷ [])
    ∷ (26 ∷ 2 ∷ [])
    ∷ (26 ∷ 0 ∷ [])
    ∷ (26 ∷ 0 ∷ [])
    ∷ (12 ∷ 0 ∷ [])
    ∷ []
unfolding table_says ratio if_then add sub mul eq lt of_bits rounded some count matrix_of wide vec_f32 mat_f32 rebuilt finite_pose finite_transform
    is_free pose_from edge_from weighs connected reaches is_loose bad_gravity unfit too_many short_work
samples = refl

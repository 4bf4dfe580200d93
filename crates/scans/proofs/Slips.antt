-- What the definitions of a scan answer at small concrete scans, computed: each law names a slip of a definition that it would not survive. Assumes nothing.
use Prim.Native.Nat.{◌+◌, ◌^◌}
use Rattle.std.specs.Prelude.{Err, Some}
use mathlib.Core.Path.{◌≡◌, refl}
use mathlib.Core.Bool.{false}
use lib.IntN.{pos}
use mathlib.Core.List.{List, [], ◌∷◌, ◌++◌}
use lib.Ieee.{Float, fin, add, mul, neg, round}
use Rattle.numbers.specs.Notation.{num, ratio, if_then}
use Rattle.rounding.specs.Rounding.{rounded}
use Rattle.numbers.specs.Refusals.{refusal, verdict}
use Rattle.rotations.specs.Rotation.{plus, minus, turned, transpose, mat_product}
use Rattle.rotations.specs.Formats.{Vec3F32}
use Rattle.pose_conversion.specs.Conversions.{vec_f32, transform_of}
use Rattle.graph.specs.Lent.{pose_from, edge_from, edge_at}
use Rattle.numbers.specs.Walks.{strung}
use Rattle.scans.specs.Scans.{Scan, scan, node_below, node_of, inverse_pose, pose_product, between}
use Rattle.scans.specs.Scans.{chain_edge, loop_edge, scan_edge, scan_ends, edge_count, ends_to, edges_to}
use Rattle.scans.specs.ScanRows.{unfit_scan, scan_rows}

-- ---- which keyframe

-- a. the last of equal ids is meant, not the first
last_of_equal : node_of (5 ∷ 7 ∷ 5 ∷ []) 5 ≡ Some 2
unfolding node_below if_then
last_of_equal = refl

-- ---- what the chain measures

-- a keyframe without a turn, and one after a quarter turn about z
abbrev straight : Float → List Float
straight x = num 1 ∷ num 0 ∷ num 0 ∷ num 0 ∷ num 1 ∷ num 0 ∷ num 0 ∷ num 0 ∷ num 1 ∷ x ∷ num 0 ∷ num 0 ∷ []

abbrev quarter : Float → List Float
quarter x = num 0 ∷ num 1 ∷ num 0 ∷ neg (num 1) ∷ num 0 ∷ num 0 ∷ num 0 ∷ num 0 ∷ num 1 ∷ x ∷ num 0 ∷ num 0 ∷ []

-- the translation that edge 0 measured
unfoldable first_step : List Float → List Float → Vec3F32
unfolding chain_edge between pose_product inverse_pose transform_of vec_f32 plus minus turned transpose mat_product pose_from
first_step earlier later = (chain_edge (earlier ++ later) 0).measured.t

earlier_to_later_value : first_step (straight (num 1)) (straight (num 3)) ≡ record { x = fin false 1 (pos 1); y = fin false 0 (pos 0); z = fin false 0 (pos 0) }
unfolding first_step rounded ratio add mul neg round
earlier_to_later_value = refl

-- b. from the earlier to the later
earlier_to_later : first_step (straight (num 1)) (straight (num 3)) ≡ record { x = num 2; y = num 0; z = num 0 }
unfolding ratio round
earlier_to_later = earlier_to_later_value

later_by_inverse_value : first_step (quarter (num 1)) (straight (num 3)) ≡ record { x = fin false 3 (pos 0); y = fin false 1 (pos 0); z = fin false 0 (pos 0) }
unfolding first_step rounded ratio add mul neg round
later_by_inverse_value = refl

-- c. the later times the inverse of the earlier: (3, 0, 0) - Rᵀ(1, 0, 0); in the other order (0, -2, 0), with R for Rᵀ (3, -1, 0)
later_by_inverse : first_step (quarter (num 1)) (straight (num 3)) ≡ record { x = num 3; y = num 1; z = num 0 }
unfolding ratio round
later_by_inverse = later_by_inverse_value

-- d. in f64, and then narrowed: of 1 and 1 + 2^-40 it is 2^-40; narrowed first, 0
narrowed_last : first_step (straight (num 1)) (straight (ratio (2 ^ 40 + 1) (2 ^ 40))) ≡ record { x = ratio 1 (2 ^ 40); y = num 0; z = num 0 }
unfolding first_step rounded ratio add mul neg round
narrowed_last = refl

-- ---- rows 33 and 34

-- e. 33 before 34: one keyframe, and a loop that names an absent one
shape_first : verdict (scan_rows (5 ∷ []) 12 (5 ∷ 9 ∷ []) 12 12) ≡ Err (refusal 33 0)
unfolding unfit_scan node_below if_then
shape_first = refl

-- f. 34 at the loop, whichever end is absent
absent_query : verdict (scan_rows (5 ∷ 7 ∷ []) 24 (5 ∷ 7 ∷ 5 ∷ 9 ∷ []) 24 24) ≡ Err (refusal 34 1)
unfolding unfit_scan node_below if_then
absent_query = refl

absent_candidate : verdict (scan_rows (5 ∷ 7 ∷ []) 24 (5 ∷ 7 ∷ 9 ∷ 5 ∷ []) 24 24) ≡ Err (refusal 34 1)
unfolding unfit_scan node_below if_then
absent_candidate = refl

-- ---- the edges

module _ (poses loop_poses : List Float) (weight : Float) where
  -- three keyframes; without a loop, and with one from the last to the first
  abbrev chained : Scan
  chained = scan (5 ∷ 7 ∷ 8 ∷ []) poses [] [] weight

  abbrev looped : Scan
  looped = scan (5 ∷ 7 ∷ 8 ∷ []) poses (8 ∷ 5 ∷ []) loop_poses weight

  -- g. the chain has an edge fewer than keyframes, and its last is the chain's
  chain_count : edge_count chained ≡ 2
  chain_count = refl

  chain_last : edge_at (edges_to chained 2) 1 ≡ chain_edge poses 1
  unfolding scan_edge strung edge_from if_then
  chain_last = refl

  chain_ends : ends_to chained 2 ≡ 0 ∷ 1 ∷ 1 ∷ 2 ∷ []
  unfolding scan_ends strung if_then
  chain_ends = refl

  chain_weight : (chain_edge poses 1).weight ≡ num 1
  unfolding chain_edge
  chain_weight = refl

  -- h. the loops' come after it, from candidate to query, of the weight given
  loop_ends : ends_to looped (edge_count looped) ≡ 0 ∷ 1 ∷ 1 ∷ 2 ∷ 2 ∷ 0 ∷ []
  unfolding scan_ends strung node_below if_then
  loop_ends = refl

  loop_last : edge_at (edges_to looped 3) 2 ≡ loop_edge loop_poses weight 0
  unfolding scan_edge strung edge_from if_then
  loop_last = refl

  loop_weight : (loop_edge loop_poses weight 0).weight ≡ weight
  unfolding loop_edge
  loop_weight = refl

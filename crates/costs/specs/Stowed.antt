-- Transforms that could be had, or not, stowed in a list of numbers: eight a cell, quaternion, translation, and whether it could be had. The first cells
-- are of the first poses. Definitions only; `proofs/Stowing` says that cells stand for what was put into them.
use Rattle.numbers.specs.declared.Failure.{Failure}
use Rattle.rotations.specs.Formats.{Transform}
use Rattle.std.specs.Prelude.{ℕ, zero, suc, ◌+◌, ◌*◌, ◌/◌, ◌<◌, ◌≡◌, List, [], ◌∷◌, ◌++◌, ltb, length, take, drop, replicate, Float, Err, Ok, Result}
use Rattle.std.specs.Float.Ieee.{lt}
use Rattle.numbers.specs.Notation.{num, if_then}
use Rattle.numbers.specs.declared.Failure.TheVariants.{Numerical}
use Rattle.pose_conversion.specs.Conversions.{checked_transform}
use Rattle.graph.specs.Lent.{pose_at, edge_at}
use Rattle.graph.specs.declared.Edge.{Edge}

-- ---- a cell

-- its eight numbers
abbrev pub eight_of : Result Transform Failure → List Float
eight_of (Ok a) = (a.q).x ∷ (a.q).y ∷ (a.q).z ∷ (a.q).w ∷ (a.t).x ∷ (a.t).y ∷ (a.t).z ∷ num 1 ∷ []
eight_of (Err why) = replicate 8 (num 0)

-- cell e replaced; and replaced where it is lent
unfoldable pub with_cell : List Float → ℕ → Result Transform Failure → List Float
with_cell l e x = take (e * 8) l ++ eight_of x ++ drop (e * 8 + 8) l

unfoldable pub stowing : List Float → ℕ → Result Transform Failure → List Float
stowing l e x = if_then (ltb e (length l / 8)) (with_cell l e x) l

-- what a cell stands for, by its eight numbers read as an edge
unfoldable pub stowed_from : Edge → Result Transform Failure
stowed_from r = if_then (lt (num 0) r.weight) (Ok r.measured) (Err Numerical)

abbrev pub stowed_in : List Float → ℕ → Result Transform Failure
stowed_in l e = stowed_from (edge_at l e)

-- cell e of l' stands for x, and the others for what they stood for in l
pub record Stows (l l' : List Float) (e : ℕ) (x : Result Transform Failure) : Type 0 where
  pub len : length l' ≡ length l
  pub here : stowed_in l' e ≡ x
  pub there : (k : ℕ) → (k ≡ e → ⊥) → stowed_in l' k ≡ stowed_in l k

-- ---- the cells of poses

-- of how many of the first 256, where `count` numbers are lent, twelve a pose
unfoldable pub known_poses : ℕ → ℕ
known_poses count = if_then (ltb (count / 12) 256) (count / 12) 256

-- the first n cells become the transforms of the first n poses
unfoldable pub with_bases : List Float → ℕ → List Float → List Float
with_bases poses zero l = l
with_bases poses (suc n) l = stowing (with_bases poses n l) n (checked_transform (pose_at poses n))

-- the transform of pose x, from the first n cells or worked out
unfoldable pub base_in : List Float → ℕ → List Float → ℕ → Result Transform Failure
base_in l n poses x = if_then (ltb x n) (stowed_in l x) (checked_transform (pose_at poses x))

-- the first n cells stand for the transforms of the first n poses
abbrev pub Based : List Float → List Float → ℕ → Type 0
Based poses l n = (x : ℕ) → x < n → stowed_in l x ≡ checked_transform (pose_at poses x)

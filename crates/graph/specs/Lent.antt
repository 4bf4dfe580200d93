-- What the lent numbers mean (document 01, "Numbers lent and given back"): poses of twelve f64, ends of two u32, edges of eight f32, an array of blocks.
-- Definitions only.
use Rattle.std.specs.Prelude.{ℕ, ◌+◌, ◌*◌, ◌/◌, List, [], ◌∷◌, length, get_or, ltb, Float, None, Option, Some}
use Rattle.std.specs.Float.{nan}
use Rattle.numbers.specs.Notation.{if_then}
use Rattle.rotations.specs.Rotation.{vec}
use Rattle.rotations.specs.declared.Pose.{Pose}
use Rattle.graph.specs.declared.Edge.{Edge}
use Rattle.graph.specs.declared.LentLinks.{LentLinks}
use Rattle.graph.specs.declared.Manifold.{Manifold}
use Rattle.graph.specs.declared.Manifold.TheVariants.{Se3, Gravity}
use Rattle.graph.specs.Graph.{Links}

-- degrees of freedom a pose
abbrev pub dof_of : Manifold → ℕ
dof_of Se3 = 6
dof_of (Gravity g) = 4

-- a pose of twelve numbers: rotation columns x, y, z, then translation
unfoldable pub pose_from : (ℕ → Float) → Pose
pose_from f =
    record {
      rotation = record { x = vec (f 0) (f 1) (f 2); y = vec (f 3) (f 4) (f 5); z = vec (f 6) (f 7) (f 8) };
      translation = vec (f 9) (f 10) (f 11);
    }

abbrev pub pose_at : List Float → ℕ → Pose
pose_at l x = pose_from (λ j. get_or l (x * 12 + j) nan)

-- the twelve numbers of a pose, in that order
abbrev pub numbers_of : Pose → List Float
numbers_of p =
    (p.rotation).x.x ∷ (p.rotation).x.y ∷ (p.rotation).x.z
    ∷ (p.rotation).y.x ∷ (p.rotation).y.y ∷ (p.rotation).y.z
    ∷ (p.rotation).z.x ∷ (p.rotation).z.y ∷ (p.rotation).z.z
    ∷ (p.translation).x ∷ (p.translation).y ∷ (p.translation).z ∷ []

-- an edge of eight numbers: quaternion x, y, z, w, translation, weight
unfoldable pub edge_from : (ℕ → Float) → Edge
edge_from f =
    record {
      measured = record {
        q = record { x = f 0; y = f 1; z = f 2; w = f 3 };
        t = record { x = f 4; y = f 5; z = f 6 };
      };
      weight = f 7;
    }

abbrev pub edge_at : List Float → ℕ → Edge
edge_at l k = edge_from (λ j. get_or l (k * 8 + j) nan)

abbrev pub end_a : List ℕ → ℕ → ℕ
end_a ends k = get_or ends (k * 2) 0

abbrev pub end_b : List ℕ → ℕ → ℕ
end_b ends k = get_or ends (k * 2 + 1) 0

-- ---- the blocks in an array of 256, as the checks hand them on

abbrev pub none : ℕ
none = 4294967295

-- a block below the free count; anything else stands for a pose that is not free
unfoldable pub slot_in : List ℕ → ℕ → ℕ → Option ℕ
slot_in blocks free x = let b = get_or blocks x none in if_then (ltb b free) (Some b) None

-- the edges with the slots of such an array
abbrev pub lent_links : List ℕ → List Float → List ℕ → ℕ → Links Edge
lent_links ends edges blocks free = record { edges = length ends / 2; a = end_a ends; b = end_b ends; measured = edge_at edges; slot = slot_in blocks free }

-- the same, of what is lent together
abbrev pub links_lent : LentLinks → Links Edge
links_lent l = lent_links l.ends.now l.edges.now l.blocks.now l.free

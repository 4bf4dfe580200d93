-- What an assembly knows of each pose, worked out once and kept in cells, as `jacobians` reads them. `free_known` of proofs/Knowing says that the cells of a
-- free pose hold its probes. Definitions only.
use Rattle.numbers.specs.declared.Failure.{Failure}
use Rattle.rotations.specs.Formats.{Transform}
use Rattle.std.specs.Prelude.{ℕ, ◌+◌, ◌*◌, ◌<◌, ◌≤◌, ◌≡◌, ◌⊎◌, Bool, true, false, List, length, Float, None, Option, Result, Some, is_some}
use Rattle.graph.specs.Lent.{dof_of, pose_at, links_lent}
use Rattle.graph.specs.declared.LentLinks.{LentLinks}
use Rattle.graph.specs.declared.Manifold.{Manifold}
use Rattle.costs.specs.Stowed.{stowed_in, known_poses, Based}
use Rattle.probes.specs.Probes.{probes_of}
use Rattle.jacobians.specs.FromProbes.{SharesTurn}
use Rattle.jacobians.specs.Cells.{spot, stowed_probes}
use Rattle.assembly.specs.declared.Shape.{Shape}

-- ---- what the code makes of the cells l

-- the probes of pose x along axis c
pub record Axis (probe : ℕ → Bool → Result Transform Failure) (x c : ℕ) (l l' : List Float) : Type 0 where
  pub len : length l' ≡ length l
  pub there : (ahead : Bool) → stowed_in l' (spot x c ahead) ≡ probe c ahead
  pub rest : (k : ℕ) → (k ≡ spot x c true → ⊥) → (k ≡ spot x c false → ⊥) → stowed_in l' k ≡ stowed_in l k

-- those along the first i axes
pub record Probed (probe : ℕ → Bool → Result Transform Failure) (x i : ℕ) (l l' : List Float) : Type 0 where
  pub len : length l' ≡ length l
  pub there : (c : ℕ) → c < i → (ahead : Bool) → stowed_in l' (spot x c ahead) ≡ probe c ahead
  pub rest : (k : ℕ) → (k < 256 + x * 12) ⊎ (256 + (x * 12 + 12) ≤ k) → stowed_in l' k ≡ stowed_in l k

-- all of them, if pose x is free; else nothing changes
abbrev pub Posed : Option ℕ → (ℕ → Bool → Result Transform Failure) → ℕ → ℕ → List Float → List Float → Type 0
Posed None probe x dof l l' = l' ≡ l
Posed (Some i) probe x dof l l' = Probed probe x dof l l'

-- ---- what the cells say: of all poses, and of the free ones among the first i
pub record Ready (m : Manifold) (poses : List Float) (slot : ℕ → Option ℕ) (l : List Float) (i : ℕ) : Type 0 where
  pub len : length l ≡ 26624
  pub bases : Based poses l (known_poses (length poses))
  pub probes : (x : ℕ) → x < i → is_some (slot x) ≡ true → (c : ℕ) → c < dof_of m → (ahead : Bool)
      → stowed_in l (spot x c ahead) ≡ probes_of m (pose_at poses x) c ahead

-- pose x is free, with block i among n unknowns, and its probes are known
pub record FreePose (m : Manifold) (n : ℕ) (poses l : List Float) (x i : ℕ) : Type 0 where
  pub fits : i * dof_of m + dof_of m ≤ n
  pub below : x < 256
  pub len : length l ≡ 26624
  pub probes : (c : ℕ) → c < dof_of m → (ahead : Bool) → stowed_in l (spot x c ahead) ≡ probes_of m (pose_at poses x) c ahead
  pub shares : SharesTurn (stowed_probes l x)

-- what the walk over the edges relies on
pub record Shaped (shape : Shape) (poses : List Float) (links : LentLinks) (l : List Float) : Type 0 where
  pub size : shape.n ≡ dof_of shape.manifold * links.free
  pub most : links.free ≤ 4294967295
  pub whole : length links.blocks.now ≡ 256
  pub ready : Ready shape.manifold poses (links_lent links).slot l 256

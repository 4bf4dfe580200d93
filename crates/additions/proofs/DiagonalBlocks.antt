-- A block on the diagonal of the Hessian, whichever of its entries are kept: the laws of `proofs/Blocks.antt` where one block is both the rows' and the
-- columns'. Assumes nothing.
use mathlib.Core.Path.{◌≡◌}
use mathlib.Core.Bool.{Bool, true}
use mathlib.Core.List.{List}
use Prim.Native.Nat.{ℕ, ◌+◌, ◌*◌, ◌<◌, ◌≤◌}
use lib.ListN.{length}
use lib.Ieee.{Float}
use lib.Ieee.Scale.{finite}
use Rattle.numbers.specs.Walks.{every}
use Rattle.numbers.proofs.Rows.{told}
use Rattle.additions.specs.Additions.{block_added}
use Rattle.additions.proofs.Blocks as any

-- two entries that stand in one place are one entry
pub one_place : (n i j i' j' : ℕ) → i < n → i' < n → j * n + i ≡ j' * n + i' → (i ≡ i') × (j ≡ j')
one_place = any.one_place

module _ (n dof b : ℕ) (j : List (List Float)) (w : List Float) where
  -- what the entry in the block's row r and column c becomes
  abbrev pub sum_at : ℕ → ℕ → Float
  sum_at = any.sum_at n dof b b j j w

  module _ (keeps : ℕ → ℕ → Bool) where
    abbrev pub kept_at : ℕ → ℕ → Bool
    kept_at = any.kept_at n dof b b j j w keeps

    -- the work with a block added
    abbrev pub Added : List Float → Type 0
    Added = any.Added n dof b b j j w keeps

    -- what is asked of the sum of entry k, row by row
    abbrev pub asked : ℕ → Bool
    asked = any.asked n dof b b j j w keeps

    -- all that is asked holds exactly if the kept sums are finite
    abbrev pub AllFinite : Type 0
    AllFinite = (r c : ℕ) → r < dof → c < dof → kept_at r c ≡ true → finite (sum_at r c) ≡ true

    pub then_finite : ((k : ℕ) → k < dof * dof → asked k ≡ true) → AllFinite
    then_finite = any.then_finite n dof b b j j w keeps

    pub if_finite : AllFinite → (k : ℕ) → k < dof * dof → asked k ≡ true
    if_finite = any.if_finite n dof b b j j w keeps

    module _ (fits : b * dof + dof ≤ n) (room : n * n ≤ length w) where
      pub block_added_lem : ((block_added keeps n dof b b j j w).0 ≡ told (every asked (dof * dof)))
          × (every asked (dof * dof) ≡ true → Added (block_added keeps n dof b b j j w).1)
      block_added_lem = any.block_added_lem n dof b b j j w keeps fits fits room

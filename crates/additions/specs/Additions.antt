-- What an edge adds to the gradient and to the Hessian: document 01, "Graph, residual, assembly". The system stands in the work of n unknowns in solve's
-- layout: H(i,j), j ≤ i, at j n + i; the gradient at n n + n + i. All f32. Definitions only.
use Rattle.std.specs.Prelude.{ℕ, ◌+◌, ◌*◌, Bool, true, ◌&&◌, List, [], ◌++◌, ltb, leb, get_or, set, take, drop, Float}
use Rattle.std.specs.Float.{nan, binary32}
use Rattle.numbers.specs.Notation.{◌⊞◌, ◌⊠◌, if_then}
use Rattle.numbers.specs.Walks.{sum_of, each, well, only, and_then, must_be_finite, Went}
use Rattle.profile.specs.Layout.{need}

-- the number in row k and column i of a Jacobian
abbrev pub cell : List (List Float) → ℕ → ℕ → Float
cell j k i = get_or (get_or j k []) i nan

-- the work has room for n unknowns, and block b of at most six stands among them
abbrev pub fits : ℕ → ℕ → ℕ → ℕ → Bool
fits n dof b len = leb (need n) len && (leb dof 6 && (leb b n && leb (b * dof + dof) n))

-- ---- what is added: six products in residual order, from +0 (C15)

-- column i of a Jacobian times column j of another; and times a residual
abbrev pub dot_of : List (List Float) → ℕ → List (List Float) → ℕ → Float
dot_of a i b j = sum_of binary32 (λ k. cell a k i ⊠ cell b k j) 6

abbrev pub dot_with : List (List Float) → ℕ → List Float → Float
dot_with a i r = sum_of binary32 (λ k. cell a k i ⊠ get_or r k nan) 6

-- v is added to the number at place q, which must be finite then
unfoldable pub add_to : List Float → ℕ → Float → Went × List Float
add_to w q v = let s = get_or w q nan ⊞ v in (must_be_finite s, set w q s)

-- ---- the gradient: one pose's part; and what is done on the part from a place on

unfoldable pub gradient_added : ℕ → List (List Float) → List Float → List Float → Went × List Float
gradient_added dof j r part = well (each (λ c part. add_to part c (dot_with j c r)) dof part)

abbrev pub on_part : ℕ → (List Float → Went × List Float) → List Float → Went × List Float
on_part at f w = ((f (drop at w)).0, take at w ++ (f (drop at w)).1)

-- ---- which entries of the Hessian's blocks are kept, by row and column

-- here: those of the lower triangle
abbrev pub lower_triangle : ℕ → ℕ → Bool
lower_triangle row col = leb col row

-- in the Rust: all, on the diagonal too
abbrev pub whole_blocks : ℕ → ℕ → Bool
whole_blocks row col = true

module _ (keeps : ℕ → ℕ → Bool) where
  -- ---- the Hessian: the block of rows rb and columns cb, cb ≤ rb, row by row; of its entries those that are kept

  unfoldable pub entry_added : ℕ → ℕ → ℕ → List (List Float) → ℕ → List (List Float) → ℕ → List Float → Went × List Float
  entry_added n row col jr r jc c w = only (keeps row col) (λ w. add_to w (col * n + row) (dot_of jr r jc c)) w

  unfoldable pub row_added : ℕ → ℕ → ℕ → ℕ → List (List Float) → List (List Float) → ℕ → List Float → Went × List Float
  row_added n dof rb cb jr jc r w = well (each (λ c. entry_added n (rb * dof + r) (cb * dof + c) jr r jc c) dof w)

  unfoldable pub block_added : ℕ → ℕ → ℕ → ℕ → List (List Float) → List (List Float) → List Float → Went × List Float
  block_added n dof rb cb jr jc w = well (each (row_added n dof rb cb jr jc) dof w)

  -- ---- what the free ends of one edge add

  -- a free end: its part of the gradient, then its block on the diagonal
  unfoldable pub end_added : ℕ → ℕ → ℕ → List (List Float) → List Float → List Float → Went × List Float
  end_added n dof b j r w = and_then (on_part (n * n + n + b * dof) (gradient_added dof j r) w) (block_added n dof b b j j)

  -- the cross block stands below the diagonal: where a's block is smaller, rows come from b's Jacobian
  unfoldable pub cross_added : ℕ → ℕ → ℕ → ℕ → List (List Float) → List (List Float) → List Float → Went × List Float
  cross_added n dof ba bb ja jb w = if_then (ltb ba bb) (block_added n dof bb ba jb ja w) (block_added n dof ba bb ja jb w)

  -- gradient and diagonal block of a, then of b, then the cross block
  unfoldable pub ends_added : ℕ → ℕ → ℕ → ℕ → List (List Float) → List (List Float) → List Float → List Float → Went × List Float
  ends_added n dof i k ja jb r w = and_then (and_then (end_added n dof i ja r w) (end_added n dof k jb r)) (cross_added n dof i k ja jb)

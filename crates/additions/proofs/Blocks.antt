-- A block of the Hessian, whichever of its entries are kept: it goes well exactly if every kept entry's sum is finite, and then those sums
-- stand in their places and all other numbers are as they were. Assumes nothing.
use mathlib.Core.Path.{◌≡◌, refl, sym, ap, ap₂, ◌∙◌}
use mathlib.Core.Bool.{Bool, true, false, not, ◌||◌}
use mathlib.Core.List.{List}
use mathlib.Core.Logic.{⊎_elim}
use Prim.Native.Nat.{ℕ, ◌+◌, ◌*◌, ◌/◌, ◌%◌, ◌<◌, ◌≤◌}
use native.Mathlib.Nat.{le_trans, div-add-mod', div-lt_iff_lt-mul, mod-lt, eq-or-lt_of_le}
use native.Mathlib.Omega.{arith}
use lib.Arith.{digits_div, digits_mod, digits_lt}
use lib.ListN.{length, get_or}
use lib.Ieee.{Float, nan}
use lib.Ieee.Scale.{finite}
use borrow.Author.Tests.{lt-ltb}
use Rattle.numbers.specs.Notation.{◌⊞◌, if_then}
use Rattle.numbers.specs.Walks.{every, each, well}
use Rattle.numbers.proofs.Walking.{each_ext}
use Rattle.profile.specs.Layout.{hessian_of}
use Rattle.additions.specs.Additions.{dot_of, entry_added, row_added, block_added}
use Rattle.numbers.proofs.Rows.{told, each_nested}
use Rattle.additions.proofs.Additions.{adding, Sofar, all_added}

-- two entries that stand in one place are one entry
pub one_place : (n i j i' j' : ℕ) → i < n → i' < n → j * n + i ≡ j' * n + i' → (i ≡ i') × (j ≡ j')
one_place n i j i' j' l l' e = (sym (digits_mod j l) ∙ ap (λ q. q % n) e ∙ digits_mod j' l', sym (digits_div j l) ∙ ap (λ q. q / n) e ∙ digits_div j' l')

module _ (n dof rb cb : ℕ) (jr jc : List (List Float)) (w : List Float) where
  -- what the entry in the block's row r and column c becomes
  abbrev pub sum_at : ℕ → ℕ → Float
  sum_at r c = hessian_of w n (rb * dof + r) (cb * dof + c) ⊞ dot_of jr r jc c

  module _ (keeps : ℕ → ℕ → Bool) where
    abbrev pub kept_at : ℕ → ℕ → Bool
    kept_at r c = keeps (rb * dof + r) (cb * dof + c)

    -- the work with a block added
    pub record Added (y : List Float) : Type 0 where
      pub as_long : length y ≡ length w
      pub inside : (r c : ℕ) → r < dof → c < dof → kept_at r c ≡ true → hessian_of y n (rb * dof + r) (cb * dof + c) ≡ sum_at r c
      pub outside : (q : ℕ) → ((r c : ℕ) → r < dof → c < dof → q ≡ (cb * dof + c) * n + (rb * dof + r) → ⊥) → get_or y q nan ≡ get_or w q nan

    -- entry k, row by row: whether it is kept, its place, what is added, and what is asked of the sum
    abbrev test : ℕ → Bool
    test k = kept_at (k / dof) (k % dof)

    abbrev place : ℕ → ℕ
    place k = (cb * dof + k % dof) * n + (rb * dof + k / dof)

    abbrev value : ℕ → Float
    value k = dot_of jr (k / dof) jc (k % dof)

    abbrev pub asked : ℕ → Bool
    asked k = not (test k) || finite (sum_at (k / dof) (k % dof))

    as_row : block_added keeps n dof rb cb jr jc w ≡ well (each (adding test place value) (dof * dof) w)
    unfolding block_added row_added entry_added
    as_row =
        ap well (each_ext _ _ dof w (λ r h y. ap well (each_ext _ _ dof y (λ c l z. rw (digits_div r l, digits_mod r l)))))
        ∙ each_nested (adding test place value) dof dof w

    -- its row and its column
    wide : (k : ℕ) → k < dof * dof → 0 < dof
    wide k l = ⊎_elim (λ (e : 0 ≡ dof). absurd (let z : k < 0 * 0 = rw (← e) at l in omega arith)) (λ (h : 0 < dof). h) (eq-or-lt_of_le (omega arith))

    row_in : (k : ℕ) → k < dof * dof → k / dof < dof
    row_in k l = (div-lt_iff_lt-mul (wide k l)).1 l

    col_in : (k : ℕ) → k < dof * dof → k % dof < dof
    col_in k l = mod-lt k (wide k l)

    -- all that is asked holds exactly if the kept sums are finite
    abbrev pub AllFinite : Type 0
    AllFinite = (r c : ℕ) → r < dof → c < dof → kept_at r c ≡ true → finite (sum_at r c) ≡ true

    pub then_finite : ((k : ℕ) → k < dof * dof → asked k ≡ true) → AllFinite
    then_finite h r c l o t =
        let i : (not (kept_at r c) || finite (sum_at r c)) ≡ true = rw (digits_div r o, digits_mod r o) at (h (r * dof + c) (digits_lt l o)) in
        rw t at i

    pub if_finite : AllFinite → (k : ℕ) → k < dof * dof → asked k ≡ true
    if_finite h k l = go (test k) refl
      where
        go : (t : Bool) → test k ≡ t → (not t || finite (sum_at (k / dof) (k % dof))) ≡ true
        go true e = h (k / dof) (k % dof) (row_in k l) (col_in k l) e
        go false e = refl

    module _ (rows_fit : rb * dof + dof ≤ n) (columns-fit : cb * dof + dof ≤ n) (room : n * n ≤ length w) where
      there : (k : ℕ) → k < dof * dof → test k ≡ true → place k < length w
      there k l _ = let r = row_in k l in let c = col_in k l in le_trans (digits_lt (omega arith) (omega arith)) room

      apart : (i k : ℕ) → i < dof * dof → k < dof * dof → test i ≡ true → test k ≡ true → place i ≡ place k → i ≡ k
      apart i k li lk _ _ e =
          let p = one_place n (rb * dof + i / dof) (cb * dof + i % dof) (rb * dof + k / dof) (cb * dof + k % dof) (let r = row_in i li in omega arith)
          (let r = row_in k lk in omega arith) e in
          let r : i / dof ≡ k / dof = omega (arith, p.0) in
          let c : i % dof ≡ k % dof = omega (arith, p.1) in
          sym (div-add-mod' i dof) ∙ ap₂ (λ x y. x * dof + y) r c ∙ div-add-mod' k dof

      added : (y : List Float) → Sofar (dof * dof) test place value w there apart (dof * dof) y → Added y
      unfolding if_then
      added y s = record { as_long = s.as_long; inside = inside; outside = λ q o. s.others q (λ k l _. o (k / dof) (k % dof) (row_in k l) (col_in k l)) }
        where
          inside : (r c : ℕ) → r < dof → c < dof → kept_at r c ≡ true → hessian_of y n (rb * dof + r) (cb * dof + c) ≡ sum_at r c
          inside r c l o t =
              let m : r * dof + c < dof * dof = digits_lt l o in
              let q = s.places (r * dof + c) m (rw (digits_div r o, digits_mod r o) t) in
              rw (lt-ltb (r * dof + c) (dof * dof) m, digits_div r o, digits_mod r o) at q

      pub block_added_lem : ((block_added keeps n dof rb cb jr jc w).0 ≡ told (every asked (dof * dof)))
          × (every asked (dof * dof) ≡ true → Added (block_added keeps n dof rb cb jr jc w).1)
      block_added_lem = let a = all_added (dof * dof) test place value w there apart in rw as_row (a.0, λ e. added _ (a.1 e))

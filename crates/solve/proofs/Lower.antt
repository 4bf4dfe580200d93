-- The rule's own equations: of the factor, of the forward substitution, and of the pivots, each stated of the whole factor. Assumes nothing.
use mathlib.Core.Path.{◌≡◌, refl, sym, ap, ◌∙◌}
use mathlib.Core.Bool.{◌&&◌, cond}
use Prim.Native.Nat.{ℕ, zero, suc, ◌+◌, ◌-◌, ◌<◌, ◌≤◌}
use native.Mathlib.Omega.{arith}
use native.Mathlib.Nat.{zero-add, suc-add}
use borrow.Author.Tests.{eq-eqb, ne_eqb}
use lib.Dec.{eqb}
use lib.Ieee.{Float, neg}
use Rattle.numbers.specs.Notation.{◌⊞◌, ◌⧄◌}
use Rattle.roots.specs.Roots.{root32}
use Rattle.solve.specs.Rule as R
use Rattle.solve.proofs.Sums.{less_ext}

-- a table that grows: turn j puts x(j) at j, and what is in stays
module _ {A : Type 0} (s : ℕ → ℕ → A) (x : ℕ → A) (grows : (j k : ℕ) → s (suc j) k ≡ cond (eqb k j) (x j) (s j k)) where
  stays_by : (m c k : ℕ) → k < m → s (c + m) k ≡ s m k
  stays_by m zero k h = rw (zero-add m)
  stays_by m (suc c) k h = rw (suc-add c m, grows (c + m) k, ne_eqb k (c + m) (λ e. omega arith)) (stays_by m c k h)

  stays : (m n k : ℕ) → k < m → m ≤ n → s n k ≡ s m k
  stays m n k h l = let e : n ≡ (n - m) + m = omega arith in ap (λ (z : ℕ). s z k) e ∙ stays_by m (n - m) k h

  there : (n j : ℕ) → j < n → s n j ≡ x j
  there n j h = stays (suc j) n j (omega arith) h ∙ grows j j ∙ rw (eq-eqb j j refl)

pub put_same : (f : ℕ → Float) (j : ℕ) (x : Float) → R.put f j x j ≡ x
unfolding R.put
put_same f j x = rw (eq-eqb j j refl)

pub put_other : (f : ℕ → Float) (j : ℕ) (x : Float) (k : ℕ) → (k ≡ j → ⊥) → R.put f j x k ≡ f k
unfolding R.put
put_other f j x k h = rw (ne_eqb k j h)

-- ---- a row, of the rows A above it

module _ (h : ℕ → Float) (A : ℕ → ℕ → Float) where
  abbrev entry : ℕ → Float
  entry j = R.less (h j) (R.factor_row h A j) (A j) j ⧄ A j j

  row_grows : (j k : ℕ) → R.factor_row h A (suc j) k ≡ cond (eqb k j) (entry j) (R.factor_row h A j k)
  unfolding R.factor_row R.put
  row_grows j k = refl

  row_own : (m j : ℕ) → j < m → R.factor_row h A m j ≡ R.less (h j) (R.factor_row h A m) (A j) j ⧄ A j j
  row_own m j l =
      there (R.factor_row h A) entry row_grows m j l
      ∙ ap (λ (z : Float). z ⧄ A j j) (less_ext (h j) (R.factor_row h A j) (A j) (R.factor_row h A m) (A j) j (λ k g. sym (stays (R.factor_row h A) entry row_grows j m k g (omega arith))) (λ k g. refl))

row_above : (h : ℕ → Float) (A B : ℕ → ℕ → Float) (m : ℕ) → ((j : ℕ) → j < m → A j ≡ B j) → R.factor_row h A m ≡ R.factor_row h B m
unfolding R.factor_row
row_above h A B zero e = refl
row_above h A B (suc j) e = rw (row_above h A B j (λ k l. e k (omega arith)), e j (omega arith))

module _ (H : ℕ → ℕ → Float) (g : ℕ → Float) (n : ℕ) (d : Float) where
  -- the whole factor
  abbrev pub L : ℕ → ℕ → Float
  L = R.lower H d n

  abbrev row_of : ℕ → ℕ → Float
  row_of i = R.put (R.factor_row (H i) (R.lower H d i) i) i (root32 (R.pivot (H i) (R.lower H d i) d i))

  lower_grows : (i a : ℕ) → R.lower H d (suc i) a ≡ cond (eqb a i) (row_of i) (R.lower H d i a)
  unfolding R.lower
  lower_grows i a = refl

  own_row : (i : ℕ) → i < n → R.factor_row (H i) (R.lower H d i) i ≡ R.factor_row (H i) L i
  own_row i h = row_above (H i) (R.lower H d i) L i (λ a l. sym (stays (R.lower H d) row_of lower_grows i n a l (omega arith)))

  L_row : (i k : ℕ) → i < n → k < i → R.factor_row (H i) L i k ≡ L i k
  L_row i k h l =
      sym
      (ap (λ (f : ℕ → Float). f k) (there (R.lower H d) row_of lower_grows n i h)
      ∙ put_other (R.factor_row (H i) (R.lower H d i) i) i (root32 (R.pivot (H i) (R.lower H d i) d i)) k (λ e. omega arith)
      ∙ ap (λ (f : ℕ → Float). f k) (own_row i h))

  pub L_entry : (i j : ℕ) → i < n → j < i → L i j ≡ R.less (H i j) (L i) (L j) j ⧄ L j j
  L_entry i j h l =
      sym (L_row i j h l)
      ∙ row_own (H i) L i j l
      ∙ ap (λ (z : Float). z ⧄ L j j) (less_ext (H i j) (R.factor_row (H i) L i) (L j) (L i) (L j) j (λ k g. L_row i k h (omega arith)) (λ k g. refl))

  -- the pivot of row i
  abbrev pub pivot : ℕ → Float
  pivot i = R.less (H i i ⊞ d) (L i) (L i) i

  pivot_is : (i : ℕ) → i < n → R.pivot (H i) (R.lower H d i) d i ≡ pivot i
  unfolding R.pivot
  pivot_is i h =
      ap (λ (f : ℕ → Float). R.less (H i i ⊞ d) f f i) (own_row i h)
      ∙ less_ext (H i i ⊞ d) (R.factor_row (H i) L i) (R.factor_row (H i) L i) (L i) (L i) i (λ k g. L_row i k h g) (λ k g. L_row i k h g)

  pub L_root : (i : ℕ) → i < n → L i i ≡ root32 (pivot i)
  L_root i h =
      ap (λ (f : ℕ → Float). f i) (there (R.lower H d) row_of lower_grows n i h)
      ∙ put_same (R.factor_row (H i) (R.lower H d i) i) i (root32 (R.pivot (H i) (R.lower H d i) d i))
      ∙ ap root32 (pivot_is i h)

  pub definite_more : (i : ℕ) → i < n → R.definite H d (suc i) ≡ (R.definite H d i && R.serves (pivot i))
  unfolding R.definite
  definite_more i h = rw (pivot_is i h)

  -- y(i)
  abbrev pub Y : ℕ → Float
  Y = R.forward L g n

  abbrev ahead : ℕ → Float
  ahead i = R.less (neg (g i)) (L i) (R.forward L g i) i ⧄ L i i

  forward_grows : (i k : ℕ) → R.forward L g (suc i) k ≡ cond (eqb k i) (ahead i) (R.forward L g i k)
  unfolding R.forward R.put
  forward_grows i k = refl

  pub Y_is : (i : ℕ) → i < n → Y i ≡ R.less (neg (g i)) (L i) Y i ⧄ L i i
  Y_is i h =
      there (R.forward L g) ahead forward_grows n i h
      ∙ ap (λ (z : Float). z ⧄ L i i) (less_ext (neg (g i)) (L i) (R.forward L g i) (L i) Y i (λ k l. refl) (λ k l. sym (stays (R.forward L g) ahead forward_grows i n k l (omega arith))))

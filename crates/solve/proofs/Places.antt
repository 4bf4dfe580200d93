-- What stands where: the places of the work (`place_of`), what a solve leaves in them (`work_after`), and what clearing does. Assumes nothing.
use mathlib.Core.Path.{◌≡◌, refl, sym, ap, ◌∙◌, subst}
use mathlib.Core.Logic.{◌⊎◌, inl, inr, ⊎_elim}
use mathlib.Core.Bool.{Bool, true, false}
use mathlib.Core.List.{List, ◌++◌}
use Prim.Native.Nat.{ℕ, zero, suc, ◌+◌, ◌-◌, ◌*◌, ◌/◌, ◌%◌, ◌<◌, ◌≤◌}
use native.Mathlib.Nat.{eq-or-lt_of_le, div-add-mod', div-lt_iff_lt-mul, mod-lt}
use native.Mathlib.Omega.{arith}
use borrow.Author.Tests.{lt-ltb, le-ltb, le-leb, lt-leb, ltb-true, ltb-false}
use lib.Arith.{digits_div, digits_mod, digits_lt}
use lib.Dec.{ltb, leb}
use lib.ListN.{length, get_or, set, take, drop, replicate, length-set, length-replicate, get_or-replicate}
use lib.Seq.{get_or-set_same, get_or-set_other, take_all, paste, paste-zero, paste-suc}
use lib.Ieee.{Float, nan}
use Rattle.numbers.specs.Notation.{num, if_then}
use Rattle.numbers.proofs.Choices.{taken, left}
use Rattle.numbers.proofs.Tables.{length_table, get_d_table, is_table}
use Rattle.profile.specs.Layout.{need, hessian_of}
use Rattle.solve.specs.Work.{gradient_of, Place, kept, scratch, step_at, place_of, after, work_after}
use Rattle.solve.specs.forms.Profile.{step_of, cleared_at, cleared_rows}
use Rattle.profile.proofs.Index.{before, le_or_lt, one_line}

-- ---- the places

module _ (n : ℕ) where
  pub at_system : (i j : ℕ) → j ≤ i → i < n → place_of n (j * n + i) ≡ kept
  unfolding place_of
  at_system i j h l =
      let g : j < n = omega arith in
      sym (taken _ (lt-ltb (j * n + i) (n * n) (digits_lt g l)) (taken _ (rw (digits_div j l, digits_mod j l) (le-leb j i h)) refl))

  pub at_cell : (i j : ℕ) → j < i → i < n → place_of n (i * n + j) ≡ scratch
  unfolding place_of
  at_cell i j h l =
      let g : j < n = omega arith in
      sym (taken _ (lt-ltb (i * n + j) (n * n) (digits_lt l g)) (left _ (rw (digits_div i g, digits_mod i g) (lt-leb i j h)) refl))

  at_root : (q : ℕ) → n * n ≤ q → q < n * n + n → place_of n q ≡ scratch
  unfolding place_of
  at_root q h l = sym (left _ (le-ltb q (n * n) h) (taken _ (lt-ltb q (n * n + n) l) refl))

  pub at_gradient : (q : ℕ) → n * n + n ≤ q → q < n * n + n + n → place_of n q ≡ kept
  unfolding place_of
  at_gradient q h l = sym (left _ (le-ltb q (n * n) (omega arith)) (left _ (le-ltb q (n * n + n) h) (taken _ (lt-ltb q (n * n + n + n) l) refl)))

  pub at_step : (q : ℕ) → n * n + n + n ≤ q → q < need n → place_of n q ≡ step_at (q - (n * n + n + n))
  unfolding place_of
  at_step q h l =
      sym
      (left _ (le-ltb q (n * n) (omega arith))
      (left _ (le-ltb q (n * n + n) (omega arith))
      (left _ (le-ltb q (n * n + n + n) h) (taken _ (lt-ltb q (need n) l) refl))))

  pub at_rest : (q : ℕ) → need n ≤ q → place_of n q ≡ kept
  unfolding place_of
  at_rest q h =
      sym
      (left _ (le-ltb q (n * n) (omega arith))
      (left _ (le-ltb q (n * n + n) (omega arith))
      (left _ (le-ltb q (n * n + n + n) (omega arith)) (left _ (le-ltb q (need n) h) refl))))

  -- a place of the step is one of n
  step_below : (q i : ℕ) → place_of n q ≡ step_at i → i < n
  unfolding place_of if_then
  step_below q i = go (ltb q (n * n)) (leb (q / n) (q % n)) (ltb q (n * n + n)) (ltb q (n * n + n + n)) (ltb q (need n)) (ltb-false q (n * n + n + n)) (ltb-true q (need n))
    where
      none : {A : Type 0} (p : Place) → p ≡ kept → p ≡ step_at i → A
      none p a b = let z : ◌≡◌ {A = ℕ} 0 1 = cc in absurd (omega arith)

      none' : {A : Type 0} (p : Place) → p ≡ scratch → p ≡ step_at i → A
      none' p a b = let z : ◌≡◌ {A = ℕ} 0 1 = cc in absurd (omega arith)

      go : (a b c d e : Bool) → (d ≡ false → n * n + n + n ≤ q) → (e ≡ true → q < need n)
          → if_then a (if_then b kept scratch) (if_then c scratch (if_then d kept (if_then e (step_at (q - (n * n + n + n))) kept))) ≡ step_at i → i < n
      go true true c d e f g s = none kept refl s
      go true false c d e f g s = none' scratch refl s
      go false b true d e f g s = none' scratch refl s
      go false b false true e f g s = none kept refl s
      go false b false false false f g s = none kept refl s
      go false b false false true f g s =
          let t : q - (n * n + n + n) ≡ i = cc in
          omega (arith, f refl, g refl)

-- ---- what a solve leaves

module _ (w : List Float) (n : ℕ) (x : ℕ → Float) where
  pub length_after : length (work_after w n x) ≡ length w
  unfolding work_after
  length_after = length_table (λ q. after x (get_or w q nan) (place_of n q)) (length w)

  pub read_after : (q : ℕ) → q < length w → get_or (work_after w n x) q nan ≡ after x (get_or w q nan) (place_of n q)
  unfolding work_after
  read_after q h = get_d_table (λ q. after x (get_or w q nan) (place_of n q)) (length w) q nan h

  pub read_kept : (q : ℕ) → q < length w → place_of n q ≡ kept → get_or (work_after w n x) q nan ≡ get_or w q nan
  read_kept q h k = read_after q h ∙ ap (after x (get_or w q nan)) k

  pub system_after : need n ≤ length w → (i j : ℕ) → j ≤ i → i < n → hessian_of (work_after w n x) n i j ≡ hessian_of w n i j
  system_after long i j h l = let g : j < n = omega arith in read_kept (j * n + i) (omega (arith, before n j n g)) (at_system n i j h l)

  pub gradient_after : need n ≤ length w → (i : ℕ) → i < n → gradient_of (work_after w n x) n i ≡ gradient_of w n i
  gradient_after long i h = read_kept (n * n + n + i) (omega arith) (at_gradient n (n * n + n + i) (omega arith) (omega arith))

  -- a list with such numbers is that
  pub is_after : (v : List Float) → length v ≡ length w → ((q : ℕ) → q < length w → get_or v q nan ≡ after x (get_or w q nan) (place_of n q)) → v ≡ work_after w n x
  unfolding work_after
  is_after v e h = is_table nan v (λ q. after x (get_or w q nan) (place_of n q)) (length w) e h

-- it turns on the places that are kept, and on the step
pub after_ext : (v w : List Float) (n : ℕ) (x y : ℕ → Float) → length v ≡ length w → ((q : ℕ) → q < length w → place_of n q ≡ kept → get_or v q nan ≡ get_or w q nan)
    → ((i : ℕ) → i < n → x i ≡ y i) → work_after v n x ≡ work_after w n y
after_ext v w n x y e same steps =
    is_after w n y (work_after v n x) (length_after v n x ∙ e)
    (λ q h. read_after v n x q (omega arith) ∙ go q h (place_of n q) refl)
  where
    go : (q : ℕ) → q < length w → (p : Place) → place_of n q ≡ p → after x (get_or v q nan) p ≡ after y (get_or w q nan) p
    go q h kept s = same q h s
    go q h scratch s = refl
    go q h (step_at i) s = steps i (step_below n q i s)

-- v is w but for L's places and the step's
pub record Spares (n : ℕ) (w v : List Float) : Type 0 where
  pub len : length v ≡ length w
  pub at : (q : ℕ) → place_of n q ≡ kept → get_or v q nan ≡ get_or w q nan

pub spares_none : (n : ℕ) (w : List Float) → Spares n w w
spares_none n w = record { len = refl; at = λ q h. refl }

pub spares_then : (n : ℕ) (w v z : List Float) → Spares n w v → Spares n v z → Spares n w z
spares_then n w v z a b = record { len = b.len ∙ a.len; at = λ q h. b.at q h ∙ a.at q h }

-- a place that is not kept
abbrev pub Free : ℕ → ℕ → Type 0
Free n q = place_of n q ≡ kept → ⊥

pub free_cell : (n i j : ℕ) → j < i → i < n → Free n (i * n + j)
free_cell n i j h l k = let p = at_cell n i j h l in let z : ◌≡◌ {A = ℕ} 0 1 = cc in omega arith

pub free_root : (n i : ℕ) → i < n → Free n (n * n + i)
free_root n i l k = let p = at_root n (n * n + i) (omega arith) (omega arith) in let z : ◌≡◌ {A = ℕ} 0 1 = cc in omega arith

pub free_step : (n i : ℕ) → i < n → Free n (n * n + n + n + i)
free_step n i l k = let p = at_step n (n * n + n + n + i) (omega arith) (omega arith) in let z : ◌≡◌ {A = ℕ} 0 1 = cc in omega arith

pub spares_set : (n : ℕ) (w v : List Float) (p : ℕ) (y : Float) → Free n p → Spares n w v → Spares n w (set v p y)
spares_set n w v p y f s =
    record {
      len = length-set v p y ∙ s.len;
      at = λ q h. get_or-set_other v p q y nan (λ e. f (subst (λ (z : ℕ). place_of n z ≡ kept) e h)) ∙ s.at q h;
    }

-- ---- clearing

pub length_cleared : (w : List Float) (p m : ℕ) → length (cleared_at w p m) ≡ length w
unfolding cleared_at
length_cleared w p zero = refl
length_cleared w p (suc k) = length-set (cleared_at w p k) (p + k) (num 0) ∙ length_cleared w p k

pub cleared_in : (w : List Float) (p m q : ℕ) → p + m ≤ length w → p ≤ q → q < p + m → get_or (cleared_at w p m) q nan ≡ num 0
unfolding cleared_at
cleared_in w p zero q h a b = absurd (omega arith)
cleared_in w p (suc k) q h a b =
    ⊎_elim
    (λ (e : q ≡ p + k). rw e (get_or-set_same (cleared_at w p k) (p + k) (num 0) nan (omega (arith, length_cleared w p k))))
    (λ (e : q < p + k). get_or-set_other (cleared_at w p k) (p + k) q (num 0) nan (λ z. omega arith) ∙ cleared_in w p k q (omega arith) a e)
    (eq-or-lt_of_le (omega arith))

pub cleared_out : (w : List Float) (p m q : ℕ) → (q < p) ⊎ (p + m ≤ q) → get_or (cleared_at w p m) q nan ≡ get_or w q nan
unfolding cleared_at
cleared_out w p zero q h = refl
cleared_out w p (suc k) q h =
    get_or-set_other (cleared_at w p k) (p + k) q (num 0) nan (λ z. ⊎_elim (λ (l : q < p). omega arith) (λ (l : p + suc k ≤ q). omega arith) h)
    ∙ cleared_out w p k q (⊎_elim (λ (l : q < p). inl l) (λ (l : p + suc k ≤ q). inr (omega arith)) h)

-- what it leaves as one list: +0 in the place of the m numbers from p on
cleared_first : (w : List Float) (p m k : ℕ) → p + m ≤ length w → k ≤ m → paste w p (replicate m (num 0)) k ≡ cleared_at w p k
unfolding cleared_at
cleared_first w p m zero h l = sym (paste-zero w p (replicate m (num 0)))
cleared_first w p m (suc k) h l =
    let zeros = replicate m (num 0) in
    sym
    (ap (λ (x : List Float). set x (p + k) (num 0)) (sym (cleared_first w p m k h (omega arith)))
    ∙ ap (λ (x : Float). set (paste w p zeros k) (p + k) x) (sym (get_or-replicate m k (num 0) nan l))
    ∙ paste-suc w p zeros k nan (omega arith) (omega (arith, length-replicate m (num 0))))

pub cleared_whole : (w : List Float) (p m : ℕ) → p + m ≤ length w → take p w ++ replicate m (num 0) ++ drop (p + m) w ≡ cleared_at w p m
cleared_whole w p m h =
    ap (λ (x : List Float). take p w ++ x ++ drop (p + m) w) (sym (take_all m (replicate m (num 0)) (omega (arith, length-replicate m (num 0)))))
    ∙ cleared_first w p m m h (omega arith)

-- clearing the step keeps what is kept
pub cleared_spares : (n : ℕ) (w : List Float) (q : ℕ) → place_of n q ≡ kept → get_or (cleared_at w (n * n + n + n) n) q nan ≡ get_or w q nan
cleared_spares n w q k =
    let o = n * n + n + n in
    cleared_out w o n q
    (⊎_elim
    (λ (a : o ≤ q).
    ⊎_elim (λ (b : o + n ≤ q). inr b) (λ (b : q < o + n). let p = at_step n q a (omega arith) in let z : ◌≡◌ {A = ℕ} 0 1 = cc in absurd (omega arith)) (le_or_lt (o + n) q))
    (λ (a : q < o). inl a)
    (le_or_lt o q))

module _ (w : List Float) (n : ℕ) (long : n * n ≤ length w) where
  length_rows : (i : ℕ) → length (cleared_rows w n i) ≡ length w
  unfolding cleared_rows
  length_rows zero = refl
  length_rows (suc i) = length_cleared (cleared_rows w n i) (i * n) i ∙ length_rows i

  -- place b of line a: +0 where it is L's, in the first i rows; else as it was
  rows_cell : (i a b : ℕ) → i ≤ n → a < i → b < a → get_or (cleared_rows w n i) (a * n + b) nan ≡ num 0
  unfolding cleared_rows
  rows_cell zero a b h l g = absurd (omega arith)
  rows_cell (suc i) a b h l g =
      ⊎_elim
      (λ (e : suc a ≡ suc i). let f : a ≡ i = omega arith in let hi : i < n = omega arith in rw f (cleared_in (cleared_rows w n i) (i * n) i (i * n + b) (omega (arith, length_rows i, before n i n hi)) (omega arith) (omega arith)))
      (λ (e : suc a < suc i). let ha : a < i = omega arith in cleared_out (cleared_rows w n i) (i * n) i (a * n + b) (inl (omega (arith, before n a i ha))) ∙ rows_cell i a b (omega arith) (omega arith) g)
      (eq-or-lt_of_le l)

  rows_out : (i q : ℕ) → ((a b : ℕ) → a < i → b < a → q ≡ a * n + b → ⊥) → get_or (cleared_rows w n i) q nan ≡ get_or w q nan
  unfolding cleared_rows
  rows_out zero q h = refl
  rows_out (suc i) q h =
      cleared_out (cleared_rows w n i) (i * n) i q
      (⊎_elim
      (λ (l : i * n ≤ q).
      ⊎_elim
      (λ (g : i * n + i ≤ q). inr g)
      (λ (g : q < i * n + i). let e : q ≡ i * n + (q - i * n) = omega arith in absurd (h i (q - i * n) (omega arith) (omega arith) e))
      (le_or_lt (i * n + i) q))
      (λ (l : q < i * n). inl l)
      (le_or_lt (i * n) q))
      ∙ rows_out i q (λ a b l g e. h a b (omega arith) g e)

-- all of L: the step stays as it is
module _ (w : List Float) (n : ℕ) (long : need n ≤ length w) where
  within : n * n ≤ length w
  within = omega arith

  abbrev bare : List Float
  bare = cleared_rows w n n

  abbrev After : ℕ → Type 0
  After q = get_or (cleared_at bare (n * n) n) q nan ≡ after (step_of w n) (get_or w q nan) (place_of n q)

  -- by what stands there
  settled : (q : ℕ) (x : Float) (p : Place) → place_of n q ≡ p → get_or (cleared_at bare (n * n) n) q nan ≡ x → x ≡ after (step_of w n) (get_or w q nan) p → After q
  settled q x p e a b = a ∙ b ∙ ap (after (step_of w n) (get_or w q nan)) (sym e)

  matrix_place : (a b : ℕ) → a < n → b < n → After (a * n + b)
  matrix_place a b ha hb =
      let o = cleared_out bare (n * n) n (a * n + b) (inl (digits_lt ha hb)) in
      ⊎_elim
      (λ (h : a ≤ b).
      settled (a * n + b) (get_or w (a * n + b) nan) kept (at_system n b a h hb)
      (o ∙ rows_out w n within n (a * n + b) (λ c e l g q. let z : a ≡ c = one_line n a b c e hb (omega arith) q in omega (arith, ap (λ (x : ℕ). x * n) z)))
      refl)
      (λ (h : b < a). settled (a * n + b) (num 0) scratch (at_cell n a b h ha) (o ∙ rows_cell w n within n a b (omega arith) ha h) refl)
      (le_or_lt a b)

  -- past the roots nothing is cleared
  past_place : (q : ℕ) → n * n + n ≤ q → get_or (cleared_at bare (n * n) n) q nan ≡ get_or w q nan
  past_place q h = cleared_out bare (n * n) n q (inr h) ∙ rows_out w n within n q (λ a b l g e. omega (arith, before n a n l))

  any_place : (q : ℕ) → After q
  any_place q =
      ⊎_elim
      (λ (a : n * n ≤ q).
      ⊎_elim
      (λ (b : n * n + n ≤ q).
      ⊎_elim
      (λ (c : n * n + n + n ≤ q).
      ⊎_elim
      (λ (d : need n ≤ q). settled q (get_or w q nan) kept (at_rest n q d) (past_place q b) refl)
      (λ (d : q < need n).
      let e : q ≡ n * n + n + n + (q - (n * n + n + n)) = omega arith in
      settled q (get_or w q nan) (step_at (q - (n * n + n + n))) (at_step n q c d) (past_place q b) (ap (λ (z : ℕ). get_or w z nan) e))
      (le_or_lt (need n) q))
      (λ (c : q < n * n + n + n). settled q (get_or w q nan) kept (at_gradient n q b c) (past_place q b) refl)
      (le_or_lt (n * n + n + n) q))
      (λ (b : q < n * n + n). settled q (num 0) scratch (at_root n q a b) (cleared_in bare (n * n) n q (omega (arith, length_rows w n within n)) a b) refl)
      (le_or_lt (n * n + n) q))
      (λ (a : q < n * n). let p : 0 < n = some n q a in subst After (div-add-mod' q n) (matrix_place (q / n) (q % n) ((div-lt_iff_lt-mul p).1 a) (mod-lt q p)))
      (le_or_lt (n * n) q)
    where
      some : (n q : ℕ) → q < n * n → 0 < n
      some zero q h = absurd (omega arith)
      some (suc n) q h = omega arith

  pub cleared_lower : cleared_at (cleared_rows w n n) (n * n) n ≡ work_after w n (step_of w n)
  cleared_lower = is_after w n (step_of w n) (cleared_at bare (n * n) n) (length_cleared bare (n * n) n ∙ length_rows w n within n) (λ q h. any_place q)

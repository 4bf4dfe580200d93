-- The factor by the profile is the rule's: where it goes well the work holds the rule's factor, to the bit; else the rule's fails too. Assumes nothing.
use mathlib.Core.Path.{◌≡◌, refl, sym, ap, ◌∙◌, subst}
use mathlib.Core.Logic.{◌⊎◌, inl, inr, ⊎_elim}
use mathlib.Core.Bool.{Bool, true, false, and-false, true≢false}
use mathlib.Core.List.{List}
use Prim.Native.Nat.{ℕ, zero, suc, ◌+◌, ◌-◌, ◌*◌, ◌<◌, ◌≤◌}
use native.Mathlib.Nat.{add-zero, add-suc, eq-or-lt_of_le, mul-pos, zero-mul, zero-lt-suc}
use native.Mathlib.Omega.{arith}
use lib.ListN.{length, get_or, set, length-set}
use lib.Seq.{get_or-set_same, get_or-set_other}
use lib.IntN.{pos}
use lib.Dec.{eqb-suc-zero}
use lib.Ieee.{Float, nan, inf, fin, binary32, up, down, lt, div}
use lib.Ieee.Positive.{positive}
use lib.Ieee.Bits.{of_bits-fits}
use lib.Ieee.Fits.{add-fits, up_pos}
use lib.Ieee.Scale.{finite}
use Rattle.numbers.specs.Notation.{◌⊞◌, ◌⊠◌, ◌⧄◌, num}
use Rattle.roots.specs.Roots.{root32}
use Rattle.solve.specs.Rule as R
use Rattle.solve.specs.Rule.{less, serves}
use Rattle.profile.specs.Layout.{need, hessian_of}
use Rattle.solve.specs.Work.{gradient_of}
use Rattle.profile.specs.Starts.{first_of, minus_zero, start_at}
use Rattle.solve.specs.forms.Profile.{cell_of, root_of, entry_from, next_entry, row_from, pivot_from, onward, whole_row, rows_from}
use Rattle.profile.proofs.Index.{before, one_line}
use Rattle.numbers.proofs.Tests.{true_or_false}
use Rattle.roots.proofs.RootServes.{zero_is, above_zero, root_serves}
use Rattle.profile.proofs.Zeros.{Fits, literal_zero, zero_less, plus_times, less_square, nothing_of, stuck_square}
use Rattle.solve.proofs.Firsts.{Within}
use Rattle.solve.proofs.Sums.{less_ext, less_idle, less_skip, less_stuck, less_fits, less_start, start_low}
use Rattle.solve.proofs.Lower as O

pub fits_zero : Fits (num 0)
fits_zero = rw (← literal_zero) (of_bits-fits binary32 0)

plain_zero : minus_zero (num 0) ≡ false
unfolding minus_zero
plain_zero = rw zero_is

finite_zero : finite (num 0) ≡ true
finite_zero = rw zero_is

serves_stuck : (p : Float) → finite p ≡ false → serves p ≡ false
unfolding serves
serves_stuck p e = rw e (and-false (lt (num 0) p))

plus_by : (y : Float) → serves y ≡ true → num 0 ⧄ y ≡ num 0
unfolding serves div
plus_by y h = rw zero_is (go y (sym (above_zero y) ∙ h))
  where
    go : (y : Float) → positive y ≡ true → fin false 0 (pos 0) ⧄ y ≡ fin false 0 (pos 0)
    go nan h = absurd (true≢false (sym h))
    go (inf s) h = absurd (true≢false (sym h))
    go (fin true n d) h = absurd (true≢false (sym h))
    go (fin false zero d) h = absurd (true≢false (sym h))
    go (fin false (suc n) d) h =
        rw (eqb-suc-zero n)
        (nothing_of false (0 * down d) (suc n * up d * 1) (mul-pos (mul-pos (zero-lt-suc n) (up_pos d)) (zero-lt-suc 0)) (zero-mul (down d)))

-- the system, its damping, and a start for each row
module _ (n : ℕ) (H : ℕ → ℕ → Float) (g : ℕ → Float) (d : Float) (F : List ℕ) where
  abbrev pub L : ℕ → ℕ → Float
  L = O.L H g n d

  abbrev pub pivot : ℕ → Float
  pivot = O.pivot H g n d

  -- H has +0 left of the starts, and its numbers are f32
  pub record Fair : Type 0 where
    pub low : Within n F
    pub none : (a b : ℕ) → a < n → b < first_of F a → H a b ≡ num 0
    pub fit : (a b : ℕ) → a < n → b < a → Fits (H a b)
    pub grad : (a : ℕ) → a < n → Fits (g a)

  -- the first i rows of L have +0 left of the starts, and are finite, with roots above 0
  pub record Thin (i : ℕ) : Type 0 where
    pub left : (a b : ℕ) → a < i → b < first_of F a → L a b ≡ num 0
    pub done : (a b : ℕ) → a < i → b < a → finite (L a b) ≡ true
    pub root : (a : ℕ) → a < i → serves (L a a) ≡ true

  -- the work once i rows of L are in
  pub record At (w : List Float) (i : ℕ) : Type 0 where
    pub long : need n ≤ length w
    pub system : (a b : ℕ) → b ≤ a → a < n → hessian_of w n a b ≡ H a b
    pub gradient : (a : ℕ) → a < n → gradient_of w n a ≡ g a
    pub cells : (a b : ℕ) → a < i → b < a → cell_of w n a b ≡ L a b
    pub roots : (a : ℕ) → a < i → root_of w n a ≡ L a a
    pub clear : (a b : ℕ) → i ≤ a → a < n → b < a → cell_of w n a b ≡ num 0

  module _ (fair : Fair) (i : ℕ) (hi : i < n) (t : Thin i) where
    abbrev f : ℕ
    f = first_of F i

    f_low : f ≤ i
    f_low = fair.low i hi

    -- row i of L has +0 left of its start
    empty_by : (m : ℕ) → m ≤ f → (k : ℕ) → k < m → L i k ≡ num 0
    empty_by zero h k l = absurd (omega arith)
    empty_by (suc j) h k l =
        ⊎_elim
        (λ (e : suc k ≡ suc j).
        let q : k ≡ j = omega arith in
        let hj : j < i = omega (arith, f_low) in
        rw q
        (O.L_entry H g n d i j hi hj
        ∙ rw (
          fair.none i j hi h,
          less_idle (num 0) (L i) (L j) j
              (λ c z.
              rw (empty_by j (omega arith) c z)
              (zero_less (num 0) (num 0 ⊠ L j c) fits_zero plain_zero (plus_times (L j c) (t.done j c hj z)))),
        )
        (plus_by (L j j) (t.root j hj))))
        (λ (e : suc k < suc j). empty_by j (omega arith) k (omega arith))
        (eq-or-lt_of_le l)

    empty : (k : ℕ) → k < f → L i k ≡ num 0
    empty k h = empty_by f (omega arith) k h

    -- the work in row i
    module _ (w : List Float) (r : At w i) where
      abbrev u : ℕ → List Float
      u m = row_from w n F i m

      row_length : (m : ℕ) → length (u m) ≡ length w
      unfolding row_from
      row_length zero = refl
      row_length (suc m) = length-set (u m) (i * n + (f + m)) (next_entry (u m) n F i (f + m) f) ∙ row_length m

      row_keeps : (m q : ℕ) → ((b : ℕ) → b < f + m → q ≡ i * n + b → ⊥) → get_or (u m) q nan ≡ get_or w q nan
      unfolding row_from
      row_keeps zero q h = refl
      row_keeps (suc m) q h =
          get_or-set_other (u m) (i * n + (f + m)) q (next_entry (u m) n F i (f + m) f) nan (h (f + m) (omega arith))
          ∙ row_keeps m q (λ b l. h b (omega arith))

      kept_system : (m a b : ℕ) → f + m ≤ i → b ≤ a → a < n → hessian_of (u m) n a b ≡ H a b
      kept_system m a b h hb ha =
          row_keeps m (b * n + a) (λ c l e. let z : b ≡ i = one_line n b a i c ha (omega arith) e in omega (arith, ap (λ (x : ℕ). x * n) z))
          ∙ r.system a b hb ha

      kept_line : (m a b : ℕ) → f + m ≤ i → (a ≡ i → ⊥) → b < n → cell_of (u m) n a b ≡ cell_of w n a b
      kept_line m a b h ha hb = row_keeps m (a * n + b) (λ c l e. ha (one_line n a b i c hb (omega arith) e))

      kept_far : (m q : ℕ) → f + m ≤ i → n * n ≤ q → get_or (u m) q nan ≡ get_or w q nan
      kept_far m q h l = row_keeps m q (λ c z e. omega (arith, before n i n hi))

      -- after m entries: all are the rule's, and finite; or one is not finite, here and there
      abbrev Alike : ℕ → Type 0
      Alike m =
          (((k : ℕ) → k < f + m → cell_of (u m) n i k ≡ L i k) × ((k : ℕ) → k < f + m → finite (L i k) ≡ true))
          ⊎ ((b : ℕ) × (f ≤ b) × (b < f + m) × (finite (L i b) ≡ false) × (finite (cell_of (u m) n i b) ≡ false))

      next_same : (m : ℕ) → f + m < i → ((k : ℕ) → k < f + m → cell_of (u m) n i k ≡ L i k) → ((k : ℕ) → k < f + m → finite (L i k) ≡ true)
          → next_entry (u m) n F i (f + m) f ≡ L i (f + m)
      unfolding entry_from
      next_same m h same fine =
          let j = f + m in
          let hj : j < n = omega arith in
          let s = start_at (H i j) f (first_of F j) in
          let low : s ≤ j = start_low (H i j) j f (first_of F j) (omega arith) (fair.low j hj) in
          rw (kept_system m i j (omega arith) (omega arith) hi, kept_far m (n * n + j) (omega arith) (omega arith), r.roots j h)
          (ap (λ (z : Float). z ⧄ L j j)
          (less_ext (H i j) (λ k. get_or (u m) (i * n + s + k) nan) (λ k. get_or (u m) (j * n + s + k) nan) (λ k. L i (s + k)) (λ k. L j (s + k)) (j - s)
          (λ k l. let e : i * n + s + k ≡ i * n + (s + k) = omega arith in rw e (same (s + k) (omega arith)))
          (λ k l. let e : j * n + s + k ≡ j * n + (s + k) = omega arith in rw e (kept_line m j (s + k) (omega arith) (λ z. omega arith) (omega arith) ∙ r.cells j (s + k) h (omega arith)))
          ∙ sym
          (less_start (H i j) (L i) (L j) f (first_of F j) j (fair.fit i j hi h) empty fine (λ k l. t.left j k h l) (λ k l. t.done j k h l) (omega arith) (fair.low j hj)))
          ∙ sym (O.L_entry H g n d i j hi h))

      alike : (m : ℕ) → f + m ≤ i → Alike m
      unfolding row_from
      alike zero h =
          rw add-zero
          (inl (λ k l. r.clear i k (omega arith) hi (omega (arith, f_low)) ∙ sym (empty k l), λ k l. ap finite (empty k l) ∙ finite_zero))
      alike (suc m) h =
          let q = i * n + (f + m) in
          let x = next_entry (u m) n F i (f + m) f in
          let other : (b : ℕ) → b < f + m → cell_of (set (u m) q x) n i b ≡ cell_of (u m) n i b = λ b l. get_or-set_other (u m) q (i * n + b) x nan (λ e. omega arith) in
          let own : cell_of (set (u m) q x) n i (f + m) ≡ x = get_or-set_same (u m) q x nan (omega (arith, row_length m, before n i n hi, r.long)) in
          rw add-suc
          (⊎_elim
          (λ (s : ((k : ℕ) → k < f + m → cell_of (u m) n i k ≡ L i k) × ((k : ℕ) → k < f + m → finite (L i k) ≡ true)).
          let e : x ≡ L i (f + m) = next_same m (omega arith) s.0 s.1 in
          ⊎_elim
          (λ (y : finite (L i (f + m)) ≡ true).
          inl (
            λ k l. ⊎_elim (λ (z : k ≡ f + m). rw z (own ∙ e)) (λ (z : k < f + m). other k z ∙ s.0 k z) (eq-or-lt_of_le (omega arith)),
            λ k l. ⊎_elim (λ (z : k ≡ f + m). rw z y) (λ (z : k < f + m). s.1 k z) (eq-or-lt_of_le (omega arith)),
          ))
          (λ (y : finite (L i (f + m)) ≡ false). inr (f + m, omega arith, omega arith, y, ap finite (own ∙ e) ∙ y))
          (true_or_false (finite (L i (f + m)))))
          (λ (s : (b : ℕ) × (f ≤ b) × (b < f + m) × (finite (L i b) ≡ false) × (finite (cell_of (u m) n i b) ≡ false)).
          inr (s.0, s.1, omega (arith, s.2), s.3, ap finite (other s.0 s.2) ∙ s.4))
          (alike m (omega arith)))

      -- the whole row, and its pivot
      abbrev v : List Float
      v = u (i - f)

      low_end : f + (i - f) ≡ i
      low_end = omega (arith, f_low)

      pivot_same : ((k : ℕ) → k < i → cell_of v n i k ≡ L i k) → pivot_from v n d i f ≡ pivot i
      unfolding pivot_from
      pivot_same same =
          rw (kept_system (i - f) i i (omega (arith, low_end)) (omega arith) hi)
          (less_ext (H i i ⊞ d) (λ k. get_or v (i * n + f + k) nan) (λ k. get_or v (i * n + f + k) nan) (λ k. L i (f + k)) (λ k. L i (f + k)) (i - f) at at
          ∙ sym (less_skip (H i i ⊞ d) (L i) (L i) f (i - f) (λ k l. rw (empty k l) (less_square (H i i ⊞ d) (add-fits binary32 (H i i) d))))
          ∙ ap (less (H i i ⊞ d) (L i) (L i)) low_end)
        where
          at : (k : ℕ) → k < i - f → get_or v (i * n + f + k) nan ≡ L i (f + k)
          at k l = let e : i * n + f + k ≡ i * n + (f + k) = omega arith in rw e (same (f + k) (omega arith))

      -- a number that is not finite fails both pivots
      pivot_stuck : (b : ℕ) → f ≤ b → b < i → finite (L i b) ≡ false → finite (cell_of v n i b) ≡ false → (serves (pivot i) ≡ false) × (serves (pivot_from v n d i f) ≡ false)
      unfolding pivot_from
      pivot_stuck b hf hb x y =
          let e : i * n + f + (b - f) ≡ i * n + b = omega arith in
          let a : ℕ → Float = λ k. get_or v (i * n + f + k) nan in (
            serves_stuck (pivot i) (less_stuck (H i i ⊞ d) (L i) (L i) i b hb (stuck_square (L i b) x)),
            serves_stuck (less (hessian_of v n i i ⊞ d) a a (i - f))
                (less_stuck (hessian_of v n i i ⊞ d) a a (i - f) (b - f) (omega arith) (rw e (stuck_square (cell_of v n i b) y))),
          )

      -- the rows so far, where the pivot serves
      module _ (same : (k : ℕ) → k < i → cell_of v n i k ≡ L i k) (fine : (k : ℕ) → k < i → finite (L i k) ≡ true) (s : serves (pivot i) ≡ true) where
        thin_more : Thin (suc i)
        unfolding serves
        thin_more =
            record {
              left = λ a b ha hb. ⊎_elim (λ (e : suc a ≡ suc i). let z : a ≡ i = omega arith in rw z (empty b (rw z at hb))) (λ (e : suc a < suc i). t.left a b (omega arith) hb) (eq-or-lt_of_le ha);
              done = λ a b ha hb. ⊎_elim (λ (e : suc a ≡ suc i). let z : a ≡ i = omega arith in rw z (fine b (omega arith))) (λ (e : suc a < suc i). t.done a b (omega arith) hb) (eq-or-lt_of_le ha);
              root = λ a ha.
                  ⊎_elim
                  (λ (e : suc a ≡ suc i).
                  let z : a ≡ i = omega arith in
                  rw (z, O.L_root H g n d i hi) (root_serves binary32 (pivot i) (less_fits (H i i ⊞ d) (L i) (L i) i (add-fits binary32 (H i i) d)) s))
                  (λ (e : suc a < suc i). t.root a (omega arith))
                  (eq-or-lt_of_le ha);
            }

        at_more : At (set v (n * n + i) (root32 (pivot i))) (suc i)
        at_more =
            let p = root32 (pivot i) in
            let x = set v (n * n + i) p in
            let m = i - f in
            let hm : f + m ≤ i = omega (arith, low_end) in
            let other : (q : ℕ) → (q ≡ n * n + i → ⊥) → get_or x q nan ≡ get_or v q nan = λ q h. get_or-set_other v (n * n + i) q p nan h in
            record {
              long = omega (arith, length-set v (n * n + i) p, row_length m, r.long);
              system = λ a b hb ha. let l : b < n = omega arith in other (b * n + a) (λ e. omega (arith, before n b n l)) ∙ kept_system m a b hm hb ha;
              gradient = λ a ha. other (n * n + n + a) (λ e. omega arith) ∙ kept_far m (n * n + n + a) hm (omega arith) ∙ r.gradient a ha;
              cells = λ a b ha hb.
                  let l : a < n = omega arith in
                  other (a * n + b) (λ e. omega (arith, before n a n l))
                  ∙ ⊎_elim
                  (λ (e : suc a ≡ suc i). let z : a ≡ i = omega arith in rw z (same b (omega arith)))
                  (λ (e : suc a < suc i). kept_line m a b hm (λ z. omega arith) (omega arith) ∙ r.cells a b (omega arith) hb)
                  (eq-or-lt_of_le ha);
              roots = λ a ha.
                  ⊎_elim
                  (λ (e : suc a ≡ suc i). let z : a ≡ i = omega arith in rw z (get_or-set_same v (n * n + i) p nan (omega (arith, row_length m, r.long)) ∙ sym (O.L_root H g n d i hi)))
                  (λ (e : suc a < suc i). other (n * n + a) (λ z. omega arith) ∙ kept_far m (n * n + a) hm (omega arith) ∙ r.roots a (omega arith))
                  (eq-or-lt_of_le ha);
              clear = λ a b ha hn hb. other (a * n + b) (λ e. omega (arith, before n a n hn)) ∙ kept_line m a b hm (λ z. omega arith) (omega arith) ∙ r.clear a b (omega arith) hn hb;
            }

      abbrev Whole : Bool × List Float → Type 0
      Whole (true, x) = At x (suc i) × Thin (suc i) × (serves (pivot i) ≡ true)
      Whole (false, x) = serves (pivot i) ≡ false

      tested : (b : Bool) (x : List Float) → (b ≡ true → At x (suc i) × Thin (suc i) × (serves (pivot i) ≡ true)) → (b ≡ false → serves (pivot i) ≡ false) → Whole (b, x)
      tested true x h k = h refl
      tested false x h k = k refl

      whole : Whole (whole_row w n F d i)
      unfolding whole_row
      whole =
          ⊎_elim
          (λ (s : ((k : ℕ) → k < f + (i - f) → cell_of v n i k ≡ L i k) × ((k : ℕ) → k < f + (i - f) → finite (L i k) ≡ true)).
          let same : (k : ℕ) → k < i → cell_of v n i k ≡ L i k = λ k l. s.0 k (omega (arith, low_end)) in
          let fine : (k : ℕ) → k < i → finite (L i k) ≡ true = λ k l. s.1 k (omega (arith, low_end)) in
          let e = pivot_same same in
          rw e
          (tested (serves (pivot i)) (set v (n * n + i) (root32 (pivot i))) (λ z. (at_more same fine z, thin_more same fine z, z)) (λ z. z)))
          (λ (s : (b : ℕ) × (f ≤ b) × (b < f + (i - f)) × (finite (L i b) ≡ false) × (finite (cell_of v n i b) ≡ false)).
          let z = pivot_stuck s.0 s.1 (omega (arith, low_end, s.2)) s.3 s.4 in
          rw z.1 z.0)
          (alike (i - f) (omega (arith, low_end)))

  -- all rows: the factor is in, or a pivot has failed
  abbrev pub Factored : Bool × List Float → Type 0
  Factored (true, x) = At x n × Thin n × (R.definite H d n ≡ true)
  Factored (false, x) = R.definite H d n ≡ false

  -- a pivot that failed fails the whole
  persists : (i m : ℕ) → i + m ≤ n → R.definite H d i ≡ false → R.definite H d (i + m) ≡ false
  persists i zero h e = rw add-zero e
  persists i (suc m) h e = rw (add-suc i m, O.definite_more H g n d (i + m) (omega arith), persists i m (omega arith) e)

  row_then : (fair : Fair) (i m : ℕ) (hi : i < n) (t : Thin i) (w : List Float) (r : At w i) → suc i + m ≡ n → R.definite H d i ≡ true
      → ((x : List Float) → At x (suc i) → Thin (suc i) → R.definite H d (suc i) ≡ true → Factored (rows_from x n F d (suc i) m))
      → (o : Bool × List Float) → Whole fair i hi t w r o → Factored (onward o (λ v. rows_from v n F d (suc i) m))
  row_then fair i m hi t w r h e k (true, x) s = k x s.0 s.1 (O.definite_more H g n d i hi ∙ rw (e, s.2))
  row_then fair i m hi t w r h e k (false, x) s =
      subst (λ (z : ℕ). R.definite H d z ≡ false) h (persists (suc i) m (omega arith) (O.definite_more H g n d i hi ∙ rw (e, s)))

  pub rows_same : Fair → (w : List Float) (i m : ℕ) → i + m ≡ n → At w i → Thin i → R.definite H d i ≡ true → Factored (rows_from w n F d i m)
  unfolding rows_from
  rows_same fair w i zero h r t e = let z : i ≡ n = omega arith in (rw z at r, rw z at t, rw z at e)
  rows_same fair w i (suc m) h r t e =
      let hi : i < n = omega arith in
      let next : suc i + m ≡ n = omega arith in
      row_then fair i m hi t w r next e (λ x a b c. rows_same fair x (suc i) m next a b c) (whole_row w n F d i) (whole fair i hi t w r)

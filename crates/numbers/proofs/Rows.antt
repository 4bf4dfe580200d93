-- A row of steps taken as one step: a row of rows is one row; and what a row says whose steps say what tests say. Assumes nothing.
use Rattle.std.proofs.Common.{◌≡◌, ℕ, zero, suc, ◌+◌, ◌*◌, ◌<◌, Bool, true, false, ◌&&◌, sym, refl, ap, ◌∙◌, add-zero, add-suc, suc-mul, zero-mul, arith, Err, Ok}
use mathlib.Core.Path.{fun_ext}
use Rattle.numbers.specs.Notation.{if_then}
use Rattle.numbers.specs.Walks.{Ended, done, stopped, every, step_end, step_on, each, well, and_then, Went}
use Rattle.numbers.specs.declared.Failure.TheVariants.{Numerical}

module _ {S : Type 0} where
  well_turn : (n : ℕ) (x : Went × S) → well (step_end n x) ≡ x
  well_turn n (Ok _, s) = refl
  well_turn n (Err why, s) = refl

  each_then : (f : ℕ → S → Went × S) (n : ℕ) (s : S) → well (each f (suc n) s) ≡ and_then (well (each f n s)) (f n)
  unfolding each and_then
  each_then f n s = go (each f n s)
    where
      go : (e : Ended S) → well (step_on e n f) ≡ and_then (well e) (f n)
      go (done t) = well_turn n (f n t)
      go (stopped k why t) = refl

  then_then : (x : Went × S) (f g : S → Went × S) → and_then (and_then x f) g ≡ and_then x (λ s. and_then (f s) g)
  unfolding and_then
  then_then (Ok _, s) f g = refl
  then_then (Err why, s) f g = refl

  then_well : (x : Went × S) → x ≡ and_then x (λ t. (Ok tt, t))
  unfolding and_then
  then_well (Ok _, s) = refl
  then_well (Err why, s) = refl

  each_split : (f : ℕ → S → Went × S) (n k : ℕ) (s : S) → well (each f (n + k) s) ≡ and_then (well (each f n s)) (λ t. well (each (λ c. f (n + c)) k t))
  unfolding each
  each_split f n zero s = rw (add-zero n) (then_well (well (each f n s)))
  each_split f n (suc k) s =
      ap (λ (i : ℕ). well (each f i s)) (add-suc n k)
      ∙ each_then f (n + k) s
      ∙ ap (λ (x : Went × S). and_then x (f (n + k))) (each_split f n k s)
      ∙ then_then (well (each f n s)) _ _
      ∙ ap (λ (g : S → Went × S). and_then (well (each f n s)) g) (fun_ext (λ t. sym (each_then (λ c. f (n + c)) k t)))

  pub each_nested : (f : ℕ → S → Went × S) (d n : ℕ) (s : S) → well (each (λ r t. well (each (λ c. f (r * d + c)) d t)) n s) ≡ well (each f (n * d) s)
  unfolding each
  each_nested f d zero s = rw (zero-mul d)
  each_nested f d (suc n) s =
      each_then _ n s
      ∙ ap (λ (x : Went × S). and_then x (λ t. well (each (λ c. f (n * d + c)) d t))) (each_nested f d n s)
      ∙ sym (each_split f (n * d) d s)
      ∙ ap (λ (i : ℕ). well (each f i s)) (sym (suc-mul n d))

-- what a step says whose test must hold
abbrev pub told : Bool → Went
told b = if_then b (Ok tt) (Err Numerical)

module _ {S : Type 0} where
  then_told : (J K : S → Type 0) (x : Went × S) (g : S → Went × S) (b t : Bool)
      → x.0 ≡ told b → (b ≡ true → J x.1) → ((s : S) → J s → ((g s).0 ≡ told t) × (t ≡ true → K (g s).1))
      → ((and_then x g).0 ≡ told (b && t)) × ((b && t) ≡ true → K (and_then x g).1)
  unfolding and_then if_then
  then_told J K (Ok _, s) g true t e j h = h s (j refl)
  then_told J K (Ok _, s) g false t e j h = absurd (let z : ◌≡◌ {A = ℕ} 0 1 = cc in omega arith)
  then_told J K (Err why, s) g true t e j h = absurd (let z : ◌≡◌ {A = ℕ} 0 1 = cc in omega arith)
  then_told J K (Err why, s) g false t e j h = (e, λ q. absurd (let z : ◌≡◌ {A = ℕ} 0 1 = cc in omega arith))

  -- I k holds before step k, which then says what test k says, and I (k + 1) after it if that holds
  pub each_told : (I : ℕ → S → Type 0) (t : ℕ → Bool) (f : ℕ → S → Went × S) (n : ℕ) (s : S)
      → ((k : ℕ) → k < n → (y : S) → I k y → ((f k y).0 ≡ told (t k)) × (t k ≡ true → I (suc k) (f k y).1)) → I 0 s
      → ((well (each f n s)).0 ≡ told (every t n)) × (every t n ≡ true → I n (well (each f n s)).1)
  unfolding each every if_then
  each_told I t f zero s h i = (refl, λ _. i)
  each_told I t f (suc n) s h i =
      let a = each_told I t f n s (λ k l. h k (omega arith)) i in
      rw (each_then f n s) (then_told (I n) (I (suc n)) (well (each f n s)) (f n) (every t n) (t n) a.0 a.1 (λ y. h n (omega arith) y))

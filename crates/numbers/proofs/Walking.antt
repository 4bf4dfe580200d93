-- One more term of a sum, one more turn of a row of steps, one more test: the laws by which a loop meets a walk. Assumes nothing.
use Rattle.std.proofs.Common.{◌≡◌, ℕ, zero, suc, ◌+◌, ◌-◌, ◌<◌, ◌≤◌, Bool, true, false, cond, ◌&&◌, ◌||◌, ltb, sym, refl, ap, ◌∙◌, subst, ap₂, ⊎_elim, le_of_suc-le-suc, le-add_right, not-suc-le-zero, add-zero, add-suc, suc-add, eq-or-lt_of_le, zero-add, add-one, arith, ltb-false, ltb-true, Err, Ok}
use mathlib.Core.Bool.{or-true, and-false}
use native.Mathlib.Decide.{le_ind}
use lib.Ieee.{Float, Format, add}
use Rattle.numbers.specs.declared.Failure.{Failure}
use Rattle.numbers.proofs.Tests.{and_first, and_second}
use Rattle.numbers.specs.Walks.{some, every, count, sum_of, Ended, done, stopped, step_end, step_on, each, well, and_then, Went, made}

pub sum_more : (k : Format) (f : ℕ → Float) (n : ℕ) (s : Float) → s ≡ sum_of k f n → add k s (f n) ≡ sum_of k f (n + 1)
unfolding sum_of
sum_more k f n s e = rw (add-one n, e)

pub sum_ext : (k : Format) (f g : ℕ → Float) (n : ℕ) → ((i : ℕ) → i < n → f i ≡ g i) → sum_of k f n ≡ sum_of k g n
unfolding sum_of
sum_ext k f g zero h = refl
sum_ext k f g (suc n) h = ap₂ (λ (a b : Float). add k a b) (sum_ext k f g n (λ i l. h i (omega arith))) (h n (omega arith))

-- ---- `some`
module _ (t : ℕ → Bool) where
  pub some_none : some t 0 ≡ false
  unfolding some
  some_none = refl

  pub some_step : (n : ℕ) → some t (n + 1) ≡ (some t n || t n)
  unfolding some
  some_step n = rw add-one

  pub some_more : (n : ℕ) → some t n ≡ false → t n ≡ false → some t (n + 1) ≡ false
  some_more n e h = some_step n ∙ (rw e h)

  some_there : (n : ℕ) → t n ≡ true → some t (suc n) ≡ true
  unfolding some
  some_there n e = rw e (or-true (some t n))

  some_kept : (n : ℕ) → some t n ≡ true → some t (suc n) ≡ true
  unfolding some
  some_kept n e = rw e

  pub some_hit : (i n : ℕ) → i < n → t i ≡ true → some t n ≡ true
  some_hit i n l e = le_ind (λ (m : ℕ). some t m ≡ true) (some_there i e) (λ m _ h. some_kept m h) n l

pub some_ext : (t u : ℕ → Bool) (n : ℕ) → ((k : ℕ) → k < n → t k ≡ u k) → some t n ≡ some u n
unfolding some
some_ext t u zero h = refl
some_ext t u (suc n) h = ap₂ (λ (a b : Bool). a || b) (some_ext t u n (λ k l. h k (omega arith))) (h n (omega arith))

pub some_never : (t : ℕ → Bool) (n : ℕ) → ((k : ℕ) → k < n → t k ≡ false) → some t n ≡ false
unfolding some
some_never t zero h = refl
some_never t (suc n) h = rw (some_never t n (λ k l. h k (omega arith)), h n (omega arith))

-- ---- `every`
pub every_ext : (t u : ℕ → Bool) (n : ℕ) → ((k : ℕ) → k < n → t k ≡ u k) → every t n ≡ every u n
unfolding every
every_ext t u zero h = refl
every_ext t u (suc n) h = ap₂ (λ (a b : Bool). a && b) (every_ext t u n (λ k l. h k (omega arith))) (h n (omega arith))

module _ (t : ℕ → Bool) where
  every_there : (n : ℕ) → t n ≡ false → every t (suc n) ≡ false
  unfolding every
  every_there n e = rw e (and-false (every t n))

  every_kept : (n : ℕ) → every t n ≡ false → every t (suc n) ≡ false
  unfolding every
  every_kept n e = rw e

  pub every_miss : (i n : ℕ) → i < n → t i ≡ false → every t n ≡ false
  every_miss i n l e = le_ind (λ (m : ℕ). every t m ≡ false) (every_there i e) (λ m _ h. every_kept m h) n l

pub every_at : (t : ℕ → Bool) (n k : ℕ) → every t n ≡ true → k < n → t k ≡ true
unfolding every
every_at t zero k e l = absurd (not-suc-le-zero l)
every_at t (suc n) k e l = ⊎_elim (λ (i : k ≡ n). rw i (and_second (every t n) (t n) e)) (λ (i : k < n). every_at t n k (and_first (every t n) (t n) e) i) (eq-or-lt_of_le (le_of_suc-le-suc l))

pub every_all : (t : ℕ → Bool) (n : ℕ) → ((k : ℕ) → k < n → t k ≡ true) → every t n ≡ true
unfolding every
every_all t zero h = refl
every_all t (suc n) h = rw (every_all t n (λ k l. h k (omega arith))) (h n (omega arith))

pub every_same : (t u : ℕ → Bool) (n : ℕ) → (((k : ℕ) → k < n → t k ≡ true) → (k : ℕ) → k < n → u k ≡ true) → (((k : ℕ) → k < n → u k ≡ true) → (k : ℕ) → k < n → t k ≡ true) → every t n ≡ every u n
every_same t u n f g = go (every t n) (every u n) refl refl
  where
    go : (a b : Bool) → every t n ≡ a → every u n ≡ b → a ≡ b
    go true b p q = sym (every_all u n (f (λ k. every_at t n k p))) ∙ q
    go false true p q = sym p ∙ every_all t n (g (λ k. every_at u n k q))
    go false false p q = refl

-- ---- `count`
pub count_none : (t : ℕ → Bool) → 0 ≡ count t 0
unfolding count
count_none t = refl

pub count_yes : (t : ℕ → Bool) (n k : ℕ) → k ≡ count t n → t n ≡ true → k + 1 ≡ count t (n + 1)
unfolding count
count_yes t n k e h = rw (add-one n, add-one k, h, e)

pub count_no : (t : ℕ → Bool) (n k : ℕ) → k ≡ count t n → t n ≡ false → k ≡ count t (n + 1)
unfolding count
count_no t n k e h = rw (add-one n, h) e

pub count_ext : (t u : ℕ → Bool) (n : ℕ) → ((k : ℕ) → k < n → t k ≡ u k) → count t n ≡ count u n
unfolding count
count_ext t u zero h = refl
count_ext t u (suc n) h = rw (count_ext t u n (λ k l. h k (omega arith)), h n (omega arith))

count_step_le : (t : ℕ → Bool) (n : ℕ) → count t n ≤ count t (suc n)
unfolding count
count_step_le t n = go (t n)
  where
    go : (b : Bool) → count t n ≤ cond b (suc (count t n)) (count t n)
    go true = omega arith
    go false = omega arith

-- an element that is counted has a number below the count
pub count_below : (t : ℕ → Bool) (x n : ℕ) → x < n → t x ≡ true → count t x < count t n
unfolding count
count_below t x n l e = le_ind (λ (m : ℕ). count t x < count t m) start (λ m _ h. let s : count t m ≤ count t (suc m) = count_step_le t m in omega arith) n l
  where
    start : count t x < count t (suc x)
    start = rw e (omega arith)

pub count_at_most : (t : ℕ → Bool) (n : ℕ) → count t n ≤ n
unfolding count
count_at_most t zero = omega arith
count_at_most t (suc n) = go (t n) (count_at_most t n)
  where
    go : (b : Bool) → count t n ≤ n → cond b (suc (count t n)) (count t n) ≤ suc n
    go true h = omega arith
    go false h = omega arith

-- a test that fails from a number on adds nothing
pub count_above : (t : ℕ → Bool) (n k : ℕ) → ((p : ℕ) → n ≤ p → t p ≡ false) → count t (n + k) ≡ count t n
unfolding count
count_above t n zero h = rw add-zero
count_above t n (suc k) h = rw (add-suc, h (n + k) (le-add_right n k)) (count_above t n k h)

-- ---- `each`
module _ {S : Type 0} (f : ℕ → S → Went × S) (s₀ : S) where
  pub each_none : each f 0 s₀ ≡ done s₀
  unfolding each
  each_none = refl

  pub each_more : (k : ℕ) {s t : S} → each f k s₀ ≡ done s → f k s ≡ (Ok tt, t) → each f (k + 1) s₀ ≡ done t
  unfolding each
  each_more k e h = rw (add-one k, e, h)

  after : (k : ℕ) {why : Failure} {s t : S} → each f k s₀ ≡ done s → f k s ≡ (Err why, t) → (d : ℕ) → each f (d + suc k) s₀ ≡ stopped k why t
  unfolding each
  after k e h zero = rw (zero-add (suc k), e, h)
  after k e h (suc d) = rw (suc-add d (suc k), after k e h d)

  pub each_stop : (k : ℕ) {why : Failure} {s t : S} (n : ℕ) → each f k s₀ ≡ done s → f k s ≡ (Err why, t) → k < n → each f n s₀ ≡ stopped k why t
  each_stop k n e h l = let q : n ≡ (n - suc k) + suc k = omega arith in ap (λ m. each f m s₀) q ∙ after k e h (n - suc k)

  -- at a return: all turns are done; or turn k has not gone well
  pub each_end : (k : ℕ) {s : S} (n : ℕ) → each f k s₀ ≡ done s → k ≡ n → each f n s₀ ≡ done s
  each_end k n e q = ap (λ m. each f m s₀) (sym q) ∙ e

  pub each_all : (k : ℕ) {s : S} (n : ℕ) → each f k s₀ ≡ done s → k ≡ n → (Ok tt, s) ≡ well (each f n s₀)
  each_all k n e q = sym (ap well (each_end k n e q))

  pub each_early : (k : ℕ) {why : Failure} {s t : S} (n : ℕ) → each f k s₀ ≡ done s → f k s ≡ (Err why, t) → k < n → (Err why, t) ≡ well (each f n s₀)
  each_early k n e h l = sym (ap well (each_stop k n e h l))

pub each_ext : {S : Type 0} (f g : ℕ → S → Went × S) (n : ℕ) (s : S) → ((k : ℕ) → k < n → (s : S) → f k s ≡ g k s) → each f n s ≡ each g n s
unfolding each
each_ext f g zero s h = refl
each_ext {S} f g (suc n) s h = rw (each_ext f g n s (λ k l. h k (omega arith))) (go (each g n s))
  where
    go : (e : Ended S) → step_on e n f ≡ step_on e n g
    go (done s) = ap (step_end n) (h n (omega arith) s)
    go (stopped k why s) = refl

-- every step of a row that went well went well, from somewhere
pub each_went : {S : Type 0} (f : ℕ → S → Went × S) (n : ℕ) (s t : S) → each f n s ≡ done t → (k : ℕ) → k < n → (u : S) × ((f k u).0 ≡ Ok tt)
unfolding each
each_went {S} f zero s t e k h = absurd (omega arith)
each_went {S} f (suc n) s t e k h = go (each f n s) (λ v q l. each_went f n s v q k l) refl e
  where
    last : (u : S) (x : Went × S) → f n u ≡ x → step_end n x ≡ done t → (f n u).0 ≡ Ok tt
    last u (Ok _, v) q r = rw q
    last u (Err why, v) q r = let z : ◌≡◌ {A = ℕ} 0 1 = cc in absurd (omega arith)

    go : (x : Ended S) → ((v : S) → each f n s ≡ done v → k < n → (u : S) × ((f k u).0 ≡ Ok tt)) → each f n s ≡ x → step_on x n f ≡ done t
        → (u : S) × ((f k u).0 ≡ Ok tt)
    go (stopped j why v) ih q r = let z : ◌≡◌ {A = ℕ} 0 1 = cc in absurd (omega arith)
    go (done v) ih q r = pick (ltb k n) refl
      where
        pick : (b : Bool) → ltb k n ≡ b → (u : S) × ((f k u).0 ≡ Ok tt)
        pick true l = ih v q (ltb-true k n l)
        pick false l = let o = ltb-false k n l in let z : n ≡ k = omega arith in (v, subst (λ (i : ℕ). (f i v).0 ≡ Ok tt) z (last v (f n v) refl r))

-- a row that stopped did so at one of its steps
pub each_stopped : {S : Type 0} (f : ℕ → S → Went × S) (n : ℕ) (s : S) (k : ℕ) (why : Failure) (t : S) → each f n s ≡ stopped k why t → k < n
unfolding each
each_stopped {S} f zero s k why t e = let z : ◌≡◌ {A = ℕ} 0 1 = cc in absurd (omega arith)
each_stopped {S} f (suc n) s k why t e = go (each f n s) (λ h. each_stopped f n s k why t h) refl e
  where
    last : (x : Went × S) → step_end n x ≡ stopped k why t → k < suc n
    last (Ok _, u) q = let z : ◌≡◌ {A = ℕ} 0 1 = cc in absurd (omega arith)
    last (Err w, u) q = let d : n ≡ k = cc in omega arith

    go : (x : Ended S) → (each f n s ≡ stopped k why t → k < n) → each f n s ≡ x → step_on x n f ≡ stopped k why t → k < suc n
    go (done u) rec h q = last (f n u) q
    go (stopped j w u) rec h q = let l = rec (h ∙ q) in omega arith

-- ---- a step, and the next
module _ {S : Type 0} (x : Went × S) (k : S → Went × S) where
  pub then_failed : {why : Failure} {s : S} → x ≡ (Err why, s) → (Err why, s) ≡ and_then x k
  unfolding and_then
  then_failed e = rw e

  pub then_went : {s : S} {y : Went × S} → x ≡ (Ok tt, s) → y ≡ k s → y ≡ and_then x k
  unfolding and_then
  then_went e q = rw e q

-- ---- what a step leaves where it went well
pub made_ok : {S : Type 0} (x : Went × S) {s : S} → made x ≡ Ok s → x ≡ (Ok tt, s)
made_ok {S} (Ok _, t) {s} h = let e : t ≡ s = cc in ap (λ (s : S). (Ok tt, s)) e
made_ok (Err why, t) h = absurd (let z : ◌≡◌ {A = ℕ} 0 1 = cc in omega arith)

pub made_err : {S : Type 0} (x : Went × S) {why : Failure} → made x ≡ Err why → x ≡ (Err why, x.1)
made_err (Ok _, t) h = absurd (let z : ◌≡◌ {A = ℕ} 0 1 = cc in omega arith)
made_err (Err v, t) {why} h = let e : v ≡ why = cc in ap (λ (u : Failure). (Err u, t)) e

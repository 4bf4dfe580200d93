-- The substitutions by the profile are the rule's, over a work that holds the rule's factor: where the step is finite it is the rule's, to the bit;
-- else the rule's is not finite either. Assumes nothing.
use mathlib.Core.Path.{◌≡◌, refl, sym, ap, ◌∙◌}
use mathlib.Core.Logic.{◌⊎◌, inl, inr, ⊎_elim}
use mathlib.Core.Bool.{Bool, true, false, cond, true≢false}
use mathlib.Core.List.{List}
use Prim.Native.Nat.{ℕ, zero, suc, ◌+◌, ◌-◌, ◌*◌, ◌<◌, ◌≤◌}
use native.Mathlib.Nat.{eq-or-lt_of_le}
use native.Mathlib.Omega.{arith}
use borrow.Author.Tests.{ltb-true, not-true}
use lib.Arith.{lt_of_le-ne}
use lib.Dec.{ltb}
use lib.ListN.{length, get_or, set, length-set}
use lib.Seq.{get_or-set_same, get_or-set_other}
use lib.Ieee.{Float, nan, binary32, neg, eq, ne}
use lib.Ieee.Fits.{sub-fits, div-fits, neg-fits}
use lib.Ieee.Scale.{finite}
use Rattle.numbers.specs.Notation.{◌⊟◌, ◌⊠◌, ◌⧄◌, num}
use Rattle.numbers.specs.Walks.{every}
use Rattle.numbers.proofs.Walking.{every_ext, every_miss}
use Rattle.solve.specs.Rule as R
use Rattle.solve.specs.Rule.{less}
use Rattle.profile.specs.Layout.{need}
use Rattle.profile.specs.Starts.{first_of, start_at}
use Rattle.solve.specs.forms.Profile.{cell_of, root_of, step_of, ahead_from, next_ahead, forward_from, left_out, next_below, less_below, back_from, backward_from}
use Rattle.numbers.proofs.Tests.{true_or_false, and_first, and_second}
use Rattle.profile.proofs.Index.{before, same_or_not}
use Rattle.profile.proofs.Zeros.{Fits, Zero, zero_less, plus_times, unequal_zero, stuck_left, stuck_by}
use Rattle.solve.proofs.Sums.{less_ext, less_from, less_start, start_low}
use Rattle.solve.proofs.Lower as O
use Rattle.solve.proofs.Rows as W

-- ---- what the stores leave alone

pub forward_length : (w : List Float) (n : ℕ) (F : List ℕ) (m : ℕ) → length (forward_from w n F m) ≡ length w
unfolding forward_from
forward_length w n F zero = refl
forward_length w n F (suc i) = length-set (forward_from w n F i) (n * n + n + n + i) (next_ahead (forward_from w n F i) n F i) ∙ forward_length w n F i

forward_keeps : (w : List Float) (n : ℕ) (F : List ℕ) (m q : ℕ) → q < n * n + n + n → get_or (forward_from w n F m) q nan ≡ get_or w q nan
unfolding forward_from
forward_keeps w n F zero q h = refl
forward_keeps w n F (suc i) q h =
    get_or-set_other (forward_from w n F i) (n * n + n + n + i) q (next_ahead (forward_from w n F i) n F i) nan (λ e. omega arith) ∙ forward_keeps w n F i q h

-- the places of x(m), x(m + 1), .. too
back_keeps : (w : List Float) (n : ℕ) (F : List ℕ) (m k : ℕ) → m ≤ k → step_of (backward_from w n F m) n k ≡ step_of w n k
unfolding backward_from
back_keeps w n F zero k h = refl
back_keeps w n F (suc i) k h =
    back_keeps (set w (n * n + n + n + i) (back_from w n F i)) n F i k (omega arith)
    ∙ get_or-set_other w (n * n + n + n + i) (n * n + n + n + k) (back_from w n F i) nan (λ e. omega arith)

pub rule_keeps : (A : ℕ → ℕ → Float) (n : ℕ) (y : ℕ → Float) (m k : ℕ) → m ≤ k → R.backward A n y m k ≡ y k
unfolding R.backward
rule_keeps A n y zero k h = refl
rule_keeps A n y (suc i) k h = rule_keeps A n (R.put y i _) i k (omega arith) ∙ O.put_other y i _ k (λ e. omega arith)

-- ---- what is not finite stays so

-- a y(b) that is not finite leaves x(b) so
rule_stuck : (A : ℕ → ℕ → Float) (n : ℕ) (y : ℕ → Float) (m b : ℕ) → b < m → finite (y b) ≡ false → finite (R.backward A n y m b) ≡ false
unfolding R.backward
rule_stuck A n y zero b h s = absurd (omega arith)
rule_stuck A n y (suc i) b h s =
    ⊎_elim
    (λ (e : suc b ≡ suc i).
    let z : b ≡ i = omega arith in
    rw z (ap finite (rule_keeps A n (R.put y i _) i i (omega arith) ∙ O.put_same y i _) ∙ stuck_by _ (A i i) (less_from (y i) _ _ _ (rw z at s))))
    (λ (e : suc b < suc i). rule_stuck A n (R.put y i _) i b (omega arith) (ap finite (O.put_other y i _ b (λ z. omega arith)) ∙ s))
    (eq-or-lt_of_le h)

below_stuck : (w : List Float) (n : ℕ) (F : List ℕ) (i : ℕ) (v : Float) (m : ℕ) → finite v ≡ false → finite (less_below w n F i v m) ≡ false
unfolding less_below next_below
below_stuck w n F i v zero e = e
below_stuck w n F i v (suc m) e =
    let s = less_below w n F i v m in
    let x = cell_of w n (i + 1 + m) i ⊠ step_of w n (i + 1 + m) in
    let h : finite s ≡ false = below_stuck w n F i v m e in
    go (left_out F i s (i + 1 + m)) s (s ⊟ x) h (stuck_left s x h)
  where
    go : (b : Bool) (s t : Float) → finite s ≡ false → finite t ≡ false → finite (cond b s t) ≡ false
    go true s t p q = p
    go false s t p q = q

store_stuck : (z : List Float) (n : ℕ) (F : List ℕ) (m b : ℕ) → b < m → m ≤ n → need n ≤ length z → finite (step_of z n b) ≡ false → finite (step_of (backward_from z n F m) n b) ≡ false
unfolding backward_from back_from
store_stuck z n F zero b h l long s = absurd (omega arith)
store_stuck z n F (suc i) b h l long s =
    let t = back_from z n F i in
    let u = set z (n * n + n + n + i) t in
    ⊎_elim
    (λ (e : suc b ≡ suc i).
    let f : b ≡ i = omega arith in
    rw f
    (ap finite (back_keeps u n F i i (omega arith) ∙ get_or-set_same z (n * n + n + n + i) t nan (omega arith))
    ∙ stuck_by (less_below z n F i (step_of z n i) (n - (i + 1))) (root_of z n i) (below_stuck z n F i (step_of z n i) (n - (i + 1)) (rw f at s))))
    (λ (e : suc b < suc i).
    store_stuck u n F i b (omega arith) (omega arith) (omega (arith, length-set z (n * n + n + n + i) t))
    (ap finite (get_or-set_other z (n * n + n + n + i) (n * n + n + n + b) t nan (λ g. omega arith)) ∙ s))
    (eq-or-lt_of_le h)

-- what is left out changes nothing
left_out_lem : (F : List ℕ) (i : ℕ) (v x : Float) (k : ℕ) → Fits v → (i < first_of F k → Zero x) → left_out F i v k ≡ true → v ⊟ x ≡ v
unfolding left_out ne
left_out_lem F i v x k f z h =
    let b = ltb i (first_of F k) in
    zero_less v x f (unequal_zero v (not-true (eq v (num 0)) (and_second b (ne v (num 0)) h))) (z (ltb-true i (first_of F k) (and_first b (ne v (num 0)) h)))

-- ---- the work x holds the factor
module _ (n : ℕ) (H : ℕ → ℕ → Float) (g : ℕ → Float) (d : Float) (F : List ℕ) (fair : W.Fair n H g d F) (x : List Float) (r : W.At n H g d F x n) (t : W.Thin n H g d F n) where
  abbrev L : ℕ → ℕ → Float
  L = W.L n H g d F

  abbrev Y : ℕ → Float
  Y = O.Y H g n d

  abbrev o : ℕ
  o = n * n + n + n

  abbrev u : ℕ → List Float
  u m = forward_from x n F m

  next_same : (i : ℕ) → i < n → ((k : ℕ) → k < i → step_of (u i) n k ≡ Y k) → ((k : ℕ) → k < i → finite (Y k) ≡ true) → next_ahead (u i) n F i ≡ Y i
  unfolding ahead_from
  next_same i h same fine =
      let f = first_of F i in
      let v = neg (g i) in
      let s = start_at v f 0 in
      let low : s ≤ i = start_low v i f 0 (fair.low i h) (omega arith) in
      rw (forward_keeps x n F i (n * n + n + i) (omega arith), r.gradient i h, forward_keeps x n F i (n * n + i) (omega arith), r.roots i h)
      (ap (λ (z : Float). z ⧄ L i i)
      (less_ext v (λ k. get_or (u i) (i * n + s + k) nan) (λ k. get_or (u i) (o + s + k) nan) (λ k. L i (s + k)) (λ k. Y (s + k)) (i - s)
      (λ k l. let e : i * n + s + k ≡ i * n + (s + k) = omega arith in rw e (forward_keeps x n F i (i * n + (s + k)) (omega (arith, before n i n h)) ∙ r.cells i (s + k) h (omega arith)))
      (λ k l. let e : o + s + k ≡ o + (s + k) = omega arith in rw e (same (s + k) (omega arith)))
      ∙ sym
      (less_start v (L i) Y f 0 i (neg-fits binary32 (g i) (fair.grad i h)) (λ k l. t.left i k h l) (λ k l. t.done i k h l) (λ k l. absurd (omega arith)) fine (fair.low i h) (omega arith)))
      ∙ sym (O.Y_is H g n d i h))

  -- after m numbers: all are the rule's, and finite; or one is not finite, here and there
  abbrev Level : ℕ → Type 0
  Level m =
      (((k : ℕ) → k < m → step_of (u m) n k ≡ Y k) × ((k : ℕ) → k < m → finite (Y k) ≡ true))
      ⊎ ((b : ℕ) × (b < m) × (finite (Y b) ≡ false) × (finite (step_of (u m) n b) ≡ false))

  level : (m : ℕ) → m ≤ n → Level m
  unfolding forward_from
  level zero h = inl (λ k l. absurd (omega arith), λ k l. absurd (omega arith))
  level (suc i) h =
      let p = next_ahead (u i) n F i in
      let other : (b : ℕ) → b < i → step_of (set (u i) (o + i) p) n b ≡ step_of (u i) n b = λ b l. get_or-set_other (u i) (o + i) (o + b) p nan (λ e. omega arith) in
      let own : step_of (set (u i) (o + i) p) n i ≡ p = get_or-set_same (u i) (o + i) p nan (omega (arith, forward_length x n F i, r.long)) in
      ⊎_elim
      (λ (s : ((k : ℕ) → k < i → step_of (u i) n k ≡ Y k) × ((k : ℕ) → k < i → finite (Y k) ≡ true)).
      let e : p ≡ Y i = next_same i h s.0 s.1 in
      ⊎_elim
      (λ (y : finite (Y i) ≡ true).
      inl (
        λ k l. ⊎_elim (λ (q : suc k ≡ suc i). let z : k ≡ i = omega arith in rw z (own ∙ e)) (λ (q : suc k < suc i). other k (omega arith) ∙ s.0 k (omega arith)) (eq-or-lt_of_le l),
        λ k l. ⊎_elim (λ (q : suc k ≡ suc i). let z : k ≡ i = omega arith in rw z y) (λ (q : suc k < suc i). s.1 k (omega arith)) (eq-or-lt_of_le l),
      ))
      (λ (y : finite (Y i) ≡ false). inr (i, omega arith, y, ap finite (own ∙ e) ∙ y))
      (true_or_false (finite (Y i))))
      (λ (s : (b : ℕ) × (b < i) × (finite (Y b) ≡ false) × (finite (step_of (u i) n b) ≡ false)).
      inr (s.0, omega (arith, s.1), s.2, ap finite (other s.0 s.1) ∙ s.3))
      (level i (omega arith))

  -- the work z in the back substitution, and the rule's numbers y: x(m), .., x(n - 1) are in
  record Down (z : List Float) (y : ℕ → Float) (m : ℕ) : Type 0 where
    long : need n ≤ length z
    cells : (a b : ℕ) → a < n → b < a → cell_of z n a b ≡ L a b
    roots : (a : ℕ) → a < n → root_of z n a ≡ L a a
    steps : (k : ℕ) → k < n → step_of z n k ≡ y k
    fit : (k : ℕ) → k < n → Fits (y k)
    done : (k : ℕ) → m ≤ k → k < n → finite (y k) ≡ true

  module _ (z : List Float) (y : ℕ → Float) (i : ℕ) (hi : i < n) (s : Down z y (suc i)) where
    abbrev column : ℕ → Float
    column k = L (i + 1 + k) i

    abbrev rest : ℕ → Float
    rest k = y (i + 1 + k)

    below_same : (m : ℕ) → m ≤ n - (i + 1) → (less_below z n F i (step_of z n i) m ≡ less (y i) column rest m) × Fits (less (y i) column rest m)
    unfolding less less_below next_below
    below_same zero h = (s.steps i hi, s.fit i hi)
    below_same (suc m) h =
        let e = below_same m (omega arith) in
        let v = less (y i) column rest m in
        let k = i + 1 + m in
        let hk : k < n = omega arith in
        let x = L k i ⊠ y k in (
          rw (e.0, s.cells k i hk (omega arith), s.steps k hk)
              (⊎_elim
              (λ (a : left_out F i v k ≡ true). rw a (sym (left_out_lem F i v x k e.1 (λ l. rw (t.left k i hk l) (plus_times (y k) (s.done k (omega arith) hk))) a)))
              (λ (a : left_out F i v k ≡ false). rw a)
              (true_or_false (left_out F i v k))),
          sub-fits binary32 v x,
        )

    -- x(i)
    abbrev value : Float
    value = less (y i) column rest (n - (i + 1)) ⧄ L i i

    back_same : back_from z n F i ≡ value
    unfolding back_from
    back_same = rw (s.roots i hi, (below_same (n - (i + 1)) (omega arith)).0)

    down_more : finite value ≡ true → Down (set z (o + i) value) (R.put y i value) i
    down_more f =
        let keeps : (q : ℕ) → q < o → get_or (set z (o + i) value) q nan ≡ get_or z q nan = λ q l. get_or-set_other z (o + i) q value nan (λ e. omega arith) in
        record {
          long = omega (arith, length-set z (o + i) value, s.long);
          cells = λ a b ha hb. keeps (a * n + b) (omega (arith, before n a n ha)) ∙ s.cells a b ha hb;
          roots = λ a ha. keeps (n * n + a) (omega arith) ∙ s.roots a ha;
          steps = λ k hk.
              ⊎_elim
              (λ (e : k ≡ i). rw e (get_or-set_same z (o + i) value nan (omega (arith, s.long)) ∙ sym (O.put_same y i value)))
              (λ (e : k ≡ i → ⊥). get_or-set_other z (o + i) (o + k) value nan (λ q. e (omega arith)) ∙ s.steps k hk ∙ sym (O.put_other y i value k e))
              (same_or_not k i);
          fit = λ k hk.
              ⊎_elim
              (λ (e : k ≡ i). rw (e, O.put_same y i value) (div-fits binary32 (less (y i) column rest (n - (i + 1))) (L i i)))
              (λ (e : k ≡ i → ⊥). rw (O.put_other y i value k e) (s.fit k hk))
              (same_or_not k i);
          done = λ k hm hk.
              ⊎_elim
              (λ (e : k ≡ i). rw (e, O.put_same y i value) f)
              (λ (e : k ≡ i → ⊥). rw (O.put_other y i value k e) (s.done k (lt_of_le-ne hm (λ q. e (sym q))) hk))
              (same_or_not k i);
        }

  -- at the end: all are the rule's; or one is not finite, here and there
  abbrev Ended : List Float → (ℕ → Float) → Type 0
  Ended v y = ((k : ℕ) → k < n → step_of v n k ≡ y k) ⊎ ((b : ℕ) × (b < n) × (finite (y b) ≡ false) × (finite (step_of v n b) ≡ false))

  down : (z : List Float) (y : ℕ → Float) (m : ℕ) → m ≤ n → Down z y m → Ended (backward_from z n F m) (R.backward L n y m)
  unfolding backward_from R.backward
  down z y zero h s = inl s.steps
  down z y (suc i) h s =
      let v = value z y i h s in
      rw (back_same z y i h s)
      (⊎_elim
      (λ (f : finite v ≡ true). down (set z (o + i) v) (R.put y i v) i (omega arith) (down_more z y i h s f))
      (λ (f : finite v ≡ false).
      inr (
        i,
        h,
        ap finite (rule_keeps L n (R.put y i v) i i (omega arith) ∙ O.put_same y i v) ∙ f,
        ap finite (back_keeps (set z (o + i) v) n F i i (omega arith) ∙ get_or-set_same z (o + i) v nan (omega (arith, s.long))) ∙ f,
      ))
      (true_or_false (finite v)))

  -- ---- the step

  abbrev last : List Float
  last = backward_from (u n) n F n

  ended : Ended last (R.step H g n d)
  unfolding R.step
  ended =
      ⊎_elim
      (λ (s : ((k : ℕ) → k < n → step_of (u n) n k ≡ Y k) × ((k : ℕ) → k < n → finite (Y k) ≡ true)).
      down (u n) Y n (omega arith)
      record {
        long = omega (arith, forward_length x n F n, r.long);
        cells = λ a b ha hb. forward_keeps x n F n (a * n + b) (omega (arith, before n a n ha)) ∙ r.cells a b ha hb;
        roots = λ a ha. forward_keeps x n F n (n * n + a) (omega arith) ∙ r.roots a ha;
        steps = s.0;
        fit = λ k hk. rw (O.Y_is H g n d k hk) (div-fits binary32 (less (neg (g k)) (L k) Y k) (L k k));
        done = λ k hm hk. absurd (omega arith);
      })
      (λ (s : (b : ℕ) × (b < n) × (finite (Y b) ≡ false) × (finite (step_of (u n) n b) ≡ false)).
      inr (s.0, s.1, rule_stuck L n Y n s.0 s.1 s.2, store_stuck (u n) n F n s.0 s.1 (omega arith) (omega (arith, forward_length x n F n, r.long)) s.3))
      (level n (omega arith))

  abbrev fine : (ℕ → Float) → Bool
  fine y = every (λ i. finite (y i)) n

  pub step_same : (fine (step_of last n) ≡ fine (R.step H g n d)) × (fine (R.step H g n d) ≡ true → (k : ℕ) → k < n → step_of last n k ≡ R.step H g n d k)
  step_same =
      let y = R.step H g n d in
      ⊎_elim
      (λ (s : (k : ℕ) → k < n → step_of last n k ≡ y k). (every_ext (λ i. finite (step_of last n i)) (λ i. finite (y i)) n (λ k h. ap finite (s k h)), λ _. s))
      (λ (s : (b : ℕ) × (b < n) × (finite (y b) ≡ false) × (finite (step_of last n b) ≡ false)).
      let a = every_miss (λ i. finite (y i)) s.0 n s.1 s.2 in
      (every_miss (λ i. finite (step_of last n i)) s.0 n s.1 s.3 ∙ sym a, λ e. absurd (true≢false (sym e ∙ a))))
      ended

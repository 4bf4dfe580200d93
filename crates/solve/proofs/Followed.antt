-- The solve by the profile follows the rule, and leaves all but L's places and the step's as they were: `followed`. Assumes nothing.
use mathlib.Core.Path.{◌≡◌, refl, sym, ap, ◌∙◌, subst}
use mathlib.Core.Bool.{Bool, true, false, true≢false}
use mathlib.Core.List.{List}
use Prim.Native.Nat.{ℕ, zero, suc, ◌+◌, ◌-◌, ◌*◌, ◌<◌, ◌≤◌}
use native.Mathlib.Omega.{arith}
use lib.ListN.{length, get_or, set}
use lib.Ieee.{Float, nan}
use Rattle.roots.specs.Roots.{root32}
use Rattle.solve.specs.Rule as R
use Rattle.profile.specs.Layout.{need, hessian_of}
use Rattle.solve.specs.Work.{gradient_of, kept, place_of, after, work_after, step_in}
use Rattle.profile.specs.Starts.{first_of}
use Rattle.solve.specs.forms.Profile.{step_of, next_entry, row_from, pivot_from, onward, whole_row, rows_from, next_ahead, forward_from, back_from, backward_from, substitute_from, solved_from}
use Rattle.profile.proofs.Index.{before}
use Rattle.profile.proofs.Zeros.{Fits}
use Rattle.solve.proofs.Places.{at_cell, system_after, gradient_after, length_after, read_after, read_kept, Spares, spares_none, spares_then, spares_set, free_cell, free_root, free_step}
use Rattle.solve.proofs.Firsts.{Starts, Within}
use Rattle.solve.proofs.Rows.{Fair, At, Factored, rows_same}
use Rattle.solve.proofs.Steps.{step_same}

-- an answer, with the work that is left beside it
abbrev answer : Bool × List Float → Bool
answer (b, w) = b

abbrev work : Bool × List Float → List Float
work (b, w) = w

-- ---- what it leaves alone

module _ (n : ℕ) (F : List ℕ) (low : Within n F) where
  row_spares : (w : List Float) (i m : ℕ) → i < n → first_of F i + m ≤ i → Spares n w (row_from w n F i m)
  unfolding row_from
  row_spares w i zero hi h = spares_none n w
  row_spares w i (suc m) hi h =
      let u = row_from w n F i m in
      let j = first_of F i + m in
      spares_set n w u (i * n + j) (next_entry u n F i j (first_of F i)) (free_cell n i j (omega arith) hi) (row_spares w i m hi (omega arith))

  whole_spares : (w : List Float) (d : Float) (i : ℕ) → i < n → Spares n w (work (whole_row w n F d i))
  unfolding whole_row
  whole_spares w d i hi =
      let v = row_from w n F i (i - first_of F i) in
      let p = pivot_from v n d i (first_of F i) in
      spares_set n w v (n * n + i) (root32 p) (free_root n i hi) (row_spares w i (i - first_of F i) hi (omega (arith, low i hi)))

  then_spares : (w : List Float) (o : Bool × List Float) (f : List Float → Bool × List Float) → Spares n w (work o) → ((v : List Float) → Spares n v (work (f v))) → Spares n w (work (onward o f))
  then_spares w (true, v) f s h = spares_then n w v (work (f v)) s (h v)
  then_spares w (false, v) f s h = s

  rows_spares : (w : List Float) (d : Float) (i m : ℕ) → i + m ≤ n → Spares n w (work (rows_from w n F d i m))
  unfolding rows_from
  rows_spares w d i zero h = spares_none n w
  rows_spares w d i (suc m) h =
      then_spares w (whole_row w n F d i) (λ v. rows_from v n F d (suc i) m) (whole_spares w d i (omega arith)) (λ v. rows_spares v d (suc i) m (omega arith))

  forward_spares : (w : List Float) (m : ℕ) → m ≤ n → Spares n w (forward_from w n F m)
  unfolding forward_from
  forward_spares w zero h = spares_none n w
  forward_spares w (suc i) h =
      spares_set n w (forward_from w n F i) (n * n + n + n + i) (next_ahead (forward_from w n F i) n F i) (free_step n i h) (forward_spares w i (omega arith))

  back_spares : (w : List Float) (m : ℕ) → m ≤ n → Spares n w (backward_from w n F m)
  unfolding backward_from
  back_spares w zero h = spares_none n w
  back_spares w (suc i) h =
      let v = set w (n * n + n + n + i) (back_from w n F i) in
      spares_then n w v (backward_from v n F i) (spares_set n w w (n * n + n + n + i) (back_from w n F i) (free_step n i h) (spares_none n w)) (back_spares v i (omega arith))

  solved_spares : (w : List Float) (d : Float) → Spares n w (work (solved_from w n F d))
  unfolding solved_from substitute_from
  solved_spares w d =
      then_spares w (rows_from w n F d 0 n) (λ v. substitute_from v n F) (rows_spares w d 0 n (omega arith))
      (λ v. spares_then n v (forward_from v n F n) (backward_from (forward_from v n F n) n F n) (forward_spares v n (omega arith)) (back_spares (forward_from v n F n) n (omega arith)))

-- ---- it follows the rule

module _ (n : ℕ) (H : ℕ → ℕ → Float) (g : ℕ → Float) (d : Float) (F : List ℕ) (fair : Fair n H g d F) where
  record Ruled (o : Bool × List Float) : Type 0 where
    yes : answer o ≡ R.solvable H g n d
    steps : answer o ≡ true → (k : ℕ) → k < n → step_of (work o) n k ≡ R.step H g n d k

  finish : (o : Bool × List Float) → Factored n H g d F o → Ruled (onward o (λ v. substitute_from v n F))
  unfolding substitute_from R.solvable
  finish (true, x) s =
      let e = step_same n H g d F fair x s.0 s.1 in
      record { yes = e.0 ∙ rw s.2; steps = λ a k h. e.1 (sym e.0 ∙ a) k h }
  finish (false, x) s = record { yes = rw s; steps = λ a k h. absurd (true≢false (sym a)) }

  -- the work u holds the system, and +0 in L's places
  ruled : (u : List Float) → At n H g d F u 0 → Ruled (solved_from u n F d)
  unfolding solved_from R.definite
  ruled u r =
      finish (rows_from u n F d 0 n)
      (rows_same n H g d F fair u 0 n (omega arith) r
      record { left = λ a b h l. absurd (omega arith); done = λ a b h l. absurd (omega arith); root = λ a h. absurd (omega arith) }
      refl)

-- ---- the solve of the work w: the rule's answer and step, and all but L's places and the step's as they were

pub record Followed (w : List Float) (n : ℕ) (d : Float) (r : Bool) (v : List Float) : Type 0 where
  pub yes : r ≡ R.solvable (hessian_of w n) (gradient_of w n) n d
  pub steps : r ≡ true → (k : ℕ) → k < n → step_of v n k ≡ step_in w n d k
  pub len : length v ≡ length w
  pub at : (q : ℕ) → q < length w → place_of n q ≡ kept → get_or v q nan ≡ get_or w q nan

module _ (w : List Float) (n : ℕ) (F : List ℕ) (d : Float) (long : need n ≤ length w) where
  -- with L's places cleared
  abbrev clean : List Float
  clean = work_after w n (step_of w n)

  at_entry : At n (hessian_of w n) (gradient_of w n) d F clean 0
  at_entry =
      record {
        long = omega (arith, length_after w n (step_of w n));
        system = system_after w n (step_of w n) long;
        gradient = gradient_after w n (step_of w n) long;
        cells = λ a b h l. absurd (omega arith);
        roots = λ a h. absurd (omega arith);
        clear = λ a b h l g. read_after w n (step_of w n) (a * n + b) (omega (arith, before n a n l)) ∙ ap (after (step_of w n) (get_or w (a * n + b) nan)) (at_cell n a b g l);
      }

  module _ (st : Starts clean n F) (fit : (q : ℕ) → Fits (get_or clean q nan)) where
    fair : Fair n (hessian_of w n) (gradient_of w n) d F
    fair =
        record {
          low = λ a h. (st a).low;
          none = λ a b h l. sym (system_after w n (step_of w n) long a b (omega (arith, (st a).low)) h) ∙ (st a).none h b l;
          fit = λ a b h l. rw (← system_after w n (step_of w n) long a b (omega arith) h) (fit (b * n + a));
          grad = λ a h. rw (← gradient_after w n (step_of w n) long a h) (fit (n * n + n + a));
        }

    own : Followed w n d (answer (solved_from clean n F d)) (work (solved_from clean n F d))
    own =
        let rule = ruled n (hessian_of w n) (gradient_of w n) d F fair clean at_entry in
        let s = solved_spares n F (λ a h. (st a).low) clean d in
        record { yes = rule.yes; steps = rule.steps; len = s.len ∙ length_after w n (step_of w n); at = λ q h k. s.at q k ∙ read_kept w n (step_of w n) q h k }

    pub followed : (r : Bool) (v : List Float) → (r, v) ≡ solved_from clean n F d → Followed w n d r v
    followed r v e = subst (λ (o : Bool × List Float). Followed w n d (answer o) (work o)) (sym e) own

-- Demand 3 on the definition's run: the bounds on the counts, and the cost. `Live` holds of every state that goes on, `Held` of every state that a run ends in.
-- Assumes nothing.
use mathlib.Core.Path.{◌≡◌, refl, sym, subst}
use mathlib.Core.Bool.{Bool, true, false}
use Prim.Native.Nat.{ℕ, suc, ◌+◌, ◌-◌, ◌≤◌, ◌<◌, zero-le}
use native.Mathlib.Nat.{lt_irrefl}
use native.Mathlib.Omega.{arith}
use lib.Dec.{T, leb}
use lib.Ieee.{Float, binary32, lt, le, fits}
use denote.Floats.{passes, is_true}
use borrow.Author.Tests.{leb-true, leb-false, ne_eqb}
use Rattle.numbers.specs.Notation.{num}
use Rattle.numbers.proofs.Choices.{left}
use Rattle.decisions.specs.Damping.{increased, decreased, lambda_max}
use Rattle.decisions.specs.Run.{begun, iterations, one_more, after_turn}
use Rattle.decisions.specs.Demand.{Held}
use Rattle.decisions.specs.Machine.{state_of}
use Rattle.decisions.specs.declared.State.{State}
use Rattle.decisions.specs.declared.Assembly.{Assembly}
use Rattle.decisions.specs.declared.Raw.{Raw}
use Rattle.decisions.specs.declared.Next.{Next}
use Rattle.decisions.specs.declared.Next.TheVariants as next
use Rattle.numbers.proofs.Order.{lt_through}
use Rattle.decisions.proofs.Levels.{At, raise_at, raise_ground, lower_at, lower_ground, first_at}
use Rattle.decisions.proofs.Ways.{Both, Past, Cases, turn_cases}

-- a count that has not come to the largest u32
one_more_lem : (n : ℕ) → n < 4294967295 → one_more n ≡ n + 1
unfolding one_more
one_more_lem n l = sym (left n (ne_eqb n 4294967295 (λ e. omega arith)) refl)

-- ---- a level as a difference of counts: r raises and a lowerings
raise_by : (r a n : ℕ) (d : Float) → At (r - a) d → lt lambda_max (increased d) ≡ false → n ≡ r + 1 - a → At n (increased d)
raise_by r a n d h e m = go (leb a r) refl
  where
    go : (b : Bool) → leb a r ≡ b → At n (increased d)
    go true l = let p : a ≤ r = leb-true a r l in let q : suc (r - a) ≡ n = omega arith in subst (λ (k : ℕ). At k (increased d)) q (raise_at (r - a) d h e)
    go false l =
        let p : r < a = leb-false a r l in
        let q : 0 ≡ n = omega arith in
        let z : r - a ≡ 0 = omega arith in
        subst (λ (k : ℕ). At k (increased d)) q (raise_ground d (subst (λ (k : ℕ). At k d) z h) e)

lower_by : (r a : ℕ) (d : Float) → At (r - a) d → At (r - (a + 1)) (decreased d)
lower_by r a d h = go (leb r a) refl
  where
    go : (b : Bool) → leb r a ≡ b → At (r - (a + 1)) (decreased d)
    go true l = let p : r ≤ a = leb-true r a l in let q : 0 ≡ r - (a + 1) = omega arith in subst (λ (n : ℕ). At n (decreased d)) q (lower_ground (r - a) d h)
    go false l = let p : a < r = leb-false r a l in let q : r - a ≡ suc (r - (a + 1)) = omega arith in lower_at (r - (a + 1)) d (subst (λ (n : ℕ). At n d) q h)

-- ---- what holds of a state that goes on
pub record Live (limit : ℕ) (first : Float) (s : State) : Type 0 where
  pub limited : limit ≤ 1000
  pub trials : iterations s ≤ limit
  pub tight : s.fresh ≡ false → iterations s < limit
  pub tried : s.solves ≡ s.accepted + s.rejected + s.failed
  pub level : At (s.rejected + s.failed - s.accepted) s.damping
  pub kept : s.accepted ≡ 0 → s.cost ≡ first
  pub lower : 0 < s.accepted → lt s.cost first ≡ true

module _ (limit : ℕ) (first : Float) (s : State) (h : Live limit first s) where
  pub live_held : Held limit first s
  live_held =
      record {
        trials = h.trials;
        raises = omega (arith, h.level.low);
        tried = omega (arith, h.level.low, h.tried);
        kept = h.kept;
        lower = h.lower;
      }

  below : Past limit s → iterations s < limit
  below past = at s.fresh refl
    where
      at : (b : Bool) → s.fresh ≡ b → iterations s < limit
      at true f = past f
      at false f = h.tight f

  -- no count is near the largest u32
  pub more_accepted : one_more s.accepted ≡ s.accepted + 1
  more_accepted = one_more_lem s.accepted (omega (arith, h.limited, h.trials))

  pub more_rejected : one_more s.rejected ≡ s.rejected + 1
  more_rejected = one_more_lem s.rejected (omega (arith, h.limited, h.trials))

  pub more_failed : one_more s.failed ≡ s.failed + 1
  more_failed = one_more_lem s.failed (omega (arith, h.limited, h.trials, h.level.low))

  pub more_solves : one_more s.solves ≡ s.solves + 1
  more_solves = one_more_lem s.solves (omega (arith, h.limited, h.trials, h.level.low, h.tried))

  -- the cost after a trial is accepted
  lowers : (new : Float) → lt new s.cost ≡ true → lt new first ≡ true
  lowers new l = at (leb s.accepted 0) refl
    where
      at : (b : Bool) → leb s.accepted 0 ≡ b → lt new first ≡ true
      at true e =
          let p : s.accepted ≤ 0 = leb-true s.accepted 0 e in
          let z : s.accepted ≡ 0 = omega arith in
          subst (λ (c : Float). lt new c ≡ true) (h.kept z) l
      at false e = is_true (lt new first) (lt_through new s.cost first (passes _ l) (passes _ (h.lower (leb-false s.accepted 0 e))))

  accepted_once : one_more s.accepted ≡ 0 → ⊥
  accepted_once e = omega (arith, more_accepted)

  pub ways : Cases (Live limit first) (Held limit first) limit s
  ways =
      record {
        stopped = live_held;
        fail_on = λ past e. record {
          limited = h.limited;
          trials = h.trials;
          tight = λ f. below past;
          tried = omega (arith, h.tried, more_failed, more_solves);
          level = raise_by (s.rejected + s.failed) s.accepted _ s.damping h.level e (omega (arith, more_failed));
          kept = h.kept;
          lower = h.lower;
        };
        fail_over = record {
          trials = h.trials;
          raises = omega (arith, h.level.low, more_failed);
          tried = omega (arith, h.level.low, h.tried, more_solves);
          kept = h.kept;
          lower = h.lower;
        };
        small = record {
          trials = h.trials;
          raises = omega (arith, h.level.low);
          tried = omega (arith, h.level.low, h.tried, more_solves);
          kept = h.kept;
          lower = h.lower;
        };
        accept_on = λ past new l. record {
          limited = h.limited;
          trials = omega (arith, below past, more_accepted);
          tight = λ f. absurd (subst T f tt);
          tried = omega (arith, h.tried, more_accepted, more_solves);
          level = rw more_accepted (lower_by (s.rejected + s.failed) s.accepted s.damping h.level);
          kept = λ z. absurd (accepted_once z);
          lower = λ p. lowers new l;
        };
        accept_over = λ past new l. record {
          trials = omega (arith, below past, more_accepted);
          raises = omega (arith, h.level.low, more_accepted);
          tried = omega (arith, h.level.low, h.tried, more_accepted, more_solves);
          kept = λ z. absurd (accepted_once z);
          lower = λ p. lowers new l;
        };
        reject_on = λ past e l. record {
          limited = h.limited;
          trials = omega (arith, below past, more_rejected);
          tight = λ f. l;
          tried = omega (arith, h.tried, more_rejected, more_solves);
          level = raise_by (s.rejected + s.failed) s.accepted _ s.damping h.level e (omega (arith, more_rejected));
          kept = h.kept;
          lower = h.lower;
        };
        reject_over = λ past. record {
          trials = omega (arith, below past, more_rejected);
          raises = omega (arith, h.level.low, more_rejected);
          tried = omega (arith, h.level.low, h.tried, more_solves);
          kept = h.kept;
          lower = h.lower;
        };
      }

-- ---- the run
abbrev pub Kept : ℕ → Float → Next → Type 0
Kept limit first n = Both (Live limit first) (Held limit first) n

module _ (limit : ℕ) (tolerance first : Float) where
  pub turn_keeps : (s : State) (a : Assembly) (e : Raw) → Live limit first s → Kept limit first (after_turn limit tolerance s a e)
  turn_keeps s a e h = turn_cases (Live limit first) (Held limit first) limit tolerance s (ways limit first s h) a e

pub kept_held : (limit : ℕ) (first : Float) (n : Next) → Kept limit first n → Held limit first (state_of n)
kept_held limit first (next.On s) h = live_held limit first s h
kept_held limit first (next.Over s e) h = h

module _ (limit : ℕ) (cost d : Float) (l : limit ≤ 1000) (f : T (fits binary32 d)) (p : lt (num 0) d ≡ true) (u : le d lambda_max ≡ true) where
  -- the run starts live, for a limit and a first damping that pass the checks
  pub begun_live : Live limit cost (begun cost d)
  begun_live =
      record {
        limited = l;
        trials = zero-le;
        tight = λ e. absurd (subst T e tt);
        tried = refl;
        level = first_at d f (passes _ p) (passes _ u);
        kept = λ z. refl;
        lower = λ l. absurd (lt_irrefl 0 l);
      }

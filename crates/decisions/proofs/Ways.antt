-- A turn by cases: what is shown of each way that a turn can go holds of `after_turn`. Assumes nothing.
use Rattle.numbers.specs.declared.Refusal.{Refusal}
use Rattle.decisions.specs.declared.Why.{Why}
use Rattle.std.specs.Prelude.{None, Ok, Result, Some}
use mathlib.Core.Path.{◌≡◌, refl, sym, ap, ◌∙◌, subst}
use mathlib.Core.Bool.{Bool, true, false}
use Prim.Native.Nat.{ℕ, ◌<◌}
use lib.Dec.{T, leb}
use lib.Ieee.{Float, lt}
use borrow.Author.Tests.{leb-false}
use Rattle.numbers.specs.Notation.{if_then}
use Rattle.decisions.specs.Damping.{increased, lambda_max}
use Rattle.decisions.specs.Run.{relative, judged, heard, assembled, iterations, failing, accepting, rejecting, solved, then_solve, passed, after_turn, after_failed, after_small, after_accepted, after_rejected}
use Rattle.decisions.specs.declared.State.{State}
use Rattle.decisions.specs.declared.Trial.TheVariants as trial
use Rattle.decisions.specs.declared.Reason.TheVariants as reason
use Rattle.decisions.specs.declared.Assembly.{Assembly}
use Rattle.decisions.specs.declared.Assembly.TheVariants as assembly
use Rattle.decisions.specs.declared.Raw.{Raw}
use Rattle.decisions.specs.declared.Raw.TheVariants as raw
use Rattle.decisions.specs.declared.Outcome.TheVariants as outcome
use Rattle.decisions.specs.declared.Why.TheVariants as why
use Rattle.decisions.specs.declared.Next.{Next}
use Rattle.decisions.specs.declared.Next.TheVariants as next

-- P of a state that goes on, Q of a state that a run ends in
abbrev pub Both : (State → Type 0) → (State → Type 0) → Next → Type 0
Both P Q (next.On s) = P s
Both P Q (next.Over s e) = Q s

-- past the top: where the system was assembled, the iterations were below the limit
abbrev pub Past : ℕ → State → Type 0
Past limit s = s.fresh ≡ true → iterations s < limit

-- the ways of a turn from s: the top stops it, or the solve fails, or its step is small, or its trial is accepted or rejected
pub record Cases (P : State → Type 0) (Q : State → Type 0) (limit : ℕ) (s : State) : Type 0 where
  pub stopped : Q s
  pub fail_on : Past limit s → lt lambda_max (increased s.damping) ≡ false → P (after_failed s)
  pub fail_over : Q (after_failed s)
  pub small : Q (after_small s)
  pub accept_on : Past limit s → (new : Float) → lt new s.cost ≡ true → P (after_accepted s new)
  pub accept_over : Past limit s → (new : Float) → lt new s.cost ≡ true → Q (after_accepted s new)
  pub reject_on : Past limit s → lt lambda_max (increased s.damping) ≡ false → iterations (after_rejected s) < limit → P (after_rejected s)
  pub reject_over : Past limit s → Q (after_rejected s)

module _ (P : State → Type 0) (Q : State → Type 0) where
  -- of a choice, what is shown of both
  pub either : (b : Bool) (x y : Next) → (b ≡ true → Both P Q x) → (b ≡ false → Both P Q y) → Both P Q (if_then b x y)
  unfolding if_then
  either true x y f g = f refl
  either false x y f g = g refl

  module _ (limit : ℕ) (tolerance : Float) (s : State) (k : Cases P Q limit s) where
    module _ (past : Past limit s) where
      rejects : Both P Q (rejecting s limit)
      unfolding rejecting
      rejects =
          either (lt lambda_max (increased s.damping)) _ _ (λ e. k.reject_over past)
          (λ e. either (leb limit (iterations (after_rejected s))) _ _ (λ l. k.reject_over past) (λ l. k.reject_on past e (leb-false limit (iterations (after_rejected s)) l)))

      fails : Both P Q (failing s)
      unfolding failing
      fails = either (lt lambda_max (increased s.damping)) _ _ (λ e. k.fail_over) (λ e. k.fail_on past e)

      accepts : (new : Float) → lt new s.cost ≡ true → Both P Q (accepting s tolerance new)
      unfolding accepting
      accepts new h = either (lt (relative s.cost new) tolerance) _ _ (λ e. k.accept_over past new h) (λ e. k.accept_on past new h)

      judges : (new : Float) → Both P Q (solved s limit tolerance (outcome.Tried (judged s.cost new)))
      unfolding judged solved if_then
      judges new = at (lt new s.cost) refl
        where
          at : (b : Bool) → lt new s.cost ≡ b → Both P Q (solved s limit tolerance (outcome.Tried (if_then b (trial.Accepted new) (trial.Rejected reason.Cost))))
          at true e = accepts new e
          at false e = rejects

      solves : (e : Raw) → Both P Q (solved s limit tolerance (heard s.cost e))
      unfolding solved heard
      solves raw.Failed = fails
      solves raw.Small = k.small
      solves (raw.Priced new) = judges new
      solves (raw.Numerical r) = rejects

    gates : (a : Assembly) (e : Raw) → iterations s < limit → Both P Q (then_solve (assembled a) limit tolerance s e)
    unfolding then_solve assembled
    gates (assembly.Refused r) e l = k.stopped
    gates assembly.Flat e l = k.stopped
    gates assembly.Steep e l = solves (λ t. l) e

    pub turn_cases : (a : Assembly) (e : Raw) → Both P Q (after_turn limit tolerance s a e)
    unfolding after_turn then_solve passed if_then
    turn_cases a e = at s.fresh refl (leb limit (iterations s)) refl
      where
        other : s.fresh ≡ false → Past limit s
        other p q = absurd (subst T (sym q ∙ p) tt)

        at : (b : Bool) → s.fresh ≡ b → (c : Bool) → leb limit (iterations s) ≡ c
            → Both P Q (then_solve (if_then b (if_then c (Some (Ok why.Budget)) (assembled a)) None) limit tolerance s e)
        at true f true l = k.stopped
        at true f false l = gates a e (leb-false limit (iterations s) l)
        at false f c l = solves (other f) e

-- ---- a turn in two parts, as a loop takes it
module _ (limit : ℕ) (tolerance : Float) (s : State) where
  pub turned_stop : (a : Assembly) (e : Raw) (w : Result Why Refusal) → passed limit s a ≡ Some w → after_turn limit tolerance s a e ≡ next.Over s w
  unfolding after_turn then_solve
  turned_stop a e w q = rw q

  pub turned_go : (a : Assembly) (e : Raw) → passed limit s a ≡ None → after_turn limit tolerance s a e ≡ solved s limit tolerance (heard s.cost e)
  unfolding after_turn then_solve
  turned_go a e q = rw q

  -- where the same system is solved again, what an assembly comes to does not count
  pub passed_again : (a : Assembly) → s.fresh ≡ false → passed limit s a ≡ None
  unfolding passed if_then
  passed_again a f = rw f

  pub turned_again : (a b : Assembly) (e : Raw) → s.fresh ≡ false → after_turn limit tolerance s a e ≡ after_turn limit tolerance s b e
  turned_again a b e f = turned_go a e (passed_again a f) ∙ sym (turned_go b e (passed_again b f))

  -- so a loop has to know it only where the system is to be assembled
  pub passed_due : (a b : Assembly) → (s.fresh ≡ true → a ≡ b) → passed limit s a ≡ passed limit s b
  passed_due a b h = at s.fresh refl
    where
      at : (c : Bool) → s.fresh ≡ c → passed limit s a ≡ passed limit s b
      at true f = ap (passed limit s) (h f)
      at false f = passed_again a f ∙ sym (passed_again b f)

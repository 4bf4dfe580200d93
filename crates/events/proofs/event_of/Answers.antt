use mathlib.Core.Path.{refl}
use Rattle.numbers.proofs.Choices.{taken, left}
use borrow.Author.Tests.{eq-eqb, ne_eqb}
use Rattle.events.specs.Driven.{event_of}
use Rattle.events.proofs.event_of.Goals as goal

pub returns-then-number-eq-REFUSED : goal.returns-then-number-eq-REFUSED
unfolding event_of
returns-then-number-eq-REFUSED c = taken _ (eq-eqb _ _ c.if-number-eq-REFUSED.true) refl

pub returns-then-number-eq-FLAT : goal.returns-then-number-eq-FLAT
unfolding event_of
returns-then-number-eq-FLAT c = left _ (ne_eqb _ _ c.if-number-eq-REFUSED.false) (taken _ (eq-eqb _ _ c.if-number-eq-FLAT.true) refl)

pub returns-then-number-eq-FAILED : goal.returns-then-number-eq-FAILED
unfolding event_of
returns-then-number-eq-FAILED c = left _ (ne_eqb _ _ c.if-number-eq-REFUSED.false) (left _ (ne_eqb _ _ c.if-number-eq-FLAT.false) (taken _ (eq-eqb _ _ c.if-number-eq-FAILED.true) refl))

pub returns-then-number-eq-SMALL : goal.returns-then-number-eq-SMALL
unfolding event_of
returns-then-number-eq-SMALL c = left _ (ne_eqb _ _ c.if-number-eq-REFUSED.false) (left _ (ne_eqb _ _ c.if-number-eq-FLAT.false) (left _ (ne_eqb _ _ c.if-number-eq-FAILED.false) (taken _ (eq-eqb _ _ c.if-number-eq-SMALL.true) refl)))

pub returns-then-number-eq-PRICED : goal.returns-then-number-eq-PRICED
unfolding event_of
returns-then-number-eq-PRICED c = left _ (ne_eqb _ _ c.if-number-eq-REFUSED.false) (left _ (ne_eqb _ _ c.if-number-eq-FLAT.false) (left _ (ne_eqb _ _ c.if-number-eq-FAILED.false) (left _ (ne_eqb _ _ c.if-number-eq-SMALL.false) (taken _ (eq-eqb _ _ c.if-number-eq-PRICED.true) refl))))

pub returns-then-number-eq-RETRACTION : goal.returns-then-number-eq-RETRACTION
unfolding event_of
returns-then-number-eq-RETRACTION c = left _ (ne_eqb _ _ c.if-number-eq-REFUSED.false) (left _ (ne_eqb _ _ c.if-number-eq-FLAT.false) (left _ (ne_eqb _ _ c.if-number-eq-FAILED.false) (left _ (ne_eqb _ _ c.if-number-eq-SMALL.false) (left _ (ne_eqb _ _ c.if-number-eq-PRICED.false) (taken _ (eq-eqb _ _ c.if-number-eq-RETRACTION.true) refl)))))

pub returns : goal.returns
unfolding event_of
returns c = left _ (ne_eqb _ _ c.if-number-eq-REFUSED.false) (left _ (ne_eqb _ _ c.if-number-eq-FLAT.false) (left _ (ne_eqb _ _ c.if-number-eq-FAILED.false) (left _ (ne_eqb _ _ c.if-number-eq-SMALL.false) (left _ (ne_eqb _ _ c.if-number-eq-PRICED.false) (left _ (ne_eqb _ _ c.if-number-eq-RETRACTION.false) refl)))))

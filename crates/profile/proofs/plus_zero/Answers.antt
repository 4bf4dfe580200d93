use mathlib.Core.Path.{sym, subst, ◌∙◌}
use lib.Dec.{T}
use Rattle.profile.proofs.Zeros.{Fits, literal_zero, equal_number, plus_zero_sign, unequal_plus}
use Rattle.profile.proofs.plus_zero.Goals as goal

pub is_sign_positive-requires : goal.is_sign_positive-requires
is_sign_positive-requires c = equal_number c.args.v _ c.if-v.true

pub returns-then-v : goal.returns-then-v
returns-then-v c =
    let held : Fits c.args.v = subst T (sym c.well_formed.0.1) tt in
    c.is_sign_positive.ensures ∙ plus_zero_sign c.args.v held (rw literal_zero at c.if-v.true)

pub returns-else-v : goal.returns-else-v
returns-else-v c = c.if-v.false ∙ sym (unequal_plus c.args.v (rw literal_zero at c.if-v.false))

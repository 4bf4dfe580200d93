use Rattle.residual.specs.EdgeParts.{between_of, residual_at, residuals_at}
use Rattle.residual.proofs.residuals_at.Goals as goal

pub returns : goal.returns
unfolding residuals_at residual_at between_of
returns c =
    rw (
      c.six_if_finite-2.ensures,
      c.six_if_finite.ensures,
      c.weigh_vec-u.ensures,
      c.weigh_vec-t.ensures,
      c.log_at-e.ensures,
      c.log_at-d.ensures,
      c.carry-b.ensures,
      c.carry-a.ensures,
      c.between_of-between.ensures,
    )

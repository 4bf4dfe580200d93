use Rattle.residual.specs.EdgeParts.{residual_in}
use Rattle.residual.proofs.residual_of.Goals as goal

pub returns : goal.returns
unfolding residual_in
returns c =
    rw (
      c.six_if_finite.ensures,
      c.weigh.ensures,
      c.log_at-d.ensures,
      c.carry.ensures,
      c.carry-between.ensures,
      c.log_turn-log.ensures,
      c.error_quat.ensures,
    )

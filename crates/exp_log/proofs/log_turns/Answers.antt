use Rattle.exp_log.specs.LogParts.{log_turns}
use Rattle.exp_log.proofs.LogParts.{turn_parts}
use Rattle.exp_log.proofs.log_turns.Goals as goal

pub returns : goal.returns
unfolding log_turns
returns c =
    let one =
    turn_parts _ c.upright_of-a.ensures c.half-a1.ensures c.half-a2.ensures
    c.half.ensures c.angle_from-w.ensures c.unbend_of.ensures in
    let other =
    turn_parts _ c.upright_of-b.ensures c.half-b1.ensures c.half-b2.ensures
    c.half-2.ensures c.angle_from-v.ensures c.unbend_of-2.ensures in
    λ i. record { ahead = one i; behind = other i }

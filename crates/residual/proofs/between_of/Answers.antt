use Rattle.residual.specs.EdgeParts.{between_at, between_of}
use Rattle.residual.proofs.between_of.Goals as goal

pub returns-in-A : goal.returns-in-A
unfolding between_of between_at
returns-in-A c =
    rw (
      c.carry-in-A.ensures,
      c.carry.ensures,
      c.rounded_vec-b.ensures,
      c.rounded_vec-a.ensures,
      c.negated-b.ensures,
      c.turn_vec-in-A.ensures,
      c.negated-a.ensures,
      c.turn_vec.ensures,
      c.in-A.is,
    )

pub returns-in-B : goal.returns-in-B
unfolding between_of between_at
returns-in-B c = rw (c.carry-in-B-2.ensures, c.carry-in-B.ensures, c.in-B.is)

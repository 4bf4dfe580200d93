-- `printable::gravity_cosine` meets its contract: each step is the definition. Assumes nothing.
use Rattle.printable.specs.Measures.{gravity_cosine}
use Rattle.printable.proofs.gravity_cosine.Goals as goal

pub returns : goal.returns
unfolding gravity_cosine
returns c =
    rw (
      c.dot_of.ensures,
      c.unit_vec-b.ensures,
      c.turn_vec-2.ensures,
      c.unit_vec-a.ensures,
      c.turn_vec.ensures,
    )

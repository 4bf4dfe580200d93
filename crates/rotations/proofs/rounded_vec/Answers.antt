use Rattle.rotations.specs.Rotation.{rounded_vec}
use Rattle.rotations.proofs.rounded_vec.Goals as goal

pub returns : goal.returns
unfolding rounded_vec
returns c = rw (c.round32-3.ensures, c.round32-2.ensures, c.round32.ensures)

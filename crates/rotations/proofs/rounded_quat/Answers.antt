use Rattle.rotations.specs.Rotation.{rounded_quat}
use Rattle.rotations.proofs.rounded_quat.Goals as goal

pub returns : goal.returns
unfolding rounded_quat
returns c = rw (c.round32-4.ensures, c.round32-3.ensures, c.round32-2.ensures, c.round32.ensures)

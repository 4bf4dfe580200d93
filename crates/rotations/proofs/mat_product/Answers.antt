use Rattle.rotations.specs.Rotation.{mat_product}
use Rattle.rotations.proofs.mat_product.Goals as goal

pub returns : goal.returns
unfolding mat_product
returns c = rw (c.turn_vec-3.ensures, c.turn_vec-2.ensures, c.turn_vec.ensures)

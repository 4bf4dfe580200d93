use Rattle.std.proofs.Common.{refl}
use Rattle.residual.proofs.six_of.Goals as goal

pub returns : goal.returns
returns c = refl

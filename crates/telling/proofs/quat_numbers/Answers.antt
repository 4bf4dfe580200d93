use Rattle.std.proofs.Common.{refl}
use Rattle.telling.proofs.quat_numbers.Goals as goal

pub returns : goal.returns
returns c = refl

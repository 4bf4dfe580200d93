use mathlib.Core.Path.{refl}
use lib.Ieee.{of_bits, div}
use Rattle.graph.specs.Lent.{pose_from}
use Rattle.graph.proofs.no_pose.Goals as goal

pub returns : goal.returns
unfolding pose_from of_bits div
returns c = refl

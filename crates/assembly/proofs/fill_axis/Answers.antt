use Rattle.assembly.proofs.Knowing.{axis_stowed}
use Rattle.assembly.proofs.fill_axis.Goals as goal

pub returns : goal.returns
returns c =
    axis_stowed _ _ _ _
    c.requires.0
    c.requires.1
    c.requires.2
    c.probes_at-probes.ensures
    c.stow.ensures
    c.stow-2.ensures

use mathlib.Core.Path.{refl}
use Rattle.exp_log.proofs.Steps.{turned_by_lem, not_turned}
use Rattle.probes.specs.Stances.{spin_of}
use Rattle.probes.proofs.spin_of.Goals as goal

pub returns-in_default : goal.returns-in_default
unfolding spin_of
returns-in_default c = not_turned _ c.in_default.is refl

pub returns : goal.returns
unfolding spin_of
returns c =
    turned_by_lem _ _ c.in-Some.q c.in-Some.is
    (rw (c.settled-swing.ensures, c.mat3_to_f32.ensures, c.mat_product-rotation.ensures, c.matrix_of.ensures))

use mathlib.Core.Path.{◌≡◌}
use lib.ListN.{length}
use Rattle.solve.specs.forms.Profile.{cleared_rows}
use Rattle.solve.proofs.clear_rows.Given as goal

abbrev pub invariant-loop-i : goal.invariant-loop-i
invariant-loop-i l = (length l.w ≡ length l.initial.w) × (l.w ≡ cleared_rows l.initial.w l.n l.i)

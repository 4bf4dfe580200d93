-- What an addition leaves as it was: the work's lender, the number of unknowns, and how many of them a pose has.
use Rattle.std.specs.Prelude.{◌≡◌}
use Rattle.additions.specs.declared.System.{System}

abbrev pub Same : System → System → Type 0
Same s t = (t.w.ghost_name ≡ s.w.ghost_name) × (t.n ≡ s.n) × (t.dof ≡ s.dof)

-- What a step of the solve leaves as it was: the work's lender, the number of unknowns, and where the rows start.
use Rattle.std.specs.Prelude.{◌≡◌}
use Rattle.solve.specs.declared.System.{System}

abbrev pub Same : System → System → Type 0
Same s t = (t.w.ghost_name ≡ s.w.ghost_name) × (t.n ≡ s.n) × (t.f ≡ s.f)

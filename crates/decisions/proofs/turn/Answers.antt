use Rattle.decisions.specs.Run.{after_turn, then_solve}
use Rattle.decisions.proofs.turn.Goals as goal

pub returns-in-Some : goal.returns-in-Some
unfolding after_turn then_solve
returns-in-Some c = simp (← c.pass_top.ensures, c.in-Some.is)

pub returns-in-None : goal.returns-in-None
unfolding after_turn then_solve
returns-in-None c = simp (c.after_solve.ensures, c.hear.ensures, ← c.pass_top.ensures, c.in-None.is)

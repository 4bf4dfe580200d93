use Rattle.telling.proofs.judged_nine.Goals as goal

pub returns : goal.returns
returns c = rw (c.flag_of-judged.ensures, c.flag_of-converged.ensures, c.stop_number-stop.ensures)

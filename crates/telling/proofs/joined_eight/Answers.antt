use Rattle.telling.proofs.joined_eight.Goals as goal

pub returns : goal.returns
returns c = rw (c.flag_of-converged.ensures, c.stop_number-stop.ensures)

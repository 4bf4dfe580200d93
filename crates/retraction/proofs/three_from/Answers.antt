use Rattle.retraction.proofs.three_from.Goals as goal

pub returns : goal.returns
returns c = rw (c.from-3.ensures, c.from-2.ensures, c.from.ensures)

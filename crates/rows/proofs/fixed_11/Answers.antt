use Rattle.rows.proofs.fixed_11.Goals as goal

pub returns : goal.returns
returns c = rw (c.ask.ensures, c.index_at-x.ensures)

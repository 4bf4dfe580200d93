use Rattle.rows.proofs.row_13.Goals as goal

pub returns : goal.returns
returns c = c.ask.ensures

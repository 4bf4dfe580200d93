use Rattle.rows.proofs.row_4.Goals as goal

pub returns : goal.returns
returns c = c.ask.ensures

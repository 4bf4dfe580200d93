use Rattle.telling.proofs.written_two.Goals as goal

pub returns-in-Ok : goal.returns-in-Ok
returns-in-Ok c = rw (c.place_of.ensures, c.in-Ok.is)

pub returns-in-Err : goal.returns-in-Err
returns-in-Err c = rw (c.place_of-in-Err.ensures, c.in-Err.is)

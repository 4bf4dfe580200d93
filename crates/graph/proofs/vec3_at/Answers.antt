use Rattle.graph.proofs.vec3_at.Goals as goal

pub returns : goal.returns
returns c = rw (c.at-3.ensures, c.at-2.ensures, c.at.ensures)

use Rattle.decisions.specs.Run.{assembled}
use Rattle.decisions.proofs.gate_of.Goals as goal

pub returns-in-Refused : goal.returns-in-Refused
unfolding assembled
returns-in-Refused c = simp c.in-Refused.is

pub returns-in-Flat : goal.returns-in-Flat
unfolding assembled
returns-in-Flat c = simp c.in-Flat.is

pub returns-in-Steep : goal.returns-in-Steep
unfolding assembled
returns-in-Steep c = simp c.in-Steep.is

use Rattle.line.specs.FloatText.{scaled_of}
use Rattle.line.proofs.by_tens.Goals as goal

pub returns : goal.returns
unfolding scaled_of
returns c = (rw (c.lower_all.ensures.0, c.raise_all.ensures.0), c.lower_all.ensures.1)

-- `roots::nearest_root` meets its contract: a guess that passes is nearest, and the digits answer where none does. Assumes nothing.
use Rattle.roots.proofs.nearest_root.Goals as goal

pub returns-then-first-gt0 : goal.returns-then-first-gt0
returns-then-first-gt0 c = c.tested-first.ensures.1 c.if-first-gt0.true

pub returns-then-second-gt0 : goal.returns-then-second-gt0
returns-then-second-gt0 c = c.tested-second.ensures.1 c.if-second-gt0.true

pub returns : goal.returns
returns c = c.nearest_by_digits.ensures

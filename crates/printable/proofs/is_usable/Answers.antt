-- `printable::is_usable` meets its contract: the code is the definition. Assumes nothing.
use Rattle.printable.specs.Printing.{usable}
use Rattle.printable.proofs.is_usable.Goals as goal

pub returns : goal.returns
unfolding usable
returns c = rw c.metrics_finite.ensures

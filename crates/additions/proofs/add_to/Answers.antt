use Rattle.additions.specs.Additions.{add_to}
use Rattle.additions.proofs.add_to.Goals as goal

pub returns : goal.returns
unfolding add_to
returns c = rw c.must_be_finite.ensures

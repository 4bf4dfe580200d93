-- `solve::clear` meets its contract: the part that is cleared, put back. Assumes nothing.
use Rattle.profile.proofs.Zeros.{literal_zero}
use Rattle.solve.proofs.Parts.{part_cleared}
use Rattle.solve.proofs.clear.Goals as goal

pub returns : goal.returns
returns c = part_cleared c.args.p c.args.m c.args.w.now c.requires (rw literal_zero at (c.fill.ensures.after (λ y e. e)))

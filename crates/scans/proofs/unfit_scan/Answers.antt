-- `scans::unfit_scan` meets its contract: a product told by a quotient and a rest. Assumes nothing.
use Rattle.std.proofs.Common.{arith}
use Rattle.std.proofs.lemmas.Grind.{common_steps}
use Rattle.scans.specs.ScanRows.{unfit_scan}
use Rattle.scans.proofs.Fits.{by_twelve, by_six}
use Rattle.scans.proofs.unfit_scan.Goals as goal

pub returns-then-unfit_loops : goal.returns-then-unfit_loops
unfolding unfit_scan
returns-then-unfit_loops c = grind (arith, common_steps, by_twelve c.args.poses c.args.ids, by_six c.args.loop_poses c.args.loops)

pub returns-else-unfit_loops : goal.returns-else-unfit_loops
unfolding unfit_scan
returns-else-unfit_loops c = grind (arith, common_steps, by_twelve c.args.poses c.args.ids, by_six c.args.loop_poses c.args.loops)

use Rattle.std.proofs.Common.{arith}
use Rattle.std.proofs.lemmas.Grind.{common_steps}
use Rattle.profile.specs.Layout.{need}
use Rattle.rows.specs.Tests.{short_work}
use Rattle.rows.proofs.Quotients.{no_room, by_24}
use Rattle.rows.proofs.row_14.Goals as goal

pub returns : goal.returns
unfolding short_work
returns c = grind (arith, common_steps, no_room (need c.args.n) c.args.room.work32, by_24 c.args.room.work64 c.args.poses)

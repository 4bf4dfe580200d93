use Rattle.exports.proofs.pgo_optimize_with_gravity.Goals as goal

pub returns : goal.returns
returns c = c.run.ensures

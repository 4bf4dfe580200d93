use Rattle.exports.proofs.pgo_optimize.Goals as goal

pub returns : goal.returns
returns c = c.run.ensures

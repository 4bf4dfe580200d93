use Rattle.exports.proofs.decide_fits.Goals as goal

pub returns : goal.returns
returns c = rw c.known_events-good.ensures

use mathlib.Core.Path.{◌≡◌}
use Rattle.residual.specs.Residuals.{weighted_vec, weighted}
use Rattle.residual.proofs.weigh.Goals as goal

pub returns : goal.returns
unfolding weighted
returns c =
    let a = c.args in
    let t : c.weigh_vec.result ≡ weighted_vec a.w a.d.t = c.weigh_vec.ensures in
    let r : c.weigh_vec-2.result ≡ weighted_vec a.w a.d.r = c.weigh_vec-2.ensures in
    rw (t, r)

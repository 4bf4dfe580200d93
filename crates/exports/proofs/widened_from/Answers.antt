use mathlib.Core.Path.{◌∙◌, ap}
use Rattle.pose_conversion.specs.Conversions.{vec_f64}
use Rattle.exports.proofs.widened_from.Goals as goal

pub returns : goal.returns
unfolding vec_f64
returns c = c.vec3_to_f64.ensures ∙ ap vec_f64 c.vec_from.ensures

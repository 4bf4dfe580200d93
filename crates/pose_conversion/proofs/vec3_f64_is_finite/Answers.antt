use Rattle.numbers.proofs.Finite.{finite_test}
use Rattle.pose_conversion.proofs.vec3_f64_is_finite.Goals as goal

pub returns : goal.returns
returns c =
    rw (
      finite_test c.args.v.z c.is_finite-3.ensures.value,
      finite_test c.args.v.y c.is_finite-2.ensures.value,
      finite_test c.args.v.x c.is_finite.ensures.value,
    )

use Rattle.probes.specs.Stances.{finite_matrix}
use Rattle.probes.proofs.finite_matrix.Goals as goal

pub returns : goal.returns
unfolding finite_matrix
returns c = rw (c.vec3_f32_is_finite-3.ensures, c.vec3_f32_is_finite-2.ensures, c.vec3_f32_is_finite.ensures)

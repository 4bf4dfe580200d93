use Rattle.probes.specs.Stances.{probe_gravity}
use Rattle.probes.proofs.probe_gravity.Goals as goal

pub returns : goal.returns
unfolding probe_gravity
returns c =
    rw (
      c.join.ensures,
      c.vec3_to_f32.ensures,
      c.negated-t.ensures,
      c.turn_vec.ensures,
      c.sum_of-moved.ensures,
      c.step_shift.ensures,
    )

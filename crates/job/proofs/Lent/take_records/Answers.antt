use mathlib.Core.Path.{◌≡◌, refl, sym, ◌∙◌}
use Rattle.std.specs.Prelude.{None, Ok}
use Rattle.job_records.specs.Records.{record_step}
use Rattle.job.specs.Lent.{held_in}
use Rattle.job.proofs.Held.{stepped, kind_is, pose_may, edge_may, fixed_may, seen_less, held_start, held_on, held_done, never_stops}
use Rattle.job.proofs.Lent.take_records.Goals as goal

pub loop-d-init : goal.loop-d-init
loop-d-init c = ((refl, refl, refl, refl), held_start c.args.room c.args.s.now (held_in c.args.self.now) c.requires.0)

pub take_record-requires-clause-is : goal.take_record-requires-clause-is
take_record-requires-clause-is c = kind_is c.loop-d.invariant.1 _ (stepped c.step_at.ensures c.in-Ok-Some.is c.in-Ok-Some.field-0-is)

pub take_record-requires-clause-pose : goal.take_record-requires-clause-pose
take_record-requires-clause-pose c = pose_may c.loop-d.invariant.1 _ (stepped c.step_at.ensures c.in-Ok-Some.is c.in-Ok-Some.field-0-is)

pub take_record-requires-clause-edge : goal.take_record-requires-clause-edge
take_record-requires-clause-edge c = edge_may c.loop-d.invariant.1 _ (stepped c.step_at.ensures c.in-Ok-Some.is c.in-Ok-Some.field-0-is)

pub take_record-requires-clause-fixed : goal.take_record-requires-clause-fixed
take_record-requires-clause-fixed c = fixed_may c.loop-d.invariant.1 _ (stepped c.step_at.ensures c.in-Ok-Some.is c.in-Ok-Some.field-0-is)

pub loop-d-smaller : goal.loop-d-smaller
loop-d-smaller c = seen_less c.loop-d.invariant.1.seen _ (stepped c.step_at.ensures c.in-Ok-Some.is c.in-Ok-Some.field-0-is)

pub loop-d-preserved : goal.loop-d-preserved
loop-d-preserved c =
    let i = c.loop-d.invariant.0 in
    let e = c.take_record.ensures.same in
    let step = stepped c.step_at.ensures c.in-Ok-Some.is c.in-Ok-Some.field-0-is in
    ((e.0 ∙ i.0, e.1 ∙ i.1, e.2 ∙ i.2, e.3 ∙ i.3), held_on c.loop-d.invariant.1 _ step _ c.take_record.ensures.taken)

pub returns-in_default-clause-taken : goal.returns-in_default-clause-taken
returns-in_default-clause-taken c =
    let e : record_step c.args.room c.args.s.now c.loop-d.c ≡ Ok None = (cc) in
    held_done c.loop-d.invariant.1 e

pub returns-in_default-2-clause-taken : goal.returns-in_default-2-clause-taken
returns-in_default-2-clause-taken c = absurd (never_stops c.loop-d.invariant.1 _ (sym c.step_at.ensures ∙ c.in_default.is) c.requires.1)

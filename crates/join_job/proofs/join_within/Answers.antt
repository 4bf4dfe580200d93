use Rattle.std.proofs.Common.{◌*◌, ◌∙◌}
use lib.Seq.{length_front}
use Rattle.job.specs.Format.{Space, space}
use Rattle.join_job.proofs.Joins.{Blank, within_refused, had_fits, within_taken}
use Rattle.join_job.proofs.join_within.Goals as goal
use Rattle.join_job.proofs.join_within.Goals.{After-read_job}

-- the arrays before the reader wrote into them, and what it gave back
abbrev arrays : After-read_job → Space
arrays c = space c.blank-poses.result c.blank-ends.result c.blank-edges.result c.blank-fixed.result

abbrev read : After-read_job → Space
read c = space c.read_job.new.poses c.read_job.new.ends c.read_job.new.edges c.read_job.new.fixed

blank_arrays : (c : After-read_job) → Blank c.args.room (arrays c)
blank_arrays c =
    record { room_fits = c.requires; poses = c.blank-poses.ensures.len; ends = c.blank-ends.ensures.len; edges = c.blank-edges.ensures.len; fixed = c.blank-fixed.ensures.len }

pub join_front-requires : goal.join_front-requires
join_front-requires c =
    let a = c.args in
    let e = (goal.at.join_front-requires c).After-read_job in record {
      poses_bound = had_fits a.room (arrays e) (blank_arrays e) a.bytes.now c.read_job.result (read e) c.read_job.ensures _ _ c.in-Ok.is;
      poses_len = (
        length_front c.blank-poses.result c.read_job.new.poses (12 * a.room.poses) c.read_job.auto.poses ∙ c.blank-poses.ensures.len,
        length_front c.blank-ends.result c.read_job.new.ends (2 * a.room.edges) c.read_job.auto.ends ∙ c.blank-ends.ensures.len,
        length_front c.blank-edges.result c.read_job.new.edges (8 * a.room.edges) c.read_job.auto.edges ∙ c.blank-edges.ensures.len,
        length_front c.blank-fixed.result c.read_job.new.fixed a.room.fixed c.read_job.auto.fixed ∙ c.blank-fixed.ensures.len,
      );
    }

pub returns-in-Err : goal.returns-in-Err
returns-in-Err c =
    let a = c.args in
    let e = (goal.at.returns-in-Err c).After-read_job in
    rw c.refused.ensures (within_refused a.room (arrays e) (blank_arrays e) a.bytes.now c.read_job.result (read e) c.read_job.ensures _ a.out.now c.in-Err.is)

pub returns-in-Ok : goal.returns-in-Ok
returns-in-Ok c =
    let a = c.args in
    let e = (goal.at.returns-in-Ok c).After-read_job in
    c.join_front.ensures ∙ within_taken a.room (arrays e) (blank_arrays e) a.bytes.now c.read_job.result (read e) c.read_job.ensures _ _ c.in-Ok.is a.out.now

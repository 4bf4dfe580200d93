-- `job::read_job` meets its contract: what the scan says, the lists filled and the settings of the first record are what reading gives. Assumes nothing.
use mathlib.Core.Path.{sym, ◌∙◌}
use Rattle.std.proofs.lemmas.Result.{err_from_is_err_and}
use borrow.Author.Rules.{rules}
use Rattle.job.specs.Format.{space}
use Rattle.job.proofs.Settled.{whole_taken, settings_there, reads_refused, reads_whole, ended_as}
use Rattle.job.proofs.read_job.Goals as goal

pub take_records-requires : goal.take_records-requires
take_records-requires c = (c.room-room.ensures, whole_taken _ c.args.bytes.now _ (sym c.in_ok-had.was ∙ c.scan.ensures))

pub settings_in-requires : goal.settings_in-requires
settings_in-requires c = settings_there _ c.args.bytes.now _ (sym c.in_ok-had.was ∙ c.scan.ensures)

pub returns-in_err-had : goal.returns-in_err-had
returns-in_err-had c =
    let p = err_from_is_err_and c.from_residual.result c.from_residual.ensures.1 in
    rw (p.1, p.2) (reads_refused _ c.args.bytes.now (space c.args.poses.now c.args.ends.now c.args.edges.now c.args.fixed.now)
    c.room-room.ensures _ (sym c.in_err-had.was ∙ c.scan.ensures))

pub returns : goal.returns
returns c =
    let k = c.take_records.ensures.same in
    ended_as (search rules) (search rules) (search rules) (search rules)
    (reads_whole _ c.args.bytes.now (space c.args.poses.now c.args.ends.now c.args.edges.now c.args.fixed.now)
    c.room-room.ensures _ _ _ (sym c.in_ok-had.was ∙ c.scan.ensures) c.settings_in.ensures c.take_records.ensures.taken)

use Rattle.job.specs.Lent.{job_in}
use Rattle.job.proofs.Writing.{job_put, size_is}
use Rattle.job.proofs.put_job.Goals as goal

pub returns : goal.returns
returns c =
    let a = c.args in
    let j = job_in a.j in (
      size_is j a.had c.requires.0,
      rw (c.put_header.ensures, c.put_fixed.ensures, c.put_edges.ensures, c.put_poses.ensures, c.put_settings.ensures)
          (job_put j a.had a.out.now c.requires.0 c.requires.2),
    )

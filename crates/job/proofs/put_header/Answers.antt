use Prim.Native.Nat.{◌+◌, ◌-◌}
use native.Mathlib.Omega.{arith}
use mathlib.Core.Path.{◌∙◌}
use Rattle.job_records.proofs.Words.{low_bytes, length_bytes, put_pasted}
use Rattle.job.proofs.Writing.{header_put}
use Rattle.job.proofs.put_header.Goals as goal

pub returns : goal.returns
returns c =
    let a = c.args in
    let len = c.copy_from_slice.ensures.after ∙ c.to_le_bytes.ensures ∙ low_bytes 2 a.len in
    let kind = c.copy_from_slice-2.ensures.after ∙ c.to_le_bytes-2.ensures ∙ low_bytes 2 a.kind in
    rw (put_pasted a.at (a.at + 2 - a.at) 2 a.out.now _ _ len (length_bytes 2 _) (omega arith))
    (put_pasted _ _ 2 _ _ _ kind (length_bytes 2 _) (omega arith) ∙ header_put a.at a.len a.kind a.out.now (omega arith))

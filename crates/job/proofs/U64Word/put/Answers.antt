use native.Mathlib.Omega.{arith}
use mathlib.Core.Path.{◌∙◌}
use Rattle.job_records.proofs.Words.{low_bytes, length_bytes, put_pasted}
use Rattle.job.proofs.U64Word.put.Goals as goal

pub returns : goal.returns
returns c = put_pasted _ _ 8 _ _ _ (c.copy_from_slice.ensures.after ∙ c.to_le_bytes.ensures ∙ low_bytes 8 _) (length_bytes 8 _) (omega arith)

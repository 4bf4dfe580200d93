use mathlib.Core.Path.{◌∙◌}
use lib.Ieee.{binary64}
use Rattle.numbers.proofs.Read.{bits_no_nan}
use Rattle.job_terms.proofs.Patterns.{nan_of}
use Rattle.join_job.proofs.Patterns.{nan64}
use Rattle.join_job.proofs.double_of.Goals as goal

pub returns-then-bits-gt9218868437227405312 : goal.returns-then-bits-gt9218868437227405312
returns-then-bits-gt9218868437227405312 c = nan64 ∙ nan_of binary64 c.args.bits c.if-bits-gt9218868437227405312.true

pub float_from_bits-result : goal.float_from_bits-result
float_from_bits-result c = bits_no_nan binary64 c.args.bits c.if-bits-gt9218868437227405312.false

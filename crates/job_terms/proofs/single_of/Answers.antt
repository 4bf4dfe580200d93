use mathlib.Core.Path.{◌∙◌}
use lib.Ieee.{binary32}
use Rattle.numbers.proofs.Read.{bits_no_nan}
use Rattle.job_terms.proofs.Patterns.{nan_of, nan32}
use Rattle.job_terms.proofs.single_of.Goals as goal

pub returns-then-bits-gt2139095040 : goal.returns-then-bits-gt2139095040
returns-then-bits-gt2139095040 c = nan32 ∙ nan_of binary32 c.args.bits c.if-bits-gt2139095040.true

pub float_from_bits-result : goal.float_from_bits-result
float_from_bits-result c = bits_no_nan binary32 c.args.bits c.if-bits-gt2139095040.false

use Rattle.std.proofs.Common.{refl}
use lib.Ieee.{of_bits}
use Rattle.numbers.specs.Notation.{ratio}
use Rattle.numbers.proofs.Choices.{taken, left}
use Rattle.line.specs.FloatText.{whole_part}
use Rattle.line.proofs.FloatLaws.{whole_fits}
use Rattle.line.proofs.whole_part.Goals as goal
use Rattle.line.proofs.whole_part.Goals.{else-v-via-then-v+else-v-2, else-v-via-else-v}

pub truncating_f64_to_u64-requires-clause-lower_bound : goal.truncating_f64_to_u64-requires-clause-lower_bound
unfolding ratio of_bits
truncating_f64_to_u64-requires-clause-lower_bound c = (whole_fits _ c.if-v.true c.if-v-2.true).0

pub truncating_f64_to_u64-requires-clause-upper_bound : goal.truncating_f64_to_u64-requires-clause-upper_bound
unfolding ratio of_bits
truncating_f64_to_u64-requires-clause-upper_bound c = (whole_fits _ c.if-v.true c.if-v-2.true).1

pub returns-then-v-2 : goal.returns-then-v-2
unfolding whole_part ratio of_bits
returns-then-v-2 c = taken _ c.if-v.true (taken _ c.if-v-2.true c.truncating_f64_to_u64.ensures)

pub returns : goal.returns
unfolding whole_part ratio of_bits
returns c =
    elim c.else-v.branch [
      | else-v-via-then-v+else-v-2 w ↦ taken _ w.if-v.true (left _ w.if-v-2.false refl)
      | else-v-via-else-v w ↦ left _ w.if-v.false refl
    ]

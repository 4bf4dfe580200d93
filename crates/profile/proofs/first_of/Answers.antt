use borrow.Author.Tests.{lt-ltb, le-ltb}
use Rattle.profile.specs.Starts.{first_of}
use Rattle.profile.proofs.first_of.Goals as goal

pub returns-then-i-lt384 : goal.returns-then-i-lt384
unfolding first_of
returns-then-i-lt384 c = rw (lt-ltb _ _ c.if-i-lt384.true)

pub returns-else-i-lt384 : goal.returns-else-i-lt384
unfolding first_of
returns-else-i-lt384 c = rw (le-ltb _ _ c.if-i-lt384.false)

-- What a copy and a clear make of a list. Definitions only.
use Rattle.std.specs.Prelude.{ℕ, List, ◌++◌, length, take, drop, replicate, Float}
use Rattle.numbers.specs.Notation.{num}

-- `from` laid over the start of `to`, as far as both go
abbrev pub copied : {A : Type 0} → List A → List A → List A
copied from to = take (length to) from ++ drop (length from) to

-- the first k numbers +0, the rest as they were
abbrev pub zeroed : ℕ → List Float → List Float
zeroed k w = replicate k (num 0) ++ drop k w

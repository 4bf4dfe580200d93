-- The damping's arithmetic, in f32: document 01, "The solve and the run". Definitions only.
use Rattle.std.specs.Prelude.{Float}
use Rattle.std.specs.Float.Ieee.{lt}
use Rattle.numbers.specs.Notation.{◌⊠◌, ◌⧄◌, num, ratio32, if_then}

-- LAMBDA_FACTOR, LAMBDA_MIN and LAMBDA_MAX of the Rust: 10, 1e-10 and 1e10
abbrev pub lambda_factor : Float
lambda_factor = num 10

abbrev pub lambda_min : Float
lambda_min = ratio32 1 10000000000

abbrev pub lambda_max : Float
lambda_max = ratio32 10000000000 1

-- times 10
unfoldable pub increased : Float → Float
increased d = d ⊠ lambda_factor

-- the larger of a tenth and 1e-10
unfoldable pub decreased : Float → Float
decreased d = let q = d ⧄ lambda_factor in if_then (lt q lambda_min) lambda_min q

-- Twists by the format of their numbers. Definitions only.
use Rattle.std.specs.Prelude.{Float}
use Rattle.exp_log.specs.declared.Twist.{Twist as Twist·of}

-- in f32: a step, a residual
abbrev pub Twist : Type 0
Twist = Twist·of Float

-- in f64, before it is narrowed
abbrev pub WideTwist : Type 0
WideTwist = Twist·of Float

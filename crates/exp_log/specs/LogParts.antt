-- A log by its parts: what the quaternion gives, whatever the translation, and the rest. `proofs/LogParts` says that they make the log of `ExpLog`.
-- Definitions only.
use Rattle.std.specs.Float.Ieee.{neg}
use Rattle.numbers.specs.Notation.{num, ratio}
use Rattle.rotations.specs.Rotation.{dot, times, over}
use Rattle.exp_log.specs.ExpLog.{axis, bent, upright, arc_series, angle_of, unbend}
use Rattle.rotations.specs.Formats.{Vec3, Quat}
use Rattle.exp_log.specs.Formats.{WideTwist}
use Rattle.exp_log.specs.declared.LogTurn.{LogTurn}
use Rattle.exp_log.specs.declared.Both.{Both}

-- ω of a quaternion that was halved three times
unfoldable pub angle_from : Quat → Vec3
angle_from h = let a = over (axis h) h.w in times (arc_series (neg (dot a a))) (times (num 16) a)

-- ω and D, from the quaternion
unfoldable pub log_turn : Quat → LogTurn
log_turn q = let u = upright q in let ω = angle_of u in record { w = ω; d = unbend u ω }

unfoldable pub log_turns : Quat → Quat → Both LogTurn
log_turns p q = record { ahead = log_turn p; behind = log_turn q }

-- the log with the translation t
unfoldable pub log_at : LogTurn → Vec3 → WideTwist
log_at k t = record { t = bent k.w (neg (ratio 1 2)) k.d t; r = k.w }

-- A log by its parts is the log; and its turn, worked out step by step. Assumes nothing.
use mathlib.Core.Path.{◌≡◌, refl}
use lib.Ieee.{Float}
use Rattle.rotations.specs.Rotation.{wide}
use Rattle.exp_log.specs.ExpLog.{upright, halved, angle_of, unbend, log_wide}
use Rattle.exp_log.specs.LogParts.{angle_from, log_turn, log_at}
use Rattle.rotations.specs.Formats.{Vec3, Quat, Transform}
use Rattle.exp_log.specs.declared.LogTurn.{LogTurn}

pub log_parts : (a : Transform) → log_at (log_turn (wide a).q) (wide a).t ≡ log_wide a
unfolding log_at log_turn log_wide
log_parts a = refl

abbrev turn : Vec3 → Float → LogTurn
turn w d = record { w = w; d = d }

-- u: q upright; a, b, h: halved once, twice and three times
pub turn_parts : (q : Quat) {u a b h : Quat} {w : Vec3} {d : Float} → u ≡ upright q → a ≡ halved u → b ≡ halved a → h ≡ halved b
    → w ≡ angle_from h → d ≡ unbend u w → turn w d ≡ log_turn q
unfolding log_turn angle_of angle_from
turn_parts q i j k l m n = rw (n, m, l, k, j, i)

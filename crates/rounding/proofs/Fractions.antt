-- A value's rounding to a format, from any fraction that has the value. Assumes nothing.
use Rattle.std.proofs.Common.{◌≡◌, ℕ, ◌*◌, ◌<◌, Bool, ap, ◌∙◌}
use lib.Ieee.{Float, nan, inf, fin, Format, up, down, round}
use lib.Ieee.Fits.{down_pos}
use lib.Ieee.Exact.{HasValue}
use lib.Ieee.Scale.{round_same}
use Rattle.rounding.specs.Rounding.{rounded}

pub rounded_at : (f : Format) (v : Float) (s : Bool) (a c : ℕ) → 0 < c → HasValue v s a c → rounded f v ≡ round f s a c
unfolding rounded
rounded_at f nan s a c C h = absurd h
rounded_at f (inf t) s a c C h = absurd h
rounded_at f (fin t m e) s a c C h = ap (λ (z : Bool). round f z (m * up e) (down e)) h.0 ∙ round_same f s (m * up e) (down e) a c (down_pos e) C h.1

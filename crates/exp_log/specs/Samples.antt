-- Worked examples, computed by antt. Document 01's own, those marked *, stand in StarredSamples of sparse_pgo. Assumes nothing.
use Rattle.std.specs.Prelude.{◌≡◌, refl, List, [], ◌∷◌, map, ℕ, ◌+◌, Float, None, Option, Some}
use Rattle.std.specs.Float.{binary32}
use Rattle.std.specs.Float.Ieee.{of_bits, to_bits, add, sub, mul, div, neg, lt, le}
use Rattle.numbers.specs.Notation.{ratio, if_then}
use Rattle.rounding.specs.Rounding.{rounded}
use Rattle.roots.specs.Roots.{rooted}
use Rattle.rotations.specs.Formats.{Vec3, Vec3F32, QuatF32, Mat3F32, Transform}
use Rattle.rotations.specs.Rotation.{vec, dot, cross, plus, minus, times, matrix_of, turned, conjugate, quat_product, wide, finished, product, inverse, over}
use Rattle.rotations.specs.FromMatrix.{halved_by, by_rule, quat_of_matrix}
use Rattle.exp_log.specs.ExpLog.{series, squared, squarings, sine_series, cosine_series, turn_by, small_bend, large_bend, bend, bent, turning}
use Rattle.exp_log.specs.ExpLog.{turn_of, moved_by, exp_of}
use Rattle.exp_log.specs.ExpLog.{upright, halved, arc_series, angle_of, unbend, log_wide, narrowed_twist, log_of}

-- ---- numbers by their f32 bits: 0, 1/2, 1, 2, 3, and one with the other sign
abbrev o : ℕ
o = 0

abbrev half : ℕ
half = 0x3f00_0000

abbrev one : ℕ
one = 0x3f80_0000

abbrev two : ℕ
two = 0x4000_0000

abbrev three : ℕ
three = 0x4040_0000

abbrev less : ℕ → ℕ
less b = b + 0x8000_0000

abbrev float : ℕ → Float
float b = of_bits binary32 b

abbrev v64 : ℕ → ℕ → ℕ → Vec3
v64 x y z = vec (float x) (float y) (float z)

abbrev v32 : ℕ → ℕ → ℕ → Vec3F32
v32 x y z = record { x = float x; y = float y; z = float z }

abbrev q32 : ℕ → ℕ → ℕ → ℕ → QuatF32
q32 x y z w = record { x = float x; y = float y; z = float z; w = float w }

-- a transform of a quaternion and a translation
abbrev at : QuatF32 → Vec3F32 → Transform
at q t = record { q = q; t = t }

-- no turn; a third of a turn about (1, 1, 1), which takes x to y, y to z and z to x
abbrev no_turn : QuatF32
no_turn = q32 o o o one

abbrev third : QuatF32
third = q32 half half half half

-- ---- what is asked, and the bits of the answer's numbers: none where exp fails
pub data Case : Type 0 where
  log : Transform → Case
  exp : Vec3 → Vec3 → Case
  quaternion : Mat3F32 → Case
  product_of : Transform → Transform → Case
  inverse_of : Transform → Case

abbrev three_of : Vec3F32 → List ℕ → List ℕ
three_of v rest = to_bits binary32 v.x ∷ to_bits binary32 v.y ∷ to_bits binary32 v.z ∷ rest

abbrev four_of : QuatF32 → List ℕ → List ℕ
four_of q rest = to_bits binary32 q.x ∷ to_bits binary32 q.y ∷ to_bits binary32 q.z ∷ to_bits binary32 q.w ∷ rest

abbrev seven_of : Transform → List ℕ
seven_of a = four_of a.q (three_of a.t [])

abbrev if_moved : Option Transform → List ℕ
if_moved (Some a) = seven_of a
if_moved None = []

unfoldable pub answer : Case → List ℕ
answer (log a) = three_of (log_of a).t (three_of (log_of a).r [])
answer (exp ρ ω) = if_moved (exp_of ρ ω)
answer (quaternion m) = four_of (quat_of_matrix m) []
answer (product_of a b) = seven_of (product a b)
answer (inverse_of a) = seven_of (inverse a)

-- log of a translation alone is that translation; exp of zero is the identity, and of a translation alone that translation;
-- exp of a turn of 64 is had, (sin 32, 0, 0, cos 32), and of 65 fails; the quaternion of the identity matrix; products with the identity; a vector turned;
-- an inverse; exp of (0, 1, 0) and a turn of 1 about x, which is (sin ½, 0, 0, cos ½) and (0, sin 1, 1 − cos 1); and its log
pub samples : map answer (log (at no_turn (v32 one two three))
    ∷ exp (v64 o o o) (v64 o o o) ∷ exp (v64 one two three) (v64 o o o)
    ∷ exp (v64 o o o) (v64 0x4280_0000 o o) ∷ exp (v64 o o o) (v64 0x4282_0000 o o)
    ∷ quaternion (record { x = v32 one o o; y = v32 o one o; z = v32 o o one })
    ∷ product_of (at no_turn (v32 o o o)) (at third (v32 one two three)) ∷ product_of (at third (v32 one two three)) (at no_turn (v32 o o o))
    ∷ product_of (at third (v32 o o o)) (at no_turn (v32 one two three)) ∷ inverse_of (at third (v32 one two three))
    ∷ exp (v64 o one o) (v64 one o o) ∷ log (at (q32 0x3ef5_7744 o o 0x3f60_a940) (v32 o 0x3f57_6aa4 0x3eeb_5d7f)) ∷ [])
    ≡ (one ∷ two ∷ three ∷ o ∷ o ∷ o ∷ [])
    ∷ (o ∷ o ∷ o ∷ one ∷ o ∷ o ∷ o ∷ []) ∷ (o ∷ o ∷ o ∷ one ∷ one ∷ two ∷ three ∷ [])
    ∷ (0x3f0d_2a4d ∷ o ∷ o ∷ 0x3f55_8faa ∷ o ∷ o ∷ o ∷ []) ∷ []
    ∷ (o ∷ o ∷ o ∷ one ∷ [])
    ∷ (half ∷ half ∷ half ∷ half ∷ one ∷ two ∷ three ∷ []) ∷ (half ∷ half ∷ half ∷ half ∷ one ∷ two ∷ three ∷ [])
    ∷ (half ∷ half ∷ half ∷ half ∷ three ∷ one ∷ two ∷ []) ∷ (less half ∷ less half ∷ less half ∷ half ∷ less two ∷ less three ∷ less one ∷ [])
    ∷ (0x3ef5_7744 ∷ o ∷ o ∷ 0x3f60_a940 ∷ o ∷ 0x3f57_6aa4 ∷ 0x3eeb_5d7f ∷ []) ∷ (o ∷ one ∷ 0xb0ef_66e4 ∷ one ∷ o ∷ o ∷ []) ∷ []
unfolding answer ratio if_then add sub mul div neg lt le of_bits to_bits rounded rooted dot cross plus minus times over matrix_of turned conjugate quat_product
    wide finished product inverse halved_by by_rule quat_of_matrix series squared squarings sine_series cosine_series turn_by small_bend large_bend bend bent
    turning turn_of moved_by exp_of upright halved arc_series angle_of unbend log_wide narrowed_twist log_of
samples = refl

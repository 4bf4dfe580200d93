-- Quaternion from matrix, in f32: document 01, "Rotation arithmetic". m_cr is column c, row r: m01 is m .x .y.
use Rattle.std.specs.Prelude.{Float}
use Rattle.std.specs.Float.Ieee.{le}
use Rattle.numbers.specs.Notation.{◌⊞◌, ◌⊟◌, ◌⊠◌, ◌⧄◌, num, ratio, if_then}
use Rattle.roots.specs.Roots.{root32}
use Rattle.rotations.specs.Formats.{QuatF32, Mat3F32}

-- (x, y, z, w) times 0.5/√p (C13)
unfoldable pub halved_by : Float → Float → Float → Float → Float → QuatF32
halved_by p x y z w =
    let k = ratio 1 2 ⧄ root32 p in
    record { x = x ⊠ k; y = y ⊠ k; z = z ⊠ k; w = w ⊠ k }

-- p and the four numbers that it goes with, (x, y, z, w), handed to f: whichever of four m22, and then d or s, choose
unfoldable pub by_rule : {A : Type 0} → (Float → Float → Float → Float → Float → A) → Mat3F32 → A
by_rule f m =
    let m00 = (m.x).x in let m01 = (m.x).y in let m02 = (m.x).z in
    let m10 = (m.y).x in let m11 = (m.y).y in let m12 = (m.y).z in
    let m20 = (m.z).x in let m21 = (m.z).y in let m22 = (m.z).z in
    let d = m11 ⊟ m00 in
    let s = m11 ⊞ m00 in
    if_then (le m22 (num 0))
    (let k = num 1 ⊟ m22 in
    if_then (le d (num 0))
    (f (k ⊟ d) (k ⊟ d) (m01 ⊞ m10) (m02 ⊞ m20) (m12 ⊟ m21))
    (f (k ⊞ d) (m01 ⊞ m10) (k ⊞ d) (m12 ⊞ m21) (m20 ⊟ m02)))
    (let k = num 1 ⊞ m22 in
    if_then (le s (num 0))
    (f (k ⊟ s) (m02 ⊞ m20) (m12 ⊞ m21) (k ⊟ s) (m01 ⊟ m10))
    (f (k ⊞ s) (m12 ⊟ m21) (m20 ⊟ m02) (m01 ⊟ m10) (k ⊞ s)))

unfoldable pub quat_of_matrix : Mat3F32 → QuatF32
quat_of_matrix m = by_rule halved_by m

unfoldable pub p_of : Mat3F32 → Float
p_of m = by_rule (λ p x y z w. p) m

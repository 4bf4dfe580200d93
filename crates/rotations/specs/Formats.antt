-- The shapes of rotation arithmetic by the format of their numbers, as document 01 tells them apart: f64 while it works, f32 as it is kept. (A value is a
-- value: an f32 is one of the floats.) Definitions only.
use Rattle.std.specs.Prelude.{Float}
use Rattle.rotations.specs.declared.Vec3.{Vec3 as Vec3·of}
use Rattle.rotations.specs.declared.Quat.{Quat as Quat·of}
use Rattle.rotations.specs.declared.Mat3.{Mat3 as Mat3·of}
use Rattle.rotations.specs.declared.Transform.{Transform as Transform·of}

-- in f64
abbrev pub Vec3 : Type 0
Vec3 = Vec3·of Float

abbrev pub Quat : Type 0
Quat = Quat·of Float

-- by columns
abbrev pub Mat3 : Type 0
Mat3 = Mat3·of Float

-- a transform before it is narrowed
abbrev pub Rigid : Type 0
Rigid = Transform·of Float

-- in f32
abbrev pub Vec3F32 : Type 0
Vec3F32 = Vec3·of Float

abbrev pub QuatF32 : Type 0
QuatF32 = Quat·of Float

abbrev pub Mat3F32 : Type 0
Mat3F32 = Mat3·of Float

abbrev pub Transform : Type 0
Transform = Transform·of Float

-- Vectors, matrices, quaternions and transforms (document 01, "Rotation arithmetic"). Every number is an f64 but in a type whose name ends in F32;
-- a product and an inverse finish a transform, narrowed once. Sums go (x + y) + z.
use Rattle.std.specs.Prelude.{Float}
use Rattle.std.specs.Float.Ieee.{neg}
use Rattle.numbers.specs.Notation.{◌⊕◌, ◌⊖◌, ◌⊗◌, ◌⊘◌, num}
use Rattle.rounding.specs.Rounding.{narrowed}
use Rattle.roots.specs.Roots.{root64}
use Rattle.rotations.specs.Formats.{Vec3, Quat, Mat3, Transform, Rigid}

-- x, y and z as a vector
abbrev pub vec : Float → Float → Float → Vec3
vec x y z = record { x = x; y = y; z = z }

-- ---- vectors

-- (x + y) + z
unfoldable pub dot : Vec3 → Vec3 → Float
dot a b = a.x ⊗ b.x ⊕ a.y ⊗ b.y ⊕ a.z ⊗ b.z

unfoldable pub cross : Vec3 → Vec3 → Vec3
cross a b = vec (a.y ⊗ b.z ⊖ a.z ⊗ b.y) (a.z ⊗ b.x ⊖ a.x ⊗ b.z) (a.x ⊗ b.y ⊖ a.y ⊗ b.x)

unfoldable pub plus : Vec3 → Vec3 → Vec3
plus a b = vec (a.x ⊕ b.x) (a.y ⊕ b.y) (a.z ⊕ b.z)

unfoldable pub minus : Vec3 → Vec3
minus a = vec (neg a.x) (neg a.y) (neg a.z)

unfoldable pub times : Float → Vec3 → Vec3
times k a = vec (k ⊗ a.x) (k ⊗ a.y) (k ⊗ a.z)

-- each number of a vector divided by k
unfoldable pub over : Vec3 → Float → Vec3
over a k = vec (a.x ⊘ k) (a.y ⊘ k) (a.z ⊘ k)

-- the length, and the vector divided by it
abbrev pub length_of : Vec3 → Float
length_of a = root64 (dot a a)

abbrev pub unit_vec : Vec3 → Vec3
unit_vec a = over a (length_of a)

-- ---- quaternions and matrices

-- the matrix of a quaternion, by columns
unfoldable pub matrix_of : Quat → Mat3
matrix_of q =
    record {
      x = vec (num 1 ⊖ num 2 ⊗ (q.y ⊗ q.y ⊕ q.z ⊗ q.z)) (num 2 ⊗ (q.x ⊗ q.y ⊕ q.z ⊗ q.w)) (num 2 ⊗ (q.x ⊗ q.z ⊖ q.y ⊗ q.w));
      y = vec (num 2 ⊗ (q.x ⊗ q.y ⊖ q.z ⊗ q.w)) (num 1 ⊖ num 2 ⊗ (q.x ⊗ q.x ⊕ q.z ⊗ q.z)) (num 2 ⊗ (q.y ⊗ q.z ⊕ q.x ⊗ q.w));
      z = vec (num 2 ⊗ (q.x ⊗ q.z ⊕ q.y ⊗ q.w)) (num 2 ⊗ (q.y ⊗ q.z ⊖ q.x ⊗ q.w)) (num 1 ⊖ num 2 ⊗ (q.x ⊗ q.x ⊕ q.y ⊗ q.y));
    }

-- a vector turned by a matrix
unfoldable pub turned : Mat3 → Vec3 → Vec3
turned m v =
    vec
    ((m.x).x ⊗ v.x ⊕ (m.y).x ⊗ v.y ⊕ (m.z).x ⊗ v.z)
    ((m.x).y ⊗ v.x ⊕ (m.y).y ⊗ v.y ⊕ (m.z).y ⊗ v.z)
    ((m.x).z ⊗ v.x ⊕ (m.y).z ⊗ v.y ⊕ (m.z).z ⊗ v.z)

-- the columns of b turned by a
unfoldable pub mat_product : Mat3 → Mat3 → Mat3
mat_product a b = record { x = turned a b.x; y = turned a b.y; z = turned a b.z }

-- its rows as columns
unfoldable pub transpose : Mat3 → Mat3
transpose m =
    record {
      x = vec (m.x).x (m.y).x (m.z).x;
      y = vec (m.x).y (m.y).y (m.z).y;
      z = vec (m.x).z (m.y).z (m.z).z;
    }

unfoldable pub conjugate : Quat → Quat
conjugate q = record { x = neg q.x; y = neg q.y; z = neg q.z; w = q.w }

-- Hamilton's product (C1)
unfoldable pub quat_product : Quat → Quat → Quat
quat_product a b =
    record {
      x = a.w ⊗ b.x ⊕ a.x ⊗ b.w ⊕ a.y ⊗ b.z ⊖ a.z ⊗ b.y;
      y = a.w ⊗ b.y ⊖ a.x ⊗ b.z ⊕ a.y ⊗ b.w ⊕ a.z ⊗ b.x;
      z = a.w ⊗ b.z ⊕ a.x ⊗ b.y ⊖ a.y ⊗ b.x ⊕ a.z ⊗ b.w;
      w = a.w ⊗ b.w ⊖ a.x ⊗ b.x ⊖ a.y ⊗ b.y ⊖ a.z ⊗ b.z;
    }

-- ---- transforms

-- a transform's numbers in f64
unfoldable pub wide : Transform → Rigid
wide a =
    record {
      q = record { x = (a.q).x; y = (a.q).y; z = (a.q).z; w = (a.q).w };
      t = vec (a.t).x (a.t).y (a.t).z;
    }

-- and back, each number narrowed once
unfoldable pub finished : Rigid → Transform
finished a =
    record {
      q = record { x = narrowed (a.q).x; y = narrowed (a.q).y; z = narrowed (a.q).z; w = narrowed (a.q).w };
      t = record { x = narrowed (a.t).x; y = narrowed (a.t).y; z = narrowed (a.t).z };
    }

-- each number of a vector and of a quaternion narrowed: the numbers that a transform would hold, as f64
unfoldable pub rounded_vec : Vec3 → Vec3
rounded_vec v = vec (narrowed v.x) (narrowed v.y) (narrowed v.z)

unfoldable pub rounded_quat : Quat → Quat
rounded_quat q = record { x = narrowed q.x; y = narrowed q.y; z = narrowed q.z; w = narrowed q.w }

-- a · b
unfoldable pub product : Transform → Transform → Transform
product a b =
    let u = wide a in
    let v = wide b in
    finished (record { q = quat_product u.q v.q; t = plus (turned (matrix_of u.q) v.t) u.t })

-- a⁻¹: the conjugate, and the translation turned by it and negated (C2)
unfoldable pub inverse : Transform → Transform
inverse a =
    let u = wide a in
    let q = conjugate u.q in
    finished (record { q = q; t = minus (turned (matrix_of q) u.t) })

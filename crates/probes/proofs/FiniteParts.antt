-- What a finite number was worked out from is finite: the parts of a sum, a product and a narrowed number. So a matrix is finite where the matrix
-- of its quaternion is, and before it is narrowed where it is after. Assumes nothing.
use mathlib.Core.Path.{◌≡◌, refl, sym}
use mathlib.Core.Bool.{Bool, true, false, ◌&&◌, true≢false, cond}
use lib.Dec.{eqb}
use lib.Ieee.{Float, nan, inf, fin, Format, binary32, binary64, unlike, add, sub, mul, neg}
use lib.Ieee.Scale.{finite}
use Rattle.numbers.specs.Notation.{◌⊕◌, ◌⊖◌, ◌⊗◌, ◌⊞◌, ◌⊟◌, num, if_then}
use Rattle.rounding.specs.Rounding.{rounded, narrowed}
use Rattle.numbers.proofs.Tests.{and_first, and_second}
use Rattle.rotations.specs.Rotation.{matrix_of, wide}
use Rattle.rotations.specs.FromMatrix.{by_rule, halved_by, quat_of_matrix}
use Rattle.rotations.specs.Formats.{Vec3, Mat3, Quat, QuatF32, Mat3F32}
use Rattle.pose_conversion.specs.Conversions.{finite3, vec_f32, mat_f32, rebuilt}
use Rattle.probes.specs.Stances.{finite_matrix, turned_by}

-- x is finite; x and y are
record Fine (x : Float) : Type 0 where
  holds : finite x ≡ true

abbrev Both : Float → Float → Type 0
Both x y = Fine x × Fine y

none : {A : Type 0} → false ≡ true → A
none h = absurd (true≢false (sym h))

-- ---- one operation

of_rounded : (f : Format) (x : Float) → Fine (rounded f x) → Fine x
unfolding rounded
of_rounded f nan h = none h.holds
of_rounded f (inf s) h = none h.holds
of_rounded f (fin s m e) h = record { holds = refl }

of_sum : (f : Format) (x y : Float) → Fine (add f x y) → Both x y
unfolding add
of_sum f nan y h = none h.holds
of_sum f (inf s) nan h = none h.holds
of_sum f (inf true) (inf true) h = none h.holds
of_sum f (inf true) (inf false) h = none h.holds
of_sum f (inf false) (inf true) h = none h.holds
of_sum f (inf false) (inf false) h = none h.holds
of_sum f (inf s) (fin t n d) h = none h.holds
of_sum f (fin s m e) nan h = none h.holds
of_sum f (fin s m e) (inf t) h = none h.holds
of_sum f (fin s m e) (fin t n d) h = (record { holds = refl }, record { holds = refl })

of_neg : (x : Float) → Fine (neg x) → Fine x
unfolding neg
of_neg nan h = none h.holds
of_neg (inf s) h = none h.holds
of_neg (fin s m e) h = record { holds = refl }

of_difference : (f : Format) (x y : Float) → Fine (sub f x y) → Both x y
unfolding sub
of_difference f x y h = let b = of_sum f x (neg y) h in (b.0, of_neg y b.1)

infinite_times : {A : Type 0} (z s : Bool) → Fine (cond z nan (inf s)) → A
infinite_times true s h = none h.holds
infinite_times false s h = none h.holds

of_product : (f : Format) (x y : Float) → Fine (mul f x y) → Both x y
unfolding mul
of_product f nan y h = none h.holds
of_product f (inf s) nan h = none h.holds
of_product f (inf s) (inf t) h = none h.holds
of_product f (inf s) (fin t n d) h = infinite_times (eqb n 0) (unlike s t) h
of_product f (fin s m e) nan h = none h.holds
of_product f (fin s m e) (inf t) h = infinite_times (eqb m 0) (unlike s t) h
of_product f (fin s m e) (fin t n d) h = (record { holds = refl }, record { holds = refl })

-- ---- the matrix of a quaternion

-- the first two of the first column, and the second of the second
three_of : (a b c d e f g : Bool) → ((a && (b && c)) && ((d && (e && f)) && g)) ≡ true → (a ≡ true) × ((b ≡ true) × (e ≡ true))
three_of a b c d e f g h =
    let first = and_first (a && (b && c)) ((d && (e && f)) && g) h in
    let second = and_first (d && (e && f)) g (and_second (a && (b && c)) ((d && (e && f)) && g) h) in
    (and_first a (b && c) first, (and_first b c (and_second a (b && c) first), and_first e f (and_second d (e && f) second)))

abbrev FineThree : Mat3F32 → Type 0
FineThree m = Fine (m.x).x × (Fine (m.x).y × Fine (m.y).y)

three_fine : (m : Mat3F32) → finite_matrix m ≡ true → FineThree m
unfolding finite_matrix
three_fine m h =
    let t =
    three_of (finite (m.x).x) (finite (m.x).y) (finite (m.x).z) (finite (m.y).x) (finite (m.y).y) (finite (m.y).z)
    (finite3 (m.z).x (m.z).y (m.z).z) h in
    (record { holds = t.0 }, (record { holds = t.1.0 }, record { holds = t.1.1 }))

record Four (x y z w : Float) : Type 0 where
  x_fine : Fine x
  y_fine : Fine y
  z_fine : Fine z
  w_fine : Fine w

-- 2 (a b + c d)
of_doubled : (a b c d : Float) → Fine (num 2 ⊗ (a ⊗ b ⊕ c ⊗ d)) → Both b d
of_doubled a b c d h =
    let s = of_sum binary64 (a ⊗ b) (c ⊗ d) (of_product binary64 (num 2) (a ⊗ b ⊕ c ⊗ d) h).1 in
    ((of_product binary64 a b s.0).1, (of_product binary64 c d s.1).1)

-- 1 - 2 (a b + c d)
of_less : (a b c d : Float) → Fine (num 1 ⊖ num 2 ⊗ (a ⊗ b ⊕ c ⊗ d)) → Both b d
of_less a b c d h = of_doubled a b c d (of_difference binary64 (num 1) (num 2 ⊗ (a ⊗ b ⊕ c ⊗ d)) h).1

of_matrix : (q : Quat) → finite_matrix (mat_f32 (matrix_of q)) ≡ true → Four q.x q.y q.z q.w
unfolding mat_f32 vec_f32 matrix_of
of_matrix q h = go (three_fine (mat_f32 (matrix_of q)) h)
  where
    go : FineThree (mat_f32 (matrix_of q)) → Four q.x q.y q.z q.w
    go t =
        let yz = of_less q.y q.y q.z q.z (of_rounded binary32 _ t.0) in
        let yw = of_doubled q.x q.y q.z q.w (of_rounded binary32 _ t.1.0) in
        let xz = of_less q.x q.x q.z q.z (of_rounded binary32 _ t.1.1) in
        record { x_fine = xz.0; y_fine = yz.0; z_fine = yz.1; w_fine = yw.1 }

-- ---- the quaternion of a matrix

abbrev FineQuat : QuatF32 → Type 0
FineQuat q = Four q.x q.y q.z q.w

of_halved : (p x y z w : Float) → FineQuat (halved_by p x y z w) → Four x y z w
unfolding halved_by
of_halved p x y z w h =
    record {
      x_fine = (of_product binary32 x _ h.x_fine).0;
      y_fine = (of_product binary32 y _ h.y_fine).0;
      z_fine = (of_product binary32 z _ h.z_fine).0;
      w_fine = (of_product binary32 w _ h.w_fine).0;
    }

-- by whichever of four
by_four : {A R : Type 0} (P : A → Type 0) (a b c : Bool) (q r s t : A) → (P q → R) → (P r → R) → (P s → R) → (P t → R)
    → P (if_then a (if_then b q r) (if_then c s t)) → R
unfolding if_then
by_four P true true c q r s t f g h k x = f x
by_four P true false c q r s t f g h k x = g x
by_four P false b true q r s t f g h k x = h x
by_four P false b false q r s t f g h k x = k x

plus_parts : (x y : Float) → Fine (x ⊞ y) → Both x y
plus_parts x y h = of_sum binary32 x y h

less_parts : (x y : Float) → Fine (x ⊟ y) → Both x y
less_parts x y h = of_difference binary32 x y h

module _ (m : Mat3F32) where
  -- the three numbers of the diagonal, and the pairs across it
  all_nine : Fine (m.z).z → Both (m.y).y (m.x).x → Both (m.x).y (m.y).x → Both (m.x).z (m.z).x → Both (m.y).z (m.z).y
      → finite_matrix m ≡ true
  unfolding finite_matrix
  all_nine c ba d e f = rw (c.holds, ba.0.holds, ba.1.holds, d.0.holds, d.1.holds, e.0.holds, e.1.holds, f.0.holds, f.1.holds)

  swapped : {x y : Float} → Both x y → Both y x
  swapped b = (b.1, b.0)

  of_quaternion : FineQuat (quat_of_matrix m) → finite_matrix m ≡ true
  unfolding quat_of_matrix by_rule
  of_quaternion =
      by_four FineQuat _ _ _ _ _ _ _
      (λ h. let v = of_halved _ _ _ _ _ h in
      let kd = less_parts _ _ v.x_fine in
      all_nine (less_parts _ _ kd.0).1 (less_parts _ _ kd.1) (plus_parts _ _ v.y_fine) (plus_parts _ _ v.z_fine)
      (less_parts _ _ v.w_fine))
      (λ h. let v = of_halved _ _ _ _ _ h in
      let kd = plus_parts _ _ v.y_fine in
      all_nine (less_parts _ _ kd.0).1 (less_parts _ _ kd.1) (plus_parts _ _ v.x_fine) (swapped (less_parts _ _ v.w_fine))
      (plus_parts _ _ v.z_fine))
      (λ h. let v = of_halved _ _ _ _ _ h in
      let ks = less_parts _ _ v.z_fine in
      all_nine (plus_parts _ _ ks.0).1 (plus_parts _ _ ks.1) (less_parts _ _ v.w_fine) (plus_parts _ _ v.x_fine)
      (plus_parts _ _ v.y_fine))
      (λ h. let v = of_halved _ _ _ _ _ h in
      let ks = plus_parts _ _ v.w_fine in
      all_nine (plus_parts _ _ ks.0).1 (plus_parts _ _ ks.1) (less_parts _ _ v.z_fine) (swapped (less_parts _ _ v.y_fine))
      (less_parts _ _ v.x_fine))

  pub finite_again : finite_matrix (rebuilt (turned_by (quat_of_matrix m))) ≡ true → finite_matrix m ≡ true
  unfolding rebuilt wide
  finite_again h =
      let v = of_matrix (wide (turned_by (quat_of_matrix m))).q h in
      of_quaternion (record { x_fine = v.x_fine; y_fine = v.y_fine; z_fine = v.z_fine; w_fine = v.w_fine })

-- ---- narrowed vectors and matrices

and_both : (a b c d : Bool) → (a ≡ true → c ≡ true) → (b ≡ true → d ≡ true) → (a && b) ≡ true → (c && d) ≡ true
and_both a b c d f g h = rw (f (and_first a b h), g (and_second a b h))

of_narrowed : (x : Float) → finite (narrowed x) ≡ true → finite x ≡ true
of_narrowed x h = (of_rounded binary32 x (record { holds = h })).holds

pub vector_first : (v : Vec3) → (let n = vec_f32 v in finite3 n.x n.y n.z) ≡ true → finite3 v.x v.y v.z ≡ true
unfolding vec_f32
vector_first v =
    and_both (finite (narrowed v.x)) (finite (narrowed v.y) && finite (narrowed v.z)) (finite v.x) (finite v.y && finite v.z) (of_narrowed v.x)
    (and_both (finite (narrowed v.y)) (finite (narrowed v.z)) (finite v.y) (finite v.z) (of_narrowed v.y) (of_narrowed v.z))

abbrev tests : Vec3 → Bool
tests v = finite3 v.x v.y v.z

abbrev narrow_tests : Vec3 → Bool
narrow_tests v = let n = vec_f32 v in finite3 n.x n.y n.z

pub matrix_first : (m : Mat3) → finite_matrix (mat_f32 m) ≡ true
    → (finite3 (m.x).x (m.x).y (m.x).z && (finite3 (m.y).x (m.y).y (m.y).z && finite3 (m.z).x (m.z).y (m.z).z)) ≡ true
unfolding finite_matrix mat_f32
matrix_first m =
    and_both (narrow_tests m.x) (narrow_tests m.y && narrow_tests m.z) (tests m.x) (tests m.y && tests m.z) (vector_first m.x)
    (and_both (narrow_tests m.y) (narrow_tests m.z) (tests m.y) (tests m.z) (vector_first m.y) (vector_first m.z))

-- exp of a probe's step is what `step_quat` and `step_shift` say, and its numbers are finite: each of the twelve steps computed by antt. Assumes nothing.
use Prim.Native.Nat.{ℕ, zero, suc, ◌<◌}
use native.Mathlib.Omega.{arith}
use Rattle.std.specs.Prelude.{None, Option, Some}
use mathlib.Core.Path.{◌≡◌, refl, ap}
use mathlib.Core.Bool.{Bool, true, false, not, ◌&&◌}
use lib.Dec.{T, eqb, eqb→eq}
use lib.IntN.{ℤ, pos, negsuc}
use lib.Ieee.{Float, nan, inf, fin, add, sub, mul, div, neg, lt}
use lib.Ieee.Scale.{finite}
use lib.Ieee.Fits.{and_l, and_r}
use Rattle.numbers.specs.Notation.{ratio, ratio32, if_then, number_at}
use Rattle.rounding.specs.Rounding.{rounded}
use Rattle.numbers.specs.Walks.{every}
use Rattle.numbers.proofs.Tests.{and_first}
use Rattle.rotations.specs.Rotation.{vec, dot, cross, plus, times, finished, over}
use Rattle.exp_log.specs.ExpLog.{series, squared, squarings, sine_series, cosine_series, turn_by, small_bend, bend, bent, turning, turn_of, moved_by, exp_of}
use Rattle.rotations.specs.Formats.{QuatF32, Vec3F32, Transform}
use Rattle.probes.specs.Probes.{nudge, step_size}
use Rattle.probes.specs.Stances.{step_quat, step_shift, step_by}

-- exp of a step along axis c
abbrev exp_step : ℕ → Bool → Option Transform
exp_step c ahead = let δ = nudge c (step_size ahead) in exp_of (vec (number_at δ 0) (number_at δ 1) (number_at δ 2)) (vec (number_at δ 3) (number_at δ 4) (number_at δ 5))

-- ---- whether a float is another, and a transform: a test, so that antt computes both sides

abbrev same_sign : Bool → Bool → Bool
same_sign true t = t
same_sign false t = not t

abbrev same_power : ℤ → ℤ → Bool
same_power (pos m) (pos n) = eqb m n
same_power (pos m) (negsuc n) = false
same_power (negsuc m) (pos n) = false
same_power (negsuc m) (negsuc n) = eqb m n

abbrev same : Float → Float → Bool
same nan y = false
same (inf s) y = false
same (fin s m e) nan = false
same (fin s m e) (inf t) = false
same (fin s m e) (fin t n k) = same_sign s t && (eqb m n && same_power e k)

sign_eq : (s t : Bool) → T (same_sign s t) → s ≡ t
sign_eq true true h = refl
sign_eq true false h = absurd h
sign_eq false true h = absurd h
sign_eq false false h = refl

power_eq : (e k : ℤ) → T (same_power e k) → e ≡ k
power_eq (pos m) (pos n) h = ap pos (eqb→eq m n h)
power_eq (pos m) (negsuc n) h = absurd h
power_eq (negsuc m) (pos n) h = absurd h
power_eq (negsuc m) (negsuc n) h = ap negsuc (eqb→eq m n h)

same_eq : (x y : Float) → T (same x y) → x ≡ y
same_eq nan y h = absurd h
same_eq (inf s) y h = absurd h
same_eq (fin s m e) nan h = absurd h
same_eq (fin s m e) (inf t) h = absurd h
same_eq (fin s m e) (fin t n k) h =
    let r = and_r (same_sign s t) _ h in
    let p = sign_eq s t (and_l (same_sign s t) _ h) in
    let q = eqb→eq m n (and_l (eqb m n) _ r) in
    let u = power_eq e k (and_r (eqb m n) _ r) in
    rw (p, q, u)

abbrev four : QuatF32 → QuatF32 → Bool
four a b = same a.x b.x && (same a.y b.y && (same a.z b.z && same a.w b.w))

abbrev three : Vec3F32 → Vec3F32 → Bool
three a b = same a.x b.x && (same a.y b.y && same a.z b.z)

abbrev is : Option Transform → Transform → Bool
is (Some a) b = four a.q b.q && three a.t b.t
is None b = false

four_eq : (a b : QuatF32) → T (four a b) → a ≡ b
four_eq a b h =
    let g = and_r (same a.x b.x) _ h in
    let k = and_r (same a.y b.y) _ g in
    let x = same_eq a.x b.x (and_l (same a.x b.x) _ h) in
    let y = same_eq a.y b.y (and_l (same a.y b.y) _ g) in
    let z = same_eq a.z b.z (and_l (same a.z b.z) _ k) in
    let w = same_eq a.w b.w (and_r (same a.z b.z) _ k) in
    λ i. record { x = x i; y = y i; z = z i; w = w i }

three_eq : (a b : Vec3F32) → T (three a b) → a ≡ b
three_eq a b h =
    let g = and_r (same a.x b.x) _ h in
    let x = same_eq a.x b.x (and_l (same a.x b.x) _ h) in
    let y = same_eq a.y b.y (and_l (same a.y b.y) _ g) in
    let z = same_eq a.z b.z (and_r (same a.y b.y) _ g) in
    λ i. record { x = x i; y = y i; z = z i }

is_eq : (m : Option Transform) (b : Transform) → T (is m b) → m ≡ Some b
is_eq (Some a) b h =
    let q = four_eq a.q b.q (and_l (four a.q b.q) _ h) in
    let t = three_eq a.t b.t (and_r (four a.q b.q) _ h) in
    λ i. Some (record { q = q i; t = t i })
is_eq None b h = absurd h

-- ---- the twelve steps

-- a claim of each axis
abbrev Sixfold : (ℕ → Bool → Type 0) → Bool → Type 0
Sixfold P ahead = P 0 ahead × P 1 ahead × P 2 ahead × P 3 ahead × P 4 ahead × P 5 ahead

each_axis : (P : ℕ → Bool → Type 0) → ((ahead : Bool) → Sixfold P ahead) → (c : ℕ) → c < 6 → (ahead : Bool) → P c ahead
each_axis P all zero l ahead = (all ahead).0
each_axis P all (suc zero) l ahead = (all ahead).1
each_axis P all (suc (suc zero)) l ahead = (all ahead).2
each_axis P all (suc (suc (suc zero))) l ahead = (all ahead).3
each_axis P all (suc (suc (suc (suc zero)))) l ahead = (all ahead).4
each_axis P all (suc (suc (suc (suc (suc zero))))) l ahead = (all ahead).5
each_axis P all (suc (suc (suc (suc (suc (suc c)))))) l ahead = absurd (omega arith)

exp_steps : (ahead : Bool) → Sixfold (λ c b. T (is (exp_step c b) (step_by c b))) ahead
unfolding step_quat step_shift ratio ratio32 if_then add sub mul div neg lt rounded dot cross plus times finished
    over series squared squarings sine_series cosine_series turn_by small_bend bend bent turning turn_of moved_by exp_of
exp_steps true = (tt, tt, tt, tt, tt, tt)
exp_steps false = (tt, tt, tt, tt, tt, tt)

pub exp_step_lem : (c : ℕ) → c < 6 → (ahead : Bool) → exp_step c ahead ≡ Some (step_by c ahead)
exp_step_lem c l ahead = is_eq _ _ (each_axis (λ c b. T (is (exp_step c b) (step_by c b))) exp_steps c l ahead)

-- ---- a step's numbers are finite: all six, and so the first four

abbrev finite_step : ℕ → ℕ → Bool → Bool
finite_step n c ahead = every (λ j. finite (number_at (nudge c (step_size ahead)) j)) n

finite_steps : (ahead : Bool) → Sixfold (λ c b. finite_step 6 c b ≡ true) ahead
unfolding every ratio ratio32 neg
finite_steps true = (refl, refl, refl, refl, refl, refl)
finite_steps false = (refl, refl, refl, refl, refl, refl)

pub finite_step_lem : (c : ℕ) → c < 6 → (ahead : Bool) → finite_step 6 c ahead ≡ true
finite_step_lem = each_axis (λ c ahead. finite_step 6 c ahead ≡ true) finite_steps

pub finite_step_four : (c : ℕ) → c < 4 → (ahead : Bool) → finite_step 4 c ahead ≡ true
unfolding every
finite_step_four c l ahead = and_first _ _ (and_first _ _ (finite_step_lem c (omega arith) ahead))

-- exp and log (document 01, "Rotation arithmetic"), all in f64; a transform or a twist is narrowed once, at the end.
use Rattle.std.specs.Prelude.{ℕ, zero, suc, List, [], ◌∷◌, Float, None, Option, Some}
use Rattle.std.specs.Float.Ieee.{neg, lt}
use Rattle.numbers.specs.Notation.{◌⊕◌, ◌⊖◌, ◌⊗◌, ◌⊘◌, num, ratio, if_then}
use Rattle.rounding.specs.Rounding.{narrowed}
use Rattle.roots.specs.Roots.{root64}
use Rattle.rotations.specs.Rotation.{vec, dot, over, cross, plus, times, wide, finished}
use Rattle.rotations.specs.Formats.{Vec3, Quat, Transform}
use Rattle.exp_log.specs.Formats.{Twist, WideTwist}
use Rattle.exp_log.specs.declared.Bend.{Bend}

-- v and w as a quaternion, and its v
abbrev pub quat : Vec3 → Float → Quat
quat v w = record { x = v.x; y = v.y; z = v.z; w = w }

abbrev pub axis : Quat → Vec3
axis q = vec q.x q.y q.z

-- Σ cₖ xᵏ by Horner's rule, c₀ first: c₀ + x (c₁ + x (c₂ + ..)) (C3)
unfoldable pub series : Float → Float → List Float → Float
series x c [] = c
series x c (d ∷ ds) = c ⊕ x ⊗ series x d ds

-- ---- exp

-- a turn twice as far: (2wv, w² − v·v) (C10)
unfoldable pub squared : Quat → Quat
squared q = quat (times (num 2 ⊗ q.w) (axis q)) (q.w ⊗ q.w ⊖ dot (axis q) (axis q))

-- n squarings
unfoldable pub squarings : ℕ → Quat → Quat
squarings zero q = q
squarings (suc n) q = squared (squarings n q)

-- Σ tᵏ/(2k+1)! and Σ tᵏ/(2k)!, k to 5
unfoldable pub sine_series : Float → Float
sine_series t = series t (num 1) (ratio 1 6 ∷ ratio 1 120 ∷ ratio 1 5040 ∷ ratio 1 362880 ∷ ratio 1 39916800 ∷ [])

unfoldable pub cosine_series : Float → Float
cosine_series t = series t (num 1) (ratio 1 2 ∷ ratio 1 24 ∷ ratio 1 720 ∷ ratio 1 40320 ∷ ratio 1 3628800 ∷ [])

-- the turn by ω: at h = ω/256 by the series in −h·h, then squared seven times
unfoldable pub turn_by : Vec3 → Quat
turn_by ω =
    let h = over ω (num 256) in
    let t = neg (dot h h) in
    squarings 7 (quat (times (sine_series t) h) (cosine_series t))

-- B = (1−cos θ)/θ² and C = (θ−sin θ)/θ³ of a turn q by ω, θ² = ω·ω. sin(θ/2) is v·ω/θ, so 1 − cos θ is 2 sin²(θ/2) and sin θ is 2 sin(θ/2) w.
-- Below θ² = 1/256, strictly (T6): B = 1/2 − θ²/24 + θ⁴/720, C = 1/6 − θ²/120 + θ⁴/5040.
unfoldable pub small_bend : Float → Bend
small_bend θ² =
    record {
      b = series θ² (ratio 1 2) (neg (ratio 1 24) ∷ ratio 1 720 ∷ []);
      c = series θ² (ratio 1 6) (neg (ratio 1 120) ∷ ratio 1 5040 ∷ []);
    }

-- from θ² = 1/256 on: sin(θ/2) by C4, B by C5, C by C6
unfoldable pub large_bend : Float → Quat → Vec3 → Bend
large_bend θ² q ω =
    let θ = root64 θ² in
    let sine = dot (axis q) ω ⊘ θ in
    record {
      b = num 2 ⊗ sine ⊗ sine ⊘ θ²;
      c = (θ ⊖ num 2 ⊗ sine ⊗ q.w) ⊘ (θ² ⊗ θ);
    }

unfoldable pub bend : Quat → Vec3 → Bend
bend q ω =
    let θ² = dot ω ω in
    if_then (lt θ² (ratio 1 256)) (small_bend θ²) (large_bend θ² q ω)

-- (a + k (ω × a)) + l (ω × (ω × a)): a vector by I + k[ω] + l[ω]² (C7)
unfoldable pub bent : Vec3 → Float → Float → Vec3 → Vec3
bent ω k l a = plus (plus a (times k (cross ω a))) (times l (cross ω (cross ω a)))

-- how a definition goes on with an exp, of a turn alone or of a twist: next, or failed where it is past reach
unfoldable pub turning : {A : Type 0} → Option Quat → (Quat → A) → A → A
turning (Some q) next failed = next q
turning None next failed = failed

unfoldable pub moving : {A : Type 0} → Option Transform → (Transform → A) → A → A
moving (Some e) next failed = next e
moving None next failed = failed

-- exp of a turn alone stays f64: fails if ω·ω > 4096, and for nothing else (T7)
unfoldable pub turn_of : Vec3 → Option Quat
turn_of ω = if_then (lt (num 4096) (dot ω ω)) None (Some (turn_by ω))

-- exp of a twist, translation ρ and turn ω: a turn by ω, and the translation (I + B[ω] + C[ω]²) ρ
unfoldable pub moved_by : Vec3 → Vec3 → Quat → Transform
moved_by ρ ω q = let k = bend q ω in finished (record { q = q; t = bent ω k.b k.c ρ })

unfoldable pub exp_of : Vec3 → Vec3 → Option Transform
exp_of ρ ω = turning (turn_of ω) (λ q. Some (moved_by ρ ω q)) None

-- ---- log

-- the same turn with w ≥ 0 (T4)
unfoldable pub upright : Quat → Quat
upright q = if_then (lt q.w (num 0)) (record { x = neg q.x; y = neg q.y; z = neg q.z; w = neg q.w }) q

-- half the angle: (v, w + |q|) (C9)
unfoldable pub halved : Quat → Quat
halved q = quat (axis q) (q.w ⊕ root64 (dot (axis q) (axis q) ⊕ q.w ⊗ q.w))

-- Σ tᵏ/(2k+1), k to 7
unfoldable pub arc_series : Float → Float
arc_series t =
    series t (num 1) (ratio 1 3 ∷ ratio 1 5 ∷ ratio 1 7 ∷ ratio 1 9 ∷ ratio 1 11 ∷ ratio 1 13 ∷ ratio 1 15 ∷ [])

-- ω of an upright quaternion: halved three times, a = v/w, then (16 a) Σ(−a·a)ᵏ/(2k+1) (C11)
unfoldable pub angle_of : Quat → Vec3
angle_of q =
    let h = halved (halved (halved q)) in
    let a = over (axis h) h.w in
    times (arc_series (neg (dot a a))) (times (num 16) a)

-- D of an upright quaternion and its ω (C8, T6)
unfoldable pub unbend : Quat → Vec3 → Float
unbend q ω =
    let θ² = dot ω ω in
    if_then (lt θ² (ratio 1 256))
    (series θ² (ratio 1 12) (ratio 1 720 ∷ ratio 1 30240 ∷ []))
    ((num 1 ⊖ root64 θ² ⊘ num 2 ⊗ q.w ⊘ root64 (dot (axis q) (axis q))) ⊘ θ²)

-- log of a transform, in f64: the translation and ω
unfoldable pub log_wide : Transform → WideTwist
log_wide a =
    let u = wide a in
    let q = upright u.q in
    let ω = angle_of q in
    record { t = bent ω (neg (ratio 1 2)) (unbend q ω) u.t; r = ω }

unfoldable pub narrowed_twist : WideTwist → Twist
narrowed_twist d =
    record {
      t = record { x = narrowed (d.t).x; y = narrowed (d.t).y; z = narrowed (d.t).z };
      r = record { x = narrowed (d.r).x; y = narrowed (d.r).y; z = narrowed (d.r).z };
    }

-- its six numbers narrowed (T5)
unfoldable pub log_of : Transform → Twist
log_of a = narrowed_twist (log_wide a)

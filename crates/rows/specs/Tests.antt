-- What the rows of the table of refusals ask: document 01, "What is turned down, and in what order"; and its rows 15 to 19 whole. Definitions only.
use Rattle.std.specs.Prelude.{ℕ, ◌*◌, ◌%◌, Bool, false, not, ◌||◌, List, [], ◌∷◌, get_or, eqb, ltb, leb, Float}
use Rattle.std.specs.Float.Ieee.{lt, le}
use Rattle.std.specs.Float.Ieee.Scale.{finite}
use Rattle.numbers.specs.Notation.{num, ratio}
use Rattle.numbers.specs.Refusals.{Fault, Row, row, fault}
use Rattle.rotations.specs.Rotation.{length_of}
use Rattle.pose_conversion.specs.Conversions.{finite3}
use Rattle.profile.specs.Layout.{need}
use Rattle.decisions.specs.Damping.{lambda_max}
use Rattle.graph.specs.declared.Manifold.{Manifold}
use Rattle.graph.specs.declared.Manifold.TheVariants.{Se3, Gravity}
use Rattle.rows.specs.declared.Settings.{Settings}

-- gravity not finite, its length not finite or at most 1e-9
unfoldable pub bad_gravity : Manifold → Bool
bad_gravity Se3 = false
bad_gravity (Gravity g) = not (finite3 g.x g.y g.z) || (not (finite (length_of g)) || le (length_of g) (ratio 1 1000000000))

-- poses not a multiple of 12, ends not of 2, edge floats not 4 × ends, output length not that of poses
unfoldable pub unfit : ℕ → ℕ → ℕ → ℕ → Bool
unfit poses ends edges out = not (eqb (poses % 12) 0) || (not (eqb (ends % 2) 0) || (not (eqb edges (4 * ends)) || not (eqb out poses)))

-- more than 256 poses, 1,024 edges or 256 fixed entries, repeats counted as given (T3)
unfoldable pub too_many : ℕ → ℕ → ℕ → Bool
too_many poses edges fixed = ltb 256 poses || (ltb 1024 edges || ltb 256 fixed)

-- the f32 work needs n (n + 3) numbers, the f64 work 24 × poses
unfoldable pub short_work : ℕ → ℕ → ℕ → ℕ → Bool
short_work n poses work32 work64 = ltb work32 (need n) || ltb work64 (24 * poses)

-- not finite or below 0
unfoldable pub bad_tolerance : Float → Bool
bad_tolerance t = not (finite t) || lt t (num 0)

-- not finite, not above 0, or above 1e10
unfoldable pub bad_damping : Float → Bool
bad_damping d = not (finite d) || (not (lt (num 0) d) || lt lambda_max d)

-- ---- rows that go by themselves

-- row 11, entry by entry; its place is the entry's (T1)
abbrev pub fixed_faults : ℕ → List ℕ → List Fault
fixed_faults poses fixed =
    fault 11 (λ k. leb poses (get_or fixed k 0))
    ∷ []

-- rows 15 to 19: limit, tolerances, first damping
abbrev pub setting_rows : Settings → List Row
setting_rows s =
    row 15 (eqb s.limit 0)
    ∷ row 16 (ltb 1000 s.limit)
    ∷ row 17 (bad_tolerance s.cost_tolerance)
    ∷ row 18 (bad_tolerance s.gradient_tolerance)
    ∷ row 19 (bad_damping s.damping)
    ∷ []

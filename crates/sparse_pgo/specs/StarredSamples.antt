-- Document 01, "Sample joins": those marked *, as one statement over a list of cases, each with its answer, that antt computes. Assumes nothing.
use Rattle.std.specs.Prelude.{◌≡◌, refl, false, List, [], ◌∷◌, map, ℕ, negsuc}
use Rattle.std.specs.Float.{fin, binary32}
use Rattle.std.specs.Float.Ieee.{of_bits, to_bits, add, sub, mul, div, neg, lt, le}
use Rattle.numbers.specs.Notation.{num, ratio, ratio32, if_then}
use Rattle.rounding.specs.Rounding.{rounded}
use Rattle.roots.specs.Roots.{rooted}
use Rattle.rounding.specs.Samples.{narrowed_bits}
use Rattle.roots.specs.Samples as roots
use Rattle.rotations.specs.Formats.{Transform}
use Rattle.rotations.specs.Rotation.{dot, cross, plus, times, wide, over}
use Rattle.exp_log.specs.ExpLog.{series, bent, upright, halved, arc_series, angle_of, unbend, log_wide, narrowed_twist, log_of}
use Rattle.exp_log.specs.Samples as exp-log
use Rattle.decisions.specs.Damping.{lambda_max, lambda_min, increased, decreased}
use Rattle.decisions.specs.Run.{one_more, failing, solved, heard, assembled, passed, then_solve, after_turn}
use Rattle.events.specs.Driven.{settled, after_event, driven}
use Rattle.events.specs.Samples as events

pub data Case : Type 0 where
  of_damping : events.Case → Case
  of_narrowing : ℕ → Case
  of_roots : roots.Case → Case
  of_exp_log : exp-log.Case → Case

-- bits of numbers, or a count
unfoldable pub answer : Case → List ℕ
answer (of_damping c) = events.answer c ∷ []
answer (of_narrowing b) = narrowed_bits b ∷ []
answer (of_roots c) = roots.answer c ∷ []
answer (of_exp_log c) = exp-log.answer c

-- a case and what it must give
pub record Sample : Type 0 where
  pub case : Case
  pub gives : List ℕ

abbrev pub damping : events.Case → ℕ → Sample
damping c n = record { case = of_damping c; gives = n ∷ [] }

abbrev pub rooting : roots.Case → ℕ → Sample
rooting c n = record { case = of_roots c; gives = n ∷ [] }

abbrev pub identity : Transform
identity = record { q = record { x = num 0; y = num 0; z = num 0; w = num 1 }; t = record { x = num 0; y = num 0; z = num 0 } }

unfoldable pub starred : List Sample
starred =
    -- damping 1: ten raises give exactly 1e10, the eleventh passes
    damping (events.raised (num 1) 10) (to_bits binary32 lambda_max)
    ∷ damping (events.failed (num 1)) 11
    -- 1e9: two raises; 1e10: one; 2⁻¹⁴⁹: 55
    ∷ damping (events.failed (num 1000000000)) 2
    ∷ damping (events.failed lambda_max) 1
    ∷ damping (events.failed (fin false 1 (negsuc 148))) 55
    -- 1e-20 accepted becomes 1e-10
    ∷ damping (events.lowered (ratio32 1 100000000000000000000)) (to_bits binary32 lambda_min)
    -- √4 = 2, in f32 and in f64; √2 in f32
    ∷ rooting (roots.sqrt32 0x4080_0000) 0x4000_0000
    ∷ rooting (roots.sqrt64 0x4010_0000_0000_0000) 0x4000_0000_0000_0000
    ∷ rooting (roots.sqrt32 0x4000_0000) 0x3fb5_04f3
    -- 2⁻¹⁵⁰ narrows to 0
    ∷ record { case = of_narrowing 0x3690_0000_0000_0000; gives = 0 ∷ [] }
    -- log of the identity is zero
    ∷ record { case = of_exp_log (exp-log.log identity); gives = 0 ∷ 0 ∷ 0 ∷ 0 ∷ 0 ∷ 0 ∷ [] }
    ∷ []

pub starred_hold : map (λ (s : Sample). answer s.case) starred ≡ map (λ (s : Sample). s.gives) starred
unfolding starred answer narrowed_bits roots.answer exp-log.answer events.answer ratio ratio32 if_then add sub mul div neg lt le of_bits to_bits rounded rooted
    increased decreased driven settled after_event after_turn then_solve passed assembled solved heard failing one_more
    dot cross plus times wide over series bent upright halved arc_series angle_of unbend log_wide narrowed_twist log_of
starred_hold = refl

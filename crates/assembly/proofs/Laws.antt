-- The work that an assembly starts from. Assumes nothing.
use mathlib.Core.Path.{◌≡◌, ap, ◌∙◌}
use mathlib.Core.List.{List}
use Prim.Native.Nat.{ℕ, ◌+◌, ◌-◌, ◌<◌, ◌≤◌}
use native.Mathlib.Omega.{arith}
use lib.Ieee.{Float, nan}
use lib.ListN.{length, get_or, replicate, drop, length-append, length-drop, length-replicate, get_or-replicate, get_or-append}
use lib.Seq.{get_or-drop, get_or-append-add}
use Rattle.numbers.specs.Notation.{num}
use Rattle.profile.specs.Layout.{need}
use Rattle.assembly.specs.Assembly.{cleared}

module _ (n : ℕ) (w : List Float) where
  pub cleared_length : need n ≤ length w → length (cleared n w) ≡ length w
  cleared_length h = simp (length-append, length-replicate, length-drop) (omega arith)

  pub cleared_room : need n ≤ length (cleared n w)
  cleared_room = simp (length-append, length-replicate) (omega arith)

  pub cleared_zero : (q : ℕ) → q < need n → get_or (cleared n w) q nan ≡ num 0
  cleared_zero q l =
      get_or-append (replicate (need n) (num 0)) (drop (need n) w) nan q (rw (length-replicate (need n) (num 0)) l)
      ∙ get_or-replicate (need n) q (num 0) nan l

  pub cleared_rest : (q : ℕ) → need n ≤ q → get_or (cleared n w) q nan ≡ get_or w q nan
  cleared_rest q l =
      let e : q ≡ length (replicate (need n) (num 0)) + (q - need n) = rw (length-replicate (need n) (num 0)) (omega arith) in
      let f : need n + (q - need n) ≡ q = omega arith in
      ap (λ k. get_or (cleared n w) k nan) e
      ∙ get_or-append-add (replicate (need n) (num 0)) (drop (need n) w) (q - need n) nan
      ∙ get_or-drop (need n) w (q - need n) nan
      ∙ ap (λ k. get_or w k nan) f

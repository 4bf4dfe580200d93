-- What a job's sizes say of the code's counts: they fit, and the parts lie within the work. Assumes nothing.
use mathlib.Core.Path.{◌≡◌}
use mathlib.Core.List.{List, ◌++◌}
use Prim.Native.Nat.{ℕ, ◌+◌, ◌*◌, ◌-◌, ◌≤◌}
use native.Mathlib.Nat.{mul-le-mul}
use native.Mathlib.Omega.{arith}
use mir.Syntax.{w64}
use mir.Val.{Fits}
use lib.ListN.{length, take, drop, length-append, length-drop}
use lib.Seq.{length-take-le}
use lib.Ieee.{Float}
use Rattle.graph.specs.Lent.{dof_of}
use Rattle.graph.proofs.Degrees.{dof_most}
use Rattle.profile.specs.Layout.{need}
use Rattle.sparse_pgo.specs.declared.Setup.{Setup}
use Rattle.sparse_pgo.specs.forms.Turns.{Sized}

module _ {setup : Setup} {free : ℕ} (s : Sized setup free) where
  pub half_fits : Fits w64 (setup.poses * 12)
  half_fits = omega (arith, s.poses)

  pub half_bytes : Fits w64 (setup.poses * 12 * 8)
  half_bytes = omega (arith, s.poses)

  pub n_most : setup.n ≤ 384
  n_most = let h : dof_of setup.manifold * free ≤ 384 = mul-le-mul (dof_most setup.manifold) s.few in omega (arith, s.unknowns)

-- places in the work of n unknowns
module _ {n : ℕ} (few : n ≤ 384) where
  square_most : n * n ≤ 147456
  square_most = mul-le-mul few few

  pub rows_fit : Fits w64 (n * n)
  rows_fit = omega (arith, square_most)

  pub gradient_fits : Fits w64 (n * n + n)
  gradient_fits = omega (arith, square_most, few)

  pub step_fits : Fits w64 (n * n + n + n)
  step_fits = omega (arith, square_most, few)

  pub gradient_bytes : Fits w64 ((n * n + n) * 4)
  gradient_bytes = omega (arith, square_most, few)

  pub step_bytes : Fits w64 ((n * n + n + n) * 4)
  step_bytes = omega (arith, square_most, few)

-- the step stands within the work of a solve
pub step_within : (n l : ℕ) → l ≡ need n → n * n + n + n ≤ l
step_within n l e = omega arith

pub gradient_before : (n : ℕ) → n * n + n ≤ n * n + n + n
gradient_before n = omega arith

-- the accepted poses stand within the work of the poses
pub half_within : (k l : ℕ) → l ≡ k * 24 → k * 12 ≤ l
half_within k l e = omega arith

-- a prefix that was lent comes back as long as it was
pub put_back : (n : ℕ) (x w : List Float) → n ≤ length w → length x ≡ length (take n w) → length (x ++ drop n w) ≡ length w
put_back n x w h e =
    let g : length (take n w) ≡ n = length-take-le n w h in
    let d : length (drop n w) ≡ length w - n = length-drop n w in
    simp length-append (omega arith)

-- A pose has at most six degrees of freedom. Assumes nothing.
use Prim.Native.Nat.{◌≤◌}
use native.Mathlib.Omega.{arith}
use Rattle.graph.specs.Lent.{dof_of}
use Rattle.graph.specs.declared.Manifold.{Manifold}
use Rattle.graph.specs.declared.Manifold.TheVariants.{Se3, Gravity}

pub dof_most : (m : Manifold) → dof_of m ≤ 6
dof_most Se3 = omega arith
dof_most (Gravity g) = omega arith

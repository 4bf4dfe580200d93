-- The invariant: the rows that have been looked at start where they should.
use mathlib.Core.Path.{◌≡◌}
use Prim.Native.Nat.{ℕ, ◌<◌}
use lib.ListN.{length, get_or}
use Rattle.profile.specs.Starts.{start_of}
use Rattle.profile.proofs.starts.Given as goal

abbrev pub invariant-loop-i : goal.invariant-loop-i
invariant-loop-i l = (length l.f ≡ 384) × ((q : ℕ) → q < l.i → get_or l.f q 0 ≡ start_of l.w l.m q)

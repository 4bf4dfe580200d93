-- Demand 3 over every list of events: what the run's decisions keep, a prepared list keeps. Assumes nothing.
use mathlib.Core.Path.{◌≡◌}
use mathlib.Core.Bool.{true, ◌&&◌}
use mathlib.Core.List.{List, [], ◌∷◌}
use Prim.Native.Nat.{ℕ, ◌≤◌}
use lib.Dec.{T, leb}
use lib.Ieee.{Float, binary32, lt, le, fits}
use Rattle.numbers.specs.Notation.{num}
use Rattle.decisions.specs.Damping.{lambda_max}
use Rattle.decisions.specs.Run.{begun, iterations}
use Rattle.decisions.specs.Demand.{Held}
use Rattle.decisions.specs.Machine.{state_of}
use Rattle.decisions.specs.declared.Assembly.TheVariants as assembly
use Rattle.decisions.specs.declared.Raw.TheVariants as raw
use Rattle.decisions.specs.declared.Next.{Next}
use Rattle.decisions.specs.declared.Next.TheVariants as next
use Rattle.decisions.proofs.Ways.{either}
use Rattle.decisions.proofs.Bounds.{Live, Kept, live_held, turn_keeps, kept_held, begun_live}
use Rattle.events.specs.Driven.{settled, after_event, driven}
use Rattle.events.specs.declared.Event.{Event}
use Rattle.events.specs.declared.Event.TheVariants as event

module _ (limit : ℕ) (tolerance first : Float) where
  settled_keeps : (n : Next) → Kept limit first n → Kept limit first (settled limit n)
  unfolding settled
  settled_keeps (next.On s) h = either (Live limit first) (Held limit first) (s.fresh && leb limit (iterations s)) _ _ (λ e. live_held limit first s h) (λ e. h)
  settled_keeps (next.Over s e) h = h

  after_keeps : (n : Next) (v : Event) → Kept limit first n → Kept limit first (after_event limit tolerance n v)
  unfolding after_event
  after_keeps (next.On s) (event.Assembled a) h = either (Live limit first) (Held limit first) s.fresh _ _ (λ e. turn_keeps limit tolerance first s a raw.Failed h) (λ e. h)
  after_keeps (next.On s) (event.Solved e) h = turn_keeps limit tolerance first s assembly.Steep e h
  after_keeps (next.Over s e) v h = h

  driven_keeps : (n : Next) (vs : List Event) → Kept limit first n → Kept limit first (driven limit tolerance n vs)
  unfolding driven
  driven_keeps n [] h = settled_keeps n h
  driven_keeps n (v ∷ vs) h = driven_keeps (after_event limit tolerance (settled limit n) v) vs (after_keeps (settled limit n) v (settled_keeps n h))

module _ (limit : ℕ) (cost d : Float) (l : limit ≤ 1000) (f : T (fits binary32 d)) (p : lt (num 0) d ≡ true) (u : le d lambda_max ≡ true) where
  pub demand_three : (tolerance : Float) (vs : List Event) → Held limit cost (state_of (driven limit tolerance (next.On (begun cost d)) vs))
  demand_three tolerance vs =
      let n = next.On (begun cost d) in
      kept_held limit cost (driven limit tolerance n vs) (driven_keeps limit tolerance cost n vs (begun_live limit cost d l f p u))

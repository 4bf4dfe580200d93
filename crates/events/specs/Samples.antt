-- What a sample of document 01 on damping asks, and its answer. Definitions only.
use Rattle.std.specs.Prelude.{List, [], ◌∷◌, ℕ, zero, suc, eqb, Float, Err, Ok}
use Rattle.std.specs.Float.{binary32}
use Rattle.std.specs.Float.Ieee.{to_bits}
use Rattle.numbers.specs.Notation.{num, if_then}
use Rattle.decisions.specs.Damping.{increased, decreased}
use Rattle.decisions.specs.Run.{begun}
use Rattle.events.specs.Driven.{driven}
use Rattle.decisions.specs.declared.Raw.TheVariants as raw
use Rattle.events.specs.declared.Event.{Event}
use Rattle.events.specs.declared.Event.TheVariants as event
use Rattle.decisions.specs.declared.Next.{Next}
use Rattle.decisions.specs.declared.Next.TheVariants as next

-- a damping raised so often; a run from a damping whose solves all fail; a damping after an accepted trial
pub data Case : Type 0 where
  raised : Float → ℕ → Case
  failed : Float → Case
  lowered : Float → Case

abbrev pub raised_times : ℕ → Float → Float
raised_times zero d = d
raised_times (suc n) d = raised_times n (increased d)

abbrev pub failures : ℕ → List Event
failures zero = []
failures (suc n) = event.Solved raw.Failed ∷ failures n

-- the failed solves, where these had the run refused by number 22
abbrev pub refused_after : Next → ℕ
refused_after (next.Over s (Err r)) = if_then (eqb r.number 22) s.failed 0
refused_after (next.Over s (Ok w)) = 0
refused_after (next.On s) = 0

-- the damping's bits, or the number of solves
unfoldable pub answer : Case → ℕ
unfolding to_bits increased decreased driven if_then
answer (raised d n) = to_bits binary32 (raised_times n d)
answer (failed d) = refused_after (driven 1000 (num 0) (next.On (begun (num 0) d)) (failures 60))
answer (lowered d) = to_bits binary32 (decreased d)

-- The turns one after the other: what the loop keeps, and what it knows at its end. Assumes nothing.
use Rattle.numbers.specs.declared.Refusal.{Refusal}
use Rattle.decisions.specs.declared.Why.{Why}
use Rattle.std.specs.Prelude.{Result}
use mathlib.Core.Path.{◌≡◌, sym, ap, ◌∙◌, subst}
use mathlib.Core.Bool.{true, false}
use mathlib.Core.List.{List}
use Prim.Native.Nat.{ℕ, ◌+◌, ◌<◌, ◌≤◌}
use native.Mathlib.Omega.{arith}
use denote.Floats.{is_true}
use lib.Dec.{T}
use lib.ListN.{length}
use lib.Ieee.{Float, nan, inf, fin, binary32, lt, le, fits}
use Rattle.numbers.specs.Notation.{num, ratio, ratio32}
use Rattle.graph.specs.Graph.{Links}
use Rattle.graph.specs.declared.Edge.{Edge}
use Rattle.decisions.specs.Damping.{lambda_max}
use Rattle.decisions.specs.Run.{begun}
use Rattle.decisions.specs.Machine.{Play, moved_on, state_of, played}
use Rattle.decisions.specs.declared.State.{State}
use Rattle.decisions.specs.declared.Next.{Next}
use Rattle.decisions.specs.declared.Next.TheVariants as next
use Rattle.numbers.proofs.Order.{unsigned, le_of_not_lt}
use Rattle.decisions.proofs.Going.{Going, turns_left, going_begin, going_on, going_less, going_done}
use Rattle.sparse_pgo.specs.declared.Setup.{Setup}
use Rattle.sparse_pgo.specs.Parts.{numerics}
use Rattle.sparse_pgo.specs.forms.Turns.{parts_in, held_in, Lent, AtTop, Turned, Startable}

-- ---- a first damping that passes row 19 is at most 1e10

above_zero : (d : Float) → T (lt (num 0) d) → T (unsigned d)
unfolding lt ratio
above_zero nan h = absurd h
above_zero (inf true) h = absurd h
above_zero (inf false) h = tt
above_zero (fin true m e) h = absurd h
above_zero (fin false m e) h = tt

most_unsigned : T (unsigned lambda_max)
unfolding ratio32
most_unsigned = tt

pub not_above : (d : Float) → lt (num 0) d ≡ true → lt lambda_max d ≡ false → le d lambda_max ≡ true
not_above d p u = is_true (le d lambda_max) (le_of_not_lt d lambda_max (above_zero d (subst T (sym p) tt)) most_unsigned u)

-- ---- the turns from the first cost on

pub record Iterated (setup : Setup) (l : Links Edge) (cost : Float) (before : List Float) (r : Next) (after : List Float) : Type 0 where
  pub answer : r ≡ (played (numerics (parts_in setup l)) setup.settings.limit setup.settings.cost_tolerance cost setup.settings.damping (held_in setup before)).next
  pub held : held_in setup after ≡ (played (numerics (parts_in setup l)) setup.settings.limit setup.settings.cost_tolerance cost setup.settings.damping (held_in setup before)).held

-- ---- the loop's invariant: the lent work is as long as needed; the system stands in it where it is not to be assembled; and the whole run is what is left of it
-- from here

pub record Turning (setup : Setup) (free : ℕ) (l : Links Edge) (cost : Float) (first w32 w64 : List Float) (s : State) : Type 0 where
  pub lent : Lent setup free w32 w64
  pub holds : AtTop setup l s (held_in setup w64) w32
  pub going : Going (numerics (parts_in setup l)) setup.settings.limit setup.settings.cost_tolerance cost setup.settings.damping (held_in setup first) s (held_in setup w64)

pub turning_begin : {setup : Setup} {free : ℕ} {l : Links Edge} {cost : Float} {w32 w64 : List Float} {s : State} → s ≡ begun cost setup.settings.damping → Lent setup free w32 w64 → Startable setup
    → T (fits binary32 setup.settings.damping) → Turning setup free l cost w64 w32 w64 s
turning_begin {setup} {free} {l} {cost} {w32} {w64} {s} e lent start f =
    record {
      lent = lent;
      holds = λ q. absurd (subst T (sym (ap (λ (z : State). z.fresh) e) ∙ q) tt);
      going =
          rw e
          (going_begin (numerics (parts_in setup l)) setup.settings.limit setup.settings.cost_tolerance cost setup.settings.damping (held_in setup w64)
          start.limited f start.positive (not_above setup.settings.damping start.positive start.bounded));
    }

module _ {setup : Setup} {free : ℕ} {l : Links Edge} {cost : Float} {first w32 w64 : List Float} {s : State} (g : Turning setup free l cost first w32 w64 s) where
  abbrev limit : ℕ
  limit = setup.settings.limit

  abbrev tolerance : Float
  tolerance = setup.settings.cost_tolerance

  abbrev damping : Float
  damping = setup.settings.damping

  -- a count that one more fits
  pub turning_few : s.accepted < 4294967295
  turning_few =
      let a : s.accepted + s.rejected ≤ limit = g.going.live.trials in
      let b : limit ≤ 1000 = g.going.live.limited in
      omega arith

  module _ {w32' w64' : List Float} {r : Next} (h : Turned setup l s w64 r w32' w64') where
    -- what is held then
    held_then_lem : (t : State) → state_of r ≡ t → held_in setup w64' ≡ moved_on s t ((numerics (parts_in setup l)).moved (held_in setup w64) s.damping) (held_in setup w64)
    held_then_lem t e = h.held ∙ ap (λ (z : State). moved_on s z ((numerics (parts_in setup l)).moved (held_in setup w64) s.damping) (held_in setup w64)) e

    module _ {t : State} (e : r ≡ next.On t) where
      pub turning_on : length w64' ≡ length w64 → Turning setup free l cost first w32' w64' t
      turning_on k =
          record {
            lent = record { sized = g.lent.sized; single = h.long; double = k ∙ g.lent.double };
            holds = h.holds t e;
            going =
                rw (held_then_lem t (ap state_of e))
                (going_on (numerics (parts_in setup l)) limit tolerance cost damping (held_in setup first) s (held_in setup w64) g.going t (sym h.answer ∙ e));
          }

      pub turning_less : turns_left setup.settings.limit t < turns_left setup.settings.limit s
      turning_less = going_less (numerics (parts_in setup l)) limit tolerance cost damping (held_in setup first) s (held_in setup w64) g.going t (sym h.answer ∙ e)

    pub turning_over : {t : State} {e : Result Why Refusal} → r ≡ next.Over t e → Iterated setup l cost first (next.Over t e) w64'
    turning_over {t} {e} q =
        let d = going_done (numerics (parts_in setup l)) limit tolerance cost damping (held_in setup first) s (held_in setup w64) g.going t e (sym h.answer ∙ q) in
        record {
          answer = ap (λ (y : Play (List Float)). y.next) (sym d);
          held = held_then_lem t (ap state_of q) ∙ ap (λ (y : Play (List Float)). y.held) (sym d);
        }

-- From the first cost to the end, and what is left in the lent numbers. Assumes nothing.
use Rattle.costs.specs.declared.BadEdge.{BadEdge}
use Rattle.decisions.specs.declared.Why.{Why}
use Rattle.std.specs.Prelude.{Err, Ok, Result}
use mathlib.Core.Path.{◌≡◌, sym, ap, ◌∙◌}
use mathlib.Core.List.{List, ◌++◌}
use Prim.Native.Nat.{ℕ, ◌+◌, ◌*◌, ◌-◌, ◌<◌, ◌≤◌}
use native.Mathlib.Omega.{arith}
use lib.Dec.{T}
use lib.ListN.{length, take, drop, replicate, length-append, length-drop}
use lib.Seq.{take_at, length-take-le}
use lib.Ieee.{Float, binary32, fits}
use Rattle.numbers.specs.Notation.{num}
use Rattle.numbers.specs.Walks.{Ended}
use Rattle.numbers.specs.Refusals.{refusal}
use Rattle.numbers.specs.declared.Failure.{Failure}
use Rattle.numbers.specs.declared.Failure.TheVariants.{Numerical}
use Rattle.numbers.specs.declared.Refusal.{Refusal}
use Rattle.graph.specs.Graph.{Links}
use Rattle.graph.specs.Lent.{pose_at}
use Rattle.graph.specs.declared.Edge.{Edge}
use Rattle.costs.specs.Costs.{cost_ends, cost_of}
use Rattle.decisions.specs.Run.{iterations}
use Rattle.decisions.specs.Machine.{state_of, played}
use Rattle.decisions.specs.Demand.{Held}
use Rattle.decisions.specs.declared.State.{State}
use Rattle.decisions.specs.declared.Next.{Next}
use Rattle.decisions.specs.declared.Next.TheVariants as next
use Rattle.decisions.proofs.Machines.{played_held}
use Rattle.sparse_pgo.specs.declared.Setup.{Setup}
use Rattle.sparse_pgo.specs.declared.Joined.{Joined}
use Rattle.sparse_pgo.specs.Parts.{Whole, numerics, answer_of, whole, whole_from}
use Rattle.sparse_pgo.specs.Numerics.{parts_on}
use Rattle.sparse_pgo.specs.Optimize.{given}
use Rattle.sparse_pgo.specs.forms.Turns.{parts_in, held_in, Lent, Startable, Started, Begun}
use Rattle.slices.specs.Slices.{copied}
use Rattle.slices.proofs.Laws.{copied_whole}
use Rattle.trials.proofs.Priced.{cost_had, cost_bad}
use Rattle.sparse_pgo.proofs.Looping.{Iterated, not_above}

-- ---- the answer, as the code comes by it

pub counted : {n : Next} {s : State} {e : Result Why Refusal} → n ≡ next.Over s e → iterations (state_of n) < 4294967296 → s.accepted + s.rejected < 4294967296
counted q h = rw q at h

-- ---- from the first cost on

-- demand 3 bounds the iterations
pub counts_fit : {setup : Setup} {l : Links Edge} {before after : List Float} {c : Float} {r : Next} → Startable setup → T (fits binary32 setup.settings.damping) → Iterated setup l c before r after
    → iterations (state_of r) < 4294967296
counts_fit {setup} {l} {before} {after} {c} {r} start f h =
    let held : Held setup.settings.limit c (state_of (played (numerics (parts_in setup l)) setup.settings.limit setup.settings.cost_tolerance c setup.settings.damping (held_in setup before)).next)
    = played_held (numerics (parts_in setup l)) setup.settings.limit setup.settings.cost_tolerance c setup.settings.damping (held_in setup before)
    start.limited f start.positive (not_above setup.settings.damping start.positive start.bounded) in
    let trials : iterations (state_of r) ≤ setup.settings.limit = rw h.answer held.trials in
    let few : setup.settings.limit ≤ 1000 = start.limited in
    omega arith

module _ (setup : Setup) (l : Links Edge) (before : List Float) {found : Result Float BadEdge} (e : found ≡ cost_of l (pose_at (take (setup.poses * 12) before))) where
  abbrev run : Whole (List Float)
  run = whole (parts_in setup l) setup.settings (held_in setup before)

  whole_is : (d : Ended Float) → cost_ends l (pose_at (held_in setup before)) ≡ d → run ≡ whole_from (parts_in setup l) setup.settings (held_in setup before) d
  unfolding whole parts_on
  whole_is d q = rw q

  pub start_bad : {k : ℕ} {why : Failure} → found ≡ Err (record { edge = k; why = why }) → Started setup l before (Err (refusal 20 k)) before
  start_bad {k} {why} q = go why q
    where
      go : (why : Failure) → found ≡ Err (record { edge = k; why = why }) → Started setup l before (Err (refusal 20 k)) before
      go Numerical q =
          let w = sym (whole_is _ (cost_bad l _ found e k Numerical q).ends) in
          record { answer = ap (λ (y : Whole (List Float)). y.answer) w; held = ap (λ (y : Whole (List Float)). y.held) w }

  pub start_goes : {c : Float} {n : Next} {r : Result Joined Refusal} {after : List Float} → found ≡ Ok c → Iterated setup l c before n after → r ≡ answer_of c n → Started setup l before r after
  start_goes {c} q h a =
      let w = sym (whole_is _ (cost_had l _ found e c q)) in
      record {
        answer = a ∙ ap (answer_of c) h.answer ∙ ap (λ (y : Whole (List Float)). y.answer) w;
        held = h.held ∙ ap (λ (y : Whole (List Float)). y.held) w;
      }

-- ---- poses in, the run, poses out, the work cleared

-- the poses stand in the first half of w64
pub record CopiedIn (setup : Setup) (poses w64 in64 : List Float) : Type 0 where
  pub held : held_in setup in64 ≡ poses
  pub long : length in64 ≡ length w64

pub copied_in : (setup : Setup) (poses w64 y : List Float) → length w64 ≡ setup.poses * 24 → length poses ≡ setup.poses * 12
    → y ≡ copied poses (take (setup.poses * 12) w64) → CopiedIn setup poses w64 (y ++ drop (setup.poses * 12) w64)
copied_in setup poses w64 y double size e =
    let front : length (take (setup.poses * 12) w64) ≡ setup.poses * 12 = length-take-le (setup.poses * 12) w64 (omega arith) in
    let is : y ≡ poses = e ∙ copied_whole poses (take (setup.poses * 12) w64) (front ∙ sym size) in
    let n : length y ≡ setup.poses * 12 = ap length is ∙ size in
    let rest : length (drop (setup.poses * 12) w64) ≡ length w64 - setup.poses * 12 = length-drop (setup.poses * 12) w64 in
    record {
      held = take_at y (drop (setup.poses * 12) w64) (setup.poses * 12) n ∙ is;
      long = length-append y (drop (setup.poses * 12) w64) ∙ omega arith;
    }

module _ {setup : Setup} {poses w64 in64 : List Float} (h : CopiedIn setup poses w64 in64) where
  pub in_lent : {free : ℕ} {w32 : List Float} → Lent setup free w32 w64 → Lent setup free w32 in64
  in_lent lent = record { sized = lent.sized; single = lent.single; double = h.long ∙ lent.double }

  module _ {l : Links Edge} {a : Result Joined Refusal} {mid64 : List Float} (s : Started setup l in64 a mid64) (l64 : length mid64 ≡ length in64)
      (w32 mid32 last32 last64 out : List Float) (l32 : length mid32 ≡ length w32)
      (z32 : last32 ≡ replicate (length mid32) (num 0)) (z64 : last64 ≡ replicate (length mid64) (num 0)) where
    abbrev came : Whole (List Float)
    came = whole (parts_in setup l) setup.settings poses

    answered : a ≡ came.answer
    answered = s.answer ∙ ap (λ (x : List Float). (whole (parts_in setup l) setup.settings x).answer) h.held

    come_to : held_in setup mid64 ≡ came.held
    come_to = s.held ∙ ap (λ (x : List Float). (whole (parts_in setup l) setup.settings x).held) h.held

    ends_with : (last : List Float) → last ≡ given out came a → Begun setup l poses w32 w64 out a last32 last64 last
    ends_with last o =
        record {
          answer = answered;
          zero32 = z32 ∙ ap (λ (k : ℕ). replicate k (num 0)) l32;
          zero64 = z64 ∙ ap (λ (k : ℕ). replicate k (num 0)) (l64 ∙ h.long);
          output = o ∙ ap (given out came) answered;
        }

    pub begun_joined : (j : Joined) (last : List Float) → a ≡ Ok j → length out ≡ length (take (setup.poses * 12) mid64)
        → last ≡ copied (take (setup.poses * 12) mid64) out → Begun setup l poses w32 w64 out a last32 last64 last
    begun_joined j last q k o = ends_with last (o ∙ copied_whole (take (setup.poses * 12) mid64) out k ∙ come_to ∙ ap (given out came) (sym q))

    pub begun_refused : (r : Refusal) (last : List Float) → a ≡ Err r → last ≡ out → Begun setup l poses w32 w64 out a last32 last64 last
    begun_refused r last q o = ends_with last (o ∙ ap (given out came) (sym q))

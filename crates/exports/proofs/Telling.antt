-- What is told of a run, and that the counts of the decisions fit. Assumes nothing.
use Rattle.std.specs.Prelude.{Err, Ok, Result}
use mathlib.Core.Path.{◌≡◌, refl, sym, ap, ◌∙◌}
use mathlib.Core.Bool.{true}
use mathlib.Core.List.{List}
use Prim.Native.Nat.{ℕ, ◌<◌}
use native.Mathlib.Omega.{arith}
use borrow.Author.Tests.{eqb-true}
use lib.Dec.{T, eqb}
use lib.ListN.{length}
use lib.Ieee.{Float, binary32, fits}
use Rattle.numbers.specs.Refusals.{verdict}
use Rattle.numbers.specs.declared.Refusal.{Refusal}
use Rattle.numbers.proofs.Tests.{and_first, and_second}
use Rattle.slices.specs.Slices.{copied}
use Rattle.checks.specs.Input.{Input}
use Rattle.rows.specs.Tests.{setting_rows}
use Rattle.rows.specs.declared.Settings.{Settings}
use Rattle.checks.proofs.Passed.{passed_settings}
use Rattle.decisions.specs.Run.{iterations, begun}
use Rattle.events.specs.Driven.{driven}
use Rattle.decisions.specs.Machine.{state_of}
use Rattle.events.specs.declared.Event.{Event}
use Rattle.decisions.specs.declared.Next.TheVariants as next
use Rattle.events.proofs.Demands.{demand_three}
use Rattle.sparse_pgo.specs.Optimize.{optimized}
use Rattle.sparse_pgo.specs.declared.Joined.{Joined}
use Rattle.sparse_pgo.proofs.Looping.{not_above}
use Rattle.telling.specs.Telling.{joined_costs, answer_eight}
use Rattle.exports.specs.Exported.{LentRun, lists, told, fits_run, ran_with, fits_decide}
use Rattle.slices.proofs.Laws.{copied_as}

pub fit_run : (a c : ℕ) → fits_run a c ≡ true → (a ≡ 8) × (c ≡ 2)
fit_run a c h = (eqb-true _ _ (and_first (eqb a 8) _ h), eqb-true _ _ (and_second (eqb a 8) _ h))

pub fit_decide : (a c : ℕ) (events : List ℕ) (prices : List Float) → fits_decide a c events prices ≡ true → (a ≡ 8) × (c ≡ 2)
fit_decide a c events prices h = (eqb-true _ _ (and_first (eqb a 8) _ h), eqb-true _ _ (and_first (eqb c 2) _ (and_second (eqb a 8) _ h)))

pub eight_long : (a : Result Joined Refusal) → length (answer_eight a) ≡ 8
eight_long (Ok j) = refl
eight_long (Err r) = refl

-- the eight numbers and, of a run that was joined, the costs, each copied-as over what was found
module _ (a : Result Joined Refusal) (found : List ℕ) (costs : List Float) {eight last : List ℕ} (h : length found ≡ 8) (e : eight ≡ answer_eight a)
    (p : last ≡ copied eight found) where
  whole : last ≡ answer_eight a
  whole = copied_as (answer_eight a) found e (h ∙ sym (eight_long a)) p

  pub told_joined : {j : Joined} {two c : List Float} → a ≡ Ok j → length costs ≡ 2 → two ≡ joined_costs j → c ≡ copied two costs
      → (0, last, c) ≡ told costs a
  told_joined {j} g k t q = rw (whole, copied_as (joined_costs j) costs t k q, g)

  pub told_refused : {r : Refusal} → a ≡ Err r → (r.number, last, costs) ≡ told costs a
  told_refused g = rw (whole, g)

pub ran_told : (i : Input) (l : LentRun) {a : Result Joined Refusal} {w32 w64 out : List Float} {r : ℕ} {eight : List ℕ} {costs : List Float}
    → record { answer = a; work32 = w32; work64 = w64; out = out } ≡ optimized i l.work32 l.work64 l.out
    → (r, eight, costs) ≡ told l.costs a
    → (r, lists w32 w64 out eight costs) ≡ ran_with l (optimized i l.work32 l.work64 l.out)
ran_told i l {a} {w32} {w64} {out} e t =
    ap (λ (z : ℕ × List ℕ × List Float). (z.0, lists w32 w64 out z.1 z.2)) t ∙ ap (ran_with l) e

-- A + R fits a u32: it is at most the limit
pub few_iterations : (set : Settings) (cost : Float) (vs : List Event) → T (fits binary32 set.damping) → verdict (setting_rows set) ≡ Ok tt
    → iterations (state_of (driven set.limit set.cost_tolerance (next.On (begun cost set.damping)) vs)) < 4294967296
few_iterations set cost vs f e =
    let p = passed_settings set e in
    let h = demand_three set.limit cost set.damping p.most_limit f p.damping_above (not_above set.damping p.damping_above p.damping_most) set.cost_tolerance vs in
    omega (arith, h.trials, p.most_limit)

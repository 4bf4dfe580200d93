-- Demand 1 of the public promise by what the rows ask, those of the table and those of the run; and demand 3 of every run that had its first cost, one refused
-- later too. Assumes nothing.
use Rattle.std.specs.Prelude.{Err, Ok}
use mathlib.Core.Path.{◌≡◌, refl, ap, subst, ◌∙◌}
use mathlib.Core.Logic.{◌⊎◌, inl, inr}
use mathlib.Core.List.{List}
use Prim.Native.Nat.{ℕ, ◌<◌}
use lib.Dec.{T}
use lib.Ieee.{Float, binary32, fits}
use Rattle.numbers.specs.Walks.{done}
use Rattle.numbers.specs.Refusals.{verdict, Verdict}
use Rattle.numbers.specs.Foremost.{Silent, Foremost}
use Rattle.numbers.specs.declared.Refusal.{Refusal}
use Rattle.numbers.proofs.Foremost.{foremost_speaks, speaks_foremost, silent_fine, fine_silent}
use Rattle.checks.specs.Input.{Input, graph_of}
use Rattle.checks.specs.Table.{rows, counts_of, checked_by, checks}
use Rattle.checks.specs.declared.Counts.{Counts}
use Rattle.checks.proofs.Passed.{passed, fit}
use Rattle.sparse_pgo.specs.Optimize.{after_checks, ran, optimized}
use Rattle.sparse_pgo.specs.Refusing.{run_parts, NoFirstCost, NoAssembly, RunRefuses, EndedRun}
use Rattle.sparse_pgo.proofs.Demands.{demand_one_before, answered}
use Rattle.sparse_pgo.proofs.RunRefusing.{numbered_refused, run_refused, refuses_run, run_ended, cost_edge, assembly_edge}

module _ (i : Input) (work32 work64 out : List Float) where
  -- the foremost refusal of the table is given, and every lent number is as it was
  pub demand_one_rows : (r : Refusal) → Foremost (rows i) r
      → optimized i work32 work64 out ≡ record { answer = Err r; work32 = work32; work64 = work64; out = out }
  unfolding checks
  demand_one_rows r h = demand_one_before i work32 work64 out r (ap (λ (v : Verdict). checked_by v (counts_of i)) (foremost_speaks (rows i) r h))

  -- a refusal is the foremost of the table; or the table is silent, and the run of this input gave the refusal
  said_by : (r : Refusal) → (optimized i work32 work64 out).answer ≡ Err r
      → Foremost (rows i) r ⊎ ((verdict (rows i) ≡ Ok tt) × ((ran i).answer ≡ Err r))
  unfolding optimized checks
  said_by r e = go (verdict (rows i)) refl e
    where
      go : (v : Verdict) → verdict (rows i) ≡ v → (after_checks i work32 work64 out (checked_by v (counts_of i))).answer ≡ Err r
          → Foremost (rows i) r ⊎ ((verdict (rows i) ≡ Ok tt) × ((ran i).answer ≡ Err r))
      go (Err q) h d = let same : q ≡ r = cc in inl (speaks_foremost (rows i) r (h ∙ ap Err same))
      go (Ok _) h d = inr (h, d)

  by_row : (r : Refusal) → (verdict (rows i) ≡ Ok tt → (ran i).answer ≡ Err r → RunRefuses i r)
      → Foremost (rows i) r ⊎ ((verdict (rows i) ≡ Ok tt) × ((ran i).answer ≡ Err r))
      → Foremost (rows i) r ⊎ (Silent (rows i) × RunRefuses i r)
  by_row r row (inl h) = inl h
  by_row r row (inr h) = inr (fine_silent (rows i) h.0, row h.0 h.1)

  -- every refusal, for a first damping that is an f32, is the foremost of the table; or the table is silent, and the run refuses, by its row
  pub demand_one_means : T (fits binary32 i.settings.damping) → (r : Refusal) → (optimized i work32 work64 out).answer ≡ Err r
      → Foremost (rows i) r ⊎ (Silent (rows i) × RunRefuses i r)
  demand_one_means f r e = by_row r (λ fine q. run_refused i (passed i fine).settings f r q) (said_by r e)

  -- and of any number but 0, for every first damping
  pub demand_one_numbered : (r : Refusal) → 0 < r.number → (optimized i work32 work64 out).answer ≡ Err r
      → Foremost (rows i) r ⊎ (Silent (rows i) × RunRefuses i r)
  demand_one_numbered r l e = by_row r (λ fine q. numbered_refused i r l q) (said_by r e)

  -- where the table is silent and a row of the run says so, that refusal is given, for a first damping that is an f32
  pub demand_one_run : T (fits binary32 i.settings.damping) → (r : Refusal) → Silent (rows i) → RunRefuses i r
      → (optimized i work32 work64 out).answer ≡ Err r
  unfolding optimized checks
  demand_one_run f r silent run =
      let fine : verdict (rows i) ≡ (Ok tt) = silent_fine (rows i) silent in
      ap (λ (v : Verdict). (after_checks i work32 work64 out (checked_by v (counts_of i))).answer) fine
      ∙ refuses_run i (passed i fine).settings f r run

  -- the place of 20 and of 21 is an edge
  pub edge_of_20 : (k : ℕ) → NoFirstCost i k → k < (graph_of i).edges
  edge_of_20 k n = cost_edge i k n

  pub edge_of_21 : (k : ℕ) → NoAssembly i k → k < (graph_of i).edges
  edge_of_21 k n = assembly_edge i k n

  module _ (c : Counts) (e : (checks i).answer ≡ Ok c) where
    -- demand 3 of every run that had its first cost, one refused later too: it is over, in a state whose counts, costs and solves tried keep the demand's
    -- bounds, and the solves tried are its A + R + F, or one more where it ended by Step (`EndedRun`)
    pub demand_three_run : T (fits binary32 i.settings.damping) → (first : Float) → (run_parts i).cost i.poses ≡ done first
        → EndedRun i first (optimized i work32 work64 out).answer
    demand_three_run f first had =
        subst (EndedRun i first) (answered i work32 work64 out c e refl) (run_ended i (fit i c e).0.settings f first had)

-- The measures look at a graph's edges alone; and what a run and its judgement come to, for the two answers that a run has. Assumes nothing.
use Rattle.std.specs.Prelude.{Err, Ok, Result}
use mathlib.Core.Path.{◌≡◌, refl, sym, ap, ◌∙◌}
use mathlib.Core.List.{List, []}
use Prim.Native.Nat.{ℕ, zero, suc}
use lib.Ieee.{Float}
use Rattle.numbers.specs.declared.Refusal.{Refusal}
use Rattle.rotations.specs.declared.Pose.{Pose}
use Rattle.graph.specs.Lent.{pose_at}
use Rattle.checks.specs.Input.{Input, graph_of, lent_graph}
use Rattle.graph.specs.declared.Manifold.{Manifold}
use Rattle.sparse_pgo.specs.Optimize.{After, optimized}
use Rattle.sparse_pgo.specs.declared.Joined.{Joined}
use Rattle.printable.specs.Measures.{with_squares, edge_residual, squares_up_to, pose_graph_cost, last_residual, measures_of}
use Rattle.pose_graph.specs.Closing.{result_for, closed_as, closed_run}
use Rattle.pose_graph.specs.declared.PgoResult.{PgoResult}

module _ (poses : List Float) (ends : List ℕ) (edges : List Float) (fixed : List ℕ) where
  squares_alone : (pose : ℕ → Pose) (n : ℕ) → squares_up_to (lent_graph [] ends edges []) pose n ≡ squares_up_to (lent_graph poses ends edges fixed) pose n
  unfolding squares_up_to
  squares_alone pose zero = refl
  squares_alone pose (suc n) = ap (with_squares (edge_residual (lent_graph [] ends edges []) pose n)) (squares_alone pose n)

  pub edges_alone : (before after : ℕ → Pose)
      → measures_of (lent_graph [] ends edges []) before after ≡ measures_of (lent_graph poses ends edges fixed) before after
  unfolding measures_of pose_graph_cost last_residual
  edges_alone before after = rw (squares_alone before, squares_alone after)

-- the same result, whichever poses are fixed
pub result_alone : (m : Manifold) (poses : List Float) (ends : List ℕ) (edges : List Float) (fixed : List ℕ) (out : List Float) (j : Joined)
    → result_for m (lent_graph poses ends edges []) poses out j ≡ result_for m (lent_graph poses ends edges fixed) poses out j
unfolding result_for
result_alone m poses ends edges fixed out j =
    let before = pose_at poses in
    let after = pose_at out in
    let same : measures_of (lent_graph poses ends edges []) before after ≡ measures_of (lent_graph poses ends edges fixed) before after
    = sym (edges_alone poses ends edges [] before after) ∙ edges_alone poses ends edges fixed before after in
    rw same

module _ (i : Input) (work32 work64 original out : List Float) (x : Result Joined Refusal) (w32 w64 o : List Float)
    (e : record { answer = x; work32 = w32; work64 = w64; out = o } ≡ optimized i work32 work64 out) where
  closed_as_lem : closed_as i original (record { answer = x; work32 = w32; work64 = w64; out = o }) x ≡ closed_run i work32 work64 original out
  unfolding closed_run
  closed_as_lem = ap (λ (a : After). closed_as i original a a.answer) e

  pub close_refused : (r : Refusal) → x ≡ Err r
      → record { answer = Err r; work32 = w32; work64 = w64; original = original; out = o } ≡ closed_run i work32 work64 original out
  close_refused r h = ap (closed_as i original (record { answer = x; work32 = w32; work64 = w64; out = o })) (sym h) ∙ closed_as_lem

  pub close_joined : (j : Joined) (y : PgoResult) (copy : List Float) → x ≡ Ok j
      → y ≡ result_for i.manifold (graph_of i) i.poses o j → copy ≡ i.poses
      → record { answer = Ok y; work32 = w32; work64 = w64; original = copy; out = o } ≡ closed_run i work32 work64 original out
  close_joined j y copy h q c = rw (q, c) (ap (closed_as i original (record { answer = x; work32 = w32; work64 = w64; out = o })) (sym h) ∙ closed_as_lem)

-- A graph with more edges than a run takes is refused by rows 1 to 3, whatever its edges: so the edges past the first 1,025 need not be built. Assumes nothing.
use Rattle.std.specs.Prelude.{Err, Ok}
use mathlib.Core.Path.{◌≡◌, refl, sym, ap, ◌∙◌}
use mathlib.Core.Bool.{Bool, true, false, not, ◌||◌, or-true}
use mathlib.Core.List.{List, [], ◌∷◌, ◌++◌}
use Prim.Native.Nat.{ℕ, ◌+◌, ◌-◌, ◌*◌, ◌/◌, ◌%◌, ◌<◌, ◌≤◌, min}
use native.Mathlib.Nat.{min-le_right, min-eq_left, min-eq_right}
use native.Mathlib.Omega.{arith}
use lib.Dec.{eqb, ltb}
use lib.ListN.{length, take, drop, replicate, length-append}
use lib.Seq.{take_at}
use lib.Ieee.{Float}
use borrow.Author.Tests.{lt-ltb, eq-eqb, eqb-true, ltb-true, ltb-false, not-false}
use Rattle.numbers.specs.Notation.{num}
use Rattle.numbers.specs.Refusals.{refusal, row, Row, verdict, Verdict}
use Rattle.numbers.specs.declared.Refusal.{Refusal}
use Rattle.numbers.proofs.Tests.{neither_second}
use Rattle.numbers.proofs.Reading.{ask_fine, row_at}
use Rattle.numbers.proofs.Speaking.{row_speaks}
use Rattle.checks.specs.Input.{Input, graph_of, lent}
use Rattle.checks.specs.Table.{rows, counts_of, checked_by, checks}
use Rattle.rows.specs.Tests.{bad_gravity, unfit, too_many}
use Rattle.graph.specs.declared.Manifold.{Manifold}
use Rattle.rows.specs.declared.Settings.{Settings}
use Rattle.rows.specs.declared.Room.{Room}
use Rattle.sparse_pgo.proofs.Demands.{demand_one_before}
use Rattle.scans.specs.Scans.{Scan, edge_count, ends_to, edges_to, graph_to, built_graph}
use Rattle.scans.specs.ScanRows.{unfit_scan, scan_rows}
use Rattle.scans.proofs.Built.{ends_long, edges_long}
use Rattle.pose_graph.specs.Closing.{closed_run}

-- ---- rows 1 to 3, the third of which has its fault

abbrev spoken : Bool → Bool → Refusal
spoken true unfit = refusal 1 0
spoken false true = refusal 2 0
spoken false false = refusal 3 0

rows_large : (gravity unfit : Bool) (after : List Row) → verdict (row 1 gravity ∷ row 2 unfit ∷ row 3 true ∷ after) ≡ Err (spoken gravity unfit)
rows_large true unfit after = row_speaks [] (row 1 true) (row 2 unfit ∷ row 3 true ∷ after) (refusal 1 0) refl refl
rows_large false true after = row_speaks (row 1 false ∷ []) (row 2 true) (row 3 true ∷ after) (refusal 2 0) refl refl
rows_large false false after = row_speaks (row 1 false ∷ row 2 false ∷ []) (row 3 true) after (refusal 3 0) refl refl

-- what is left of row 2 where edges are two ends and eight numbers each
abbrev unfit_poses : ℕ → ℕ → Bool
unfit_poses poses out = not (eqb (poses % 12) 0) || not (eqb out poses)

unfit_built : (poses n out : ℕ) → unfit poses (n * 2) (n * 8) out ≡ unfit_poses poses out
unfolding unfit
unfit_built poses n out =
    let even : eqb (n * 2 % 2) 0 ≡ true = eq-eqb (n * 2 % 2) 0 (omega arith) in
    let eight : eqb (n * 8) (4 * (n * 2)) ≡ true = eq-eqb (n * 8) (4 * (n * 2)) (omega arith) in
    rw (even, eight)

module _ (m : Manifold) (set : Settings) (room : Room) (s : Scan) (work32 work64 original out : List Float) where
  module _ (n : ℕ) (large : 1024 < n) where
    abbrev i : Input
    i = graph_to n m set room s

    edges_are : (graph_of i).edges ≡ n
    edges_are = let half : n * 2 / 2 ≡ n = omega arith in ap (λ (l : ℕ). l / 2) (ends_long s n) ∙ half

    too_many_lem : too_many (graph_of i).poses (graph_of i).edges (length i.fixed) ≡ true
    unfolding too_many
    too_many_lem = rw (edges_are, lt-ltb 1024 n large) (or-true (ltb 256 (graph_of i).poses))

    abbrev said : Refusal
    said = spoken (bad_gravity m) (unfit_poses (length s.poses) room.out)

    turned : verdict (rows i) ≡ Err said
    turned =
        let shape : unfit (length s.poses) (length (ends_to s n)) (length (edges_to s n)) room.out ≡ unfit_poses (length s.poses) room.out
        = rw (ends_long s n, edges_long s n) (unfit_built (length s.poses) n room.out) in
        let third = too_many (graph_of i).poses (graph_of i).edges (length i.fixed) in
        ap (λ (b : Bool). verdict (row 1 (bad_gravity m) ∷ row 2 b ∷ row 3 third ∷ drop 3 (rows i))) shape
        ∙ ap (λ (b : Bool). verdict (row 1 (bad_gravity m) ∷ row 2 (unfit_poses (length s.poses) room.out) ∷ row 3 b ∷ drop 3 (rows i))) too_many_lem
        ∙ rows_large (bad_gravity m) (unfit_poses (length s.poses) room.out) (drop 3 (rows i))

    large_closed : closed_run i work32 work64 original out
        ≡ record { answer = Err said; work32 = work32; work64 = work64; original = original; out = out }
    unfolding closed_run checks
    large_closed = rw (demand_one_before i work32 work64 out said (ap (λ (v : Verdict). checked_by v (counts_of i)) turned))

  -- the first 1,025 edges are as good as all
  pub built_enough : closed_run (graph_to (min (edge_count s) 1025) m set room s) work32 work64 original out
      ≡ closed_run (built_graph m set room s) work32 work64 original out
  built_enough = go (ltb (edge_count s) 1025) refl
    where
      go : (b : Bool) → ltb (edge_count s) 1025 ≡ b
          → closed_run (graph_to (min (edge_count s) 1025) m set room s) work32 work64 original out
          ≡ closed_run (built_graph m set room s) work32 work64 original out
      go true e =
          let l = ltb-true (edge_count s) 1025 e in
          let same : min (edge_count s) 1025 ≡ edge_count s = min-eq_left (omega arith) in
          ap (λ (n : ℕ). closed_run (graph_to n m set room s) work32 work64 original out) same
      go false e =
          let l : 1025 ≤ edge_count s = ltb-false (edge_count s) 1025 e in
          let same : min (edge_count s) 1025 ≡ 1025 = min-eq_right l in
          ap (λ (n : ℕ). closed_run (graph_to n m set room s) work32 work64 original out) same
          ∙ large_closed 1025 (omega arith) ∙ sym (large_closed (edge_count s) (omega arith))

  -- lists that start with the edges that were built
  pub at_built : (n : ℕ) (ends : List ℕ) (edges : List Float) → n ≡ min (edge_count s) 1025
      → ends ≡ ends_to s (min n 1025) ++ replicate (2050 - min n 1025 * 2) 0 → edges ≡ edges_to s (min n 1025) ++ replicate (8200 - min n 1025 * 8) (num 0)
      → closed_run (lent m s.poses (take (n * 2) ends) (take (n * 8) edges) (0 ∷ []) set room) work32 work64 original out
      ≡ closed_run (built_graph m set room s) work32 work64 original out
  at_built n ends edges e a b =
      let few : n ≤ 1025 = rw e (min-le_right (edge_count s) 1025) in
      let same : min n 1025 ≡ n = min-eq_left few in
      let first : take (n * 2) ends ≡ ends_to s n = rw (a, same) (take_at (ends_to s n) _ (n * 2) (ends_long s n)) in
      let second : take (n * 8) edges ≡ edges_to s n = rw (b, same) (take_at (edges_to s n) _ (n * 8) (edges_long s n)) in
      rw (first, second) (ap (λ (k : ℕ). closed_run (graph_to k m set room s) work32 work64 original out) e ∙ built_enough)

-- ---- the same lists are long enough to be lent so far

module _ (s : Scan) (n : ℕ) (e : n ≡ min (edge_count s) 1025) where
  few_built : n ≤ 1025
  few_built = rw e (min-le_right (edge_count s) 1025)

  pub ends_front : (ends : List ℕ) → ends ≡ ends_to s (min n 1025) ++ replicate (2050 - min n 1025 * 2) 0 → n * 2 ≤ length ends
  ends_front ends a =
      let few = few_built in
      let same : min n 1025 ≡ n = min-eq_left few in
      rw (a, same, length-append (ends_to s n) (replicate (2050 - n * 2) 0), ends_long s n) (omega arith)

  pub edges_front : (edges : List Float) → edges ≡ edges_to s (min n 1025) ++ replicate (8200 - min n 1025 * 8) (num 0) → n * 8 ≤ length edges
  edges_front edges a =
      let few = few_built in
      let same : min n 1025 ≡ n = min-eq_left few in
      rw (a, same, length-append (edges_to s n) (replicate (8200 - n * 8) (num 0)), edges_long s n) (omega arith)

-- past row 33 the originals' copy is as long as the poses
pub original_long : (ids loops : List ℕ) (poses loop_poses original : ℕ) → verdict (scan_rows ids poses loops loop_poses original) ≡ Ok tt
    → original ≡ poses
unfolding unfit_scan
original_long ids loops poses loop_poses original e =
    let u : unfit_scan (length ids) poses (length loops) loop_poses original ≡ false
    = ask_fine _ 33 0 (row_at (Ok tt) (scan_rows ids poses loops loop_poses original) 0 e) in
    eqb-true original poses (not-false (eqb original poses)
    (neither_second (not (eqb loop_poses (6 * length loops))) _
    (neither_second (not (eqb (length loops % 2) 0)) _ (neither_second (not (eqb poses (12 * length ids))) _ (neither_second (ltb (length ids) 2) _ u)))))

-- What closing a scan's loops promises, for every scan and everything lent: 33 and 34 exactly where document 02 says so, before everything else and changing
-- nothing; else the run of the built graph; usable exactly if every test holds; no verdict without the last edge's residual. Assumes nothing.
use Rattle.sparse_pgo.specs.declared.Joined.{Joined}
use Rattle.std.specs.Prelude.{Err, Ok, Result}
use mathlib.Core.Path.{◌≡◌, refl, sym, ap, ◌∙◌}
use mathlib.Core.Bool.{Bool, true, false, ◌||◌}
use mathlib.Core.List.{List, [], ◌∷◌}
use Prim.Native.Nat.{ℕ, ◌-◌, ◌/◌, ◌<◌}
use native.Mathlib.Omega.{arith}
use lib.Dec.{T, eqb}
use lib.ListN.{length, drop}
use lib.Ieee.{Float, binary32, fits}
use borrow.Author.Tests.{eqb-true}
use Rattle.numbers.specs.Refusals.{refusal, Row, row, placed, verdict, Verdict}
use Rattle.numbers.specs.Walks.{some}
use Rattle.numbers.specs.declared.Refusal.{Refusal}
use Rattle.numbers.proofs.Firsts.{First}
use Rattle.numbers.proofs.Reading.{ask_fine}
use Rattle.numbers.proofs.Speaking.{among_rows, row_spoke, row_speaks, none_earlier, first_lowest, lowest_first}
use Rattle.graph.specs.Graph.{links_of, is_active}
use Rattle.graph.specs.Lent.{pose_at}
use Rattle.checks.specs.Input.{Input, graph_of, names}
use Rattle.checks.specs.Table.{rows}
use Rattle.checks.proofs.Passed.{fit}
use Rattle.residual.specs.Residuals.{has_residual}
use Rattle.sparse_pgo.specs.Optimize.{After, optimized}
use Rattle.sparse_pgo.proofs.Demands.{never_refused}
use Rattle.sparse_pgo.proofs.Costed.{active_by_a, active_by_b, joined_fit, active_residuals}
use Rattle.printable.specs.Measures.{edge_residual, gravity_kept}
use Rattle.printable.specs.Printing.{usable}
use Rattle.printable.proofs.Judging.{Usable, usable_means}
use Rattle.scans.specs.Scans.{Scan, candidate_node, query_node, built_graph}
use Rattle.scans.specs.ScanRows.{unfit_scan, is_absent, loop_faults, scan_rows}
use Rattle.pose_graph.specs.Closing.{Closing, result_for, room_for, closed_as, closed_run, closed_after, loops_closed}
use Rattle.pose_graph.specs.declared.PgoConfig.{PgoConfig}
use Rattle.pose_graph.specs.declared.PgoResult.{PgoResult}

-- pose 0 alone is fixed
only_zero : (y : ℕ) → eqb 0 y ≡ false → names (0 ∷ []) y ≡ false
unfolding some
only_zero y h = h

module _ (c : PgoConfig) (s : Scan) (work32 work64 original out : List Float) where
  -- the graph that is built, the run of it, and what is answered and left
  abbrev pub built : Input
  built = built_graph c.manifold c.settings (room_for work32 work64 out) s

  abbrev pub run : After
  run = optimized built work32 work64 out

  abbrev pub result : Closing
  result = loops_closed c s work32 work64 original out

  -- the tests of rows 33 and 34
  abbrev pub is_unfit : Bool
  is_unfit = unfit_scan (length s.ids) (length s.poses) (length s.loops) (length s.loop_poses) (length original)

  abbrev pub names_absent : ℕ → Bool
  names_absent k = is_absent (candidate_node s.ids s.loops k) || is_absent (query_node s.ids s.loops k)

  abbrev pub unchanged : Refusal → Closing
  unchanged r = record { answer = Err r; work32 = work32; work64 = work64; original = original; out = out }

  -- what they say
  abbrev pub said : Verdict
  said = verdict (scan_rows s.ids (length s.poses) s.loops (length s.loop_poses) (length original))

  pub turned_down : (r : Refusal) → said ≡ Err r → result ≡ unchanged r
  unfolding loops_closed
  turned_down r e = rw e

  -- where they say nothing, the run of the built graph decides, whatever its size
  pub run_if_fine : said ≡ Ok tt → result ≡ closed_run built work32 work64 original out
  unfolding loops_closed
  run_if_fine e = rw e

  -- they say nothing of a scan that is not unfit and whose loops name no absent keyframe
  pub fine_if_fit : is_unfit ≡ false → ((k : ℕ) → k < length s.loops / 2 → names_absent k ≡ false) → said ≡ Ok tt
  fine_if_fit h f = rw (h, none_earlier 34 names_absent (length s.loops / 2) f)

  pub run_of_built : is_unfit ≡ false → ((k : ℕ) → k < length s.loops / 2 → names_absent k ≡ false)
      → result ≡ closed_run built work32 work64 original out
  run_of_built h f = run_if_fine (fine_if_fit h f)

  -- a run that is refused: every lent number is as the run leaves it, the originals' copy as found
  pub refused_so : (r : Refusal) → said ≡ Ok tt → run.answer ≡ Err r
      → result ≡ record { answer = Err r; work32 = run.work32; work64 = run.work64; original = original; out = run.out }
  unfolding closed_run
  refused_so r e h = run_if_fine e ∙ ap (closed_as built original run) h

  -- ---- the answer, back to the run's

  as_refused : (a : Result Joined Refusal) (r : Refusal) → (closed_as built original run a).answer ≡ Err r → a ≡ Err r
  as_refused (Err q) r e = let same : q ≡ r = cc in ap Err same
  as_refused (Ok j) r e = let z : ◌≡◌ {A = ℕ} 0 1 = cc in absurd (omega arith)

  spoke : (r : Refusal) → 22 < r.number → among_rows r.number (drop 1 (rows built)) ≡ false → result.answer ≡ Err r → said ≡ Err r
  unfolding loops_closed closed_run
  spoke r above other = go said refl
    where
      go : (v : Verdict) → said ≡ v → (closed_after c s work32 work64 original out v).answer ≡ Err r → said ≡ Err r
      go (Err q) h e = let same : q ≡ r = cc in h ∙ ap Err same
      go (Ok _) h e = absurd (never_refused built work32 work64 out r above other (as_refused run.answer r e))

  abbrev loop_row : Row
  loop_row = placed (length s.loops / 2) (loop_faults s.ids s.loops)

  -- ---- 33, and that at 0, exactly where the scan is unfit

  pub refused_33 : ((p : ℕ) → result.answer ≡ Err (refusal 33 p) → (p ≡ 0) × (is_unfit ≡ true)) × (is_unfit ≡ true → result ≡ unchanged (refusal 33 0))
  refused_33 = (
    λ p e.
        let first = lowest_first 33 (λ _. is_unfit) 1 p
        (row_spoke [] (row 33 is_unfit) (loop_row ∷ []) (refusal 33 p) refl refl (spoke (refusal 33 p) (omega arith) refl e)).1 in
        let below = first.below in
        (omega arith, first.holds),
    λ h. turned_down (refusal 33 0)
        (row_speaks [] (row 33 is_unfit) (loop_row ∷ []) (refusal 33 0) refl
        (first_lowest 33 (λ _. is_unfit) 1 0 (record { below = omega arith; holds = h; earlier = λ q l. absurd (omega arith) }))),
  )

  -- ---- 34, at loop k, exactly where it is not, and k is the first loop that names an absent keyframe

  pub record NamesAbsent (k : ℕ) : Type 0 where
    pub fits_lengths : is_unfit ≡ false
    pub first_loop : First names_absent (length s.loops / 2) k

  pub refused_34 : (k : ℕ) → (result.answer ≡ Err (refusal 34 k) → NamesAbsent k) × (NamesAbsent k → result ≡ unchanged (refusal 34 k))
  refused_34 k = (
    λ e.
        let both = row_spoke (row 33 is_unfit ∷ []) loop_row [] (refusal 34 k) refl refl (spoke (refusal 34 k) (omega arith) refl e) in
        record { fits_lengths = ask_fine is_unfit 33 0 both.0; first_loop = lowest_first 34 names_absent (length s.loops / 2) k both.1 },
    λ h. turned_down (refusal 34 k)
        (row_speaks (row 33 is_unfit ∷ []) loop_row [] (refusal 34 k) (rw h.fits_lengths)
        (first_lowest 34 names_absent (length s.loops / 2) k h.first_loop)),
  )

  -- an edge whose ends differ is active, since pose 0 alone is fixed
  built_active : (k : ℕ) → k < (graph_of built).edges → ((graph_of built).a k ≡ (graph_of built).b k → ⊥) → is_active (links_of (graph_of built)) k ≡ true
  built_active k below differ = go (eqb 0 ((graph_of built).a k)) refl (eqb 0 ((graph_of built).b k)) refl
    where
      go : (p : Bool) → eqb 0 ((graph_of built).a k) ≡ p → (q : Bool) → eqb 0 ((graph_of built).b k) ≡ q → is_active (links_of (graph_of built)) k ≡ true
      go false h q r = active_by_a (graph_of built) k below (only_zero _ h)
      go true h false r = active_by_b (graph_of built) k below (only_zero _ r)
      go true h true r = absurd (differ (sym (eqb-true 0 _ h) ∙ eqb-true 0 _ r))

  -- ---- a scan that ran: the run's own answer, and what was measured at its poses

  pub record RunSo (x : PgoResult) : Type 0 where
    pub joined : run.answer ≡ Ok x.run
    pub measured : x ≡ result_for c.manifold (graph_of built) s.poses run.out x.run
    pub originals : result.original ≡ s.poses
    pub new : result.out ≡ run.out
    pub single : result.work32 ≡ run.work32
    pub double : result.work64 ≡ run.work64

  pub ran_so : (x : PgoResult) → result.answer ≡ Ok x → RunSo x
  unfolding loops_closed closed_run result_for
  ran_so x = go said refl
    where
      at : (a : Result Joined Refusal) → run.answer ≡ a → (closed_as built original run a).answer ≡ Ok x
          → (a ≡ Ok x.run) × (x ≡ result_for c.manifold (graph_of built) s.poses run.out x.run)
      at (Err r) h e = let z : ◌≡◌ {A = ℕ} 0 1 = cc in absurd (omega arith)
      at (Ok j) h e =
          let same : result_for c.manifold (graph_of built) s.poses run.out j ≡ x = cc in
          let ran : j ≡ x.run = ap (λ (y : PgoResult). y.run) same in
          (ap Ok ran, sym same ∙ ap (result_for c.manifold (graph_of built) s.poses run.out) ran)

      go : (v : Verdict) → said ≡ v → (closed_after c s work32 work64 original out v).answer ≡ Ok x → RunSo x
      go (Err r) h e = let z : ◌≡◌ {A = ℕ} 0 1 = cc in absurd (omega arith)
      go (Ok _) h e =
          let both = at run.answer refl e in
          record {
            joined = both.0;
            measured = both.1;
            originals = rw (h, both.0);
            new = rw (h, both.0);
            single = rw (h, both.0);
            double = rw (h, both.0);
          }

  module _ (x : PgoResult) (e : result.answer ≡ Ok x) where
    -- ---- usable exactly if every test holds; so the run converged and the cost is strictly lower

    abbrev pub kept : Bool
    kept = gravity_kept c.manifold (graph_of built).poses (pose_at s.poses) (pose_at result.out)

    usable_is : x.usable ≡ usable x.run.converged kept x.measures
    unfolding result_for
    usable_is =
        let so = ran_so x e in
        let m = so.measured in
        let k = gravity_kept c.manifold (graph_of built).poses (pose_at s.poses) (pose_at run.out) in
        rw so.new (ap (λ (y : PgoResult). y.usable) m ∙ sym (ap (λ (y : PgoResult). usable x.run.converged k y.measures) m))

    pub usable_so : (x.usable ≡ true → Usable x.run.converged kept x.measures) × (Usable x.run.converged kept x.measures → x.usable ≡ true)
    usable_so =
        let both = usable_means x.run.converged kept x.measures in
        (λ h. both.0 (sym usable_is ∙ h), λ h. usable_is ∙ both.1 h)

    -- ---- the last edge has a residual, before and after, for a first damping that is an f32

    pub verdict_has_residual : T (fits binary32 c.settings.damping)
        → (has_residual (edge_residual (graph_of built) (pose_at s.poses) ((graph_of built).edges - 1)) ≡ true)
        × (has_residual (edge_residual (graph_of built) (pose_at result.out) ((graph_of built).edges - 1)) ≡ true)
    verdict_has_residual f =
        let so = ran_so x e in
        let (counts, passed) = joined_fit built work32 work64 out x.run so.joined in
        let g = (fit built counts passed).0.graph in
        let some_edge = g.some_edge in
        let k = (graph_of built).edges - 1 in
        let below : k < (graph_of built).edges = omega arith in
        rw so.new (active_residuals built work32 work64 out x.run so.joined f k below (built_active k below (g.ends_differ k below)))

-- What it says of an input that the checks let it pass, by name, for the crates above; and the slots of its poses. Assumes nothing.
use Prim.Native.Nat.{ℕ, ◌+◌, ◌*◌, ◌%◌, ◌<◌, ◌≤◌}
use native.Mathlib.Omega.{arith}
use Rattle.std.specs.Prelude.{None, Ok, Option, Some}
use mathlib.Core.Path.{◌≡◌, refl, sym, ap, ◌∙◌}
use mathlib.Core.Bool.{Bool, true, false, not, ◌&&◌, true≢false}
use lib.ListN.{length, get_or}
use lib.Dec.{eqb, ltb}
use lib.Ieee.{lt}
use lib.Ieee.Scale.{finite}
use borrow.Author.Tests.{not-false, eqb-true, eqb-false, ltb-false, lt-ltb, le-ltb, leb-false}
use Rattle.numbers.specs.Notation.{num, if_then}
use Rattle.numbers.specs.Refusals.{verdict}
use Rattle.numbers.proofs.Choices.{taken, left}
use Rattle.numbers.proofs.Walking.{count_below}
use Rattle.numbers.proofs.Tables.{get_d_table}
use Rattle.pose_conversion.specs.Conversions.{finite_pose, finite_transform}
use Rattle.rows.specs.declared.Settings.{Settings}
use Rattle.checks.specs.declared.Counts.{Counts}
use Rattle.graph.specs.Graph.{Graph, is_free, block_of, free_count, slot_at, links_of}
use Rattle.graph.specs.Lent.{dof_of, none, slot_in, lent_links, end_a, end_b}
use Rattle.checks.specs.Input.{Input, graph_of}
use Rattle.checks.specs.Islands.{Reaches, is_loose}
use Rattle.checks.specs.Table.{pose_faults, edge_faults, island_faults, graph_rows, rows, counts_of, block_number, blocks_of, graph_checks, checks}
use Rattle.decisions.specs.Damping.{lambda_max}
use Rattle.rows.specs.Tests.{bad_gravity, unfit, too_many, short_work, bad_tolerance, bad_damping, fixed_faults, setting_rows}
use Rattle.numbers.proofs.Reading.{ask_fine, row_fault, row_at, read_before}
use Rattle.numbers.proofs.Tests.{neither_first, neither_second}
use Rattle.checks.proofs.Free.{ends_in}
use Rattle.checks.proofs.Answers.{settle_fit}
use Rattle.checks.proofs.Islands.{reaches_means}

-- rows 1 to 14 and 26
pub record PassedGraph (i : Input) : Type 0 where
  pub gravity : bad_gravity i.manifold ≡ false
  pub poses_length : length i.poses ≡ (graph_of i).poses * 12
  pub ends_length : length i.ends ≡ (graph_of i).edges * 2
  pub edges_length : length i.edges ≡ (graph_of i).edges * 8
  pub out_length : i.room.out ≡ length i.poses
  pub some_pose : 0 < (graph_of i).poses
  pub most_poses : (graph_of i).poses ≤ 256
  pub some_edge : 0 < (graph_of i).edges
  pub most_edges : (graph_of i).edges ≤ 1024
  pub most_fixed : length i.fixed ≤ 256
  pub pose_finite : (x : ℕ) → x < (graph_of i).poses → finite_pose ((graph_of i).pose x) ≡ true
  pub a_in : (k : ℕ) → k < (graph_of i).edges → (graph_of i).a k < (graph_of i).poses
  pub b_in : (k : ℕ) → k < (graph_of i).edges → (graph_of i).b k < (graph_of i).poses
  pub ends_differ : (k : ℕ) → k < (graph_of i).edges → (graph_of i).a k ≡ (graph_of i).b k → ⊥
  pub weight_finite : (k : ℕ) → k < (graph_of i).edges → finite ((graph_of i).measured k).weight ≡ true
  pub measured_finite : (k : ℕ) → k < (graph_of i).edges → finite_transform ((graph_of i).measured k).measured ≡ true
  pub fixed_in : (k : ℕ) → k < length i.fixed → get_or i.fixed k 0 < (graph_of i).poses
  pub some_free : 0 < free_count (graph_of i)
  pub most_free : free_count (graph_of i) ≤ 64
  pub no_island : (x : ℕ) → x < (graph_of i).poses → is_free (graph_of i) x ≡ true → Reaches (graph_of i) x
  pub work32_enough : dof_of i.manifold * free_count (graph_of i) * (dof_of i.manifold * free_count (graph_of i) + 3) ≤ i.room.work32
  pub work64_enough : 24 * (graph_of i).poses ≤ i.room.work64

-- rows 15 to 19
pub record PassedSettings (s : Settings) : Type 0 where
  pub some_limit : 0 < s.limit
  pub most_limit : s.limit ≤ 1000
  pub cost_finite : finite s.cost_tolerance ≡ true
  pub cost_not_below : lt s.cost_tolerance (num 0) ≡ false
  pub gradient_finite : finite s.gradient_tolerance ≡ true
  pub gradient_not_below : lt s.gradient_tolerance (num 0) ≡ false
  pub damping_finite : finite s.damping ≡ true
  pub damping_above : lt (num 0) s.damping ≡ true
  pub damping_most : lt lambda_max s.damping ≡ false

pub record Passed (i : Input) : Type 0 where
  pub graph : PassedGraph i
  pub settings : PassedSettings i.settings

-- ---- a test that did not speak
equal : (x y : ℕ) → not (eqb x y) ≡ false → x ≡ y
equal x y h = eqb-true x y (not-false (eqb x y) h)

positive : (x : ℕ) → eqb x 0 ≡ false → 0 < x
positive x h = let n = eqb-false x 0 h in omega (arith, n)

reached : (f r : Bool) → f ≡ true → (f && not r) ≡ false → r ≡ true
reached true true e h = refl
reached true false e h = sym h
reached false r e h = absurd (true≢false (sym e))

pub passed_graph : (i : Input) → verdict (graph_rows i) ≡ Ok tt → PassedGraph i
unfolding unfit too_many short_work is_loose
passed_graph i e =
    let g = graph_of i in
    let row1 = ask_fine _ 1 0 (row_at (Ok tt) (graph_rows i) 0 e) in
    let row2 = ask_fine _ 2 0 (row_at (Ok tt) (graph_rows i) 1 e) in
    let row2b = neither_second (not (eqb (length i.poses % 12) 0)) _ row2 in
    let row2c = neither_second (not (eqb (length i.ends % 2) 0)) _ row2b in
    let poses12 : length i.poses % 12 ≡ 0 = equal _ 0 (neither_first _ _ row2) in
    let ends2 : length i.ends % 2 ≡ 0 = equal _ 0 (neither_first _ _ row2b) in
    let edges8 : length i.edges ≡ 4 * length i.ends = equal _ _ (neither_first _ _ row2c) in
    let row3 = ask_fine _ 3 0 (row_at (Ok tt) (graph_rows i) 2 e) in
    let row3b = neither_second (ltb 256 g.poses) _ row3 in
    let row7 = row_at (Ok tt) (graph_rows i) 6 e in
    let row14 = ask_fine _ 14 0 (row_at (Ok tt) (graph_rows i) 11 e) in
    let n = dof_of i.manifold * free_count g in
    record {
      gravity = row1;
      poses_length = omega arith;
      ends_length = omega arith;
      edges_length = omega arith;
      out_length = equal _ _ (neither_second (not (eqb (length i.edges) (4 * length i.ends))) _ row2c);
      some_pose = positive _ (ask_fine _ 4 0 (row_at (Ok tt) (graph_rows i) 3 e));
      most_poses = ltb-false 256 g.poses (neither_first _ _ row3);
      some_edge = positive _ (ask_fine _ 5 0 (row_at (Ok tt) (graph_rows i) 4 e));
      most_edges = ltb-false 1024 g.edges (neither_first _ _ row3b);
      most_fixed = ltb-false 256 (length i.fixed) (neither_second (ltb 1024 g.edges) _ row3b);
      pose_finite = λ x l. not-false _ (row_fault (pose_faults g) g.poses 0 x (row_at (Ok tt) (graph_rows i) 5 e) l);
      a_in = λ k l. (ends_in g row7 k l).a;
      b_in = λ k l. (ends_in g row7 k l).b;
      ends_differ = λ k l. eqb-false (g.a k) (g.b k) (row_fault (edge_faults g) g.edges 1 k row7 l);
      weight_finite = λ k l. not-false _ (row_fault (edge_faults g) g.edges 2 k row7 l);
      measured_finite = λ k l. not-false _ (row_fault (edge_faults g) g.edges 3 k row7 l);
      fixed_in = λ k l. leb-false g.poses (get_or i.fixed k 0)
          (row_fault (fixed_faults g.poses i.fixed) (length i.fixed) 0 k (row_at (Ok tt) (graph_rows i) 7 e) l);
      some_free = positive _ (ask_fine _ 12 0 (row_at (Ok tt) (graph_rows i) 8 e));
      most_free = ltb-false 64 (free_count g) (ask_fine _ 13 0 (row_at (Ok tt) (graph_rows i) 9 e));
      no_island = λ x l f. (reaches_means g x).0 (reached _ _ f (row_fault (island_faults g) g.poses 0 x (row_at (Ok tt) (graph_rows i) 10 e) l));
      work32_enough = ltb-false i.room.work32 (n * (n + 3)) (neither_first _ _ row14);
      work64_enough = ltb-false i.room.work64 (24 * g.poses) (neither_second (ltb i.room.work32 (n * (n + 3))) _ row14);
    }

pub passed_settings : (s : Settings) → verdict (setting_rows s) ≡ Ok tt → PassedSettings s
unfolding bad_tolerance bad_damping
passed_settings s e =
    let row17 = ask_fine _ 17 0 (row_at (Ok tt) (setting_rows s) 2 e) in
    let row18 = ask_fine _ 18 0 (row_at (Ok tt) (setting_rows s) 3 e) in
    let row19 = ask_fine _ 19 0 (row_at (Ok tt) (setting_rows s) 4 e) in
    let row19b = neither_second (not (finite s.damping)) _ row19 in
    record {
      some_limit = positive _ (ask_fine _ 15 0 (row_at (Ok tt) (setting_rows s) 0 e));
      most_limit = ltb-false 1000 s.limit (ask_fine _ 16 0 (row_at (Ok tt) (setting_rows s) 1 e));
      cost_finite = not-false _ (neither_first _ _ row17);
      cost_not_below = neither_second (not (finite s.cost_tolerance)) _ row17;
      gradient_finite = not-false _ (neither_first _ _ row18);
      gradient_not_below = neither_second (not (finite s.gradient_tolerance)) _ row18;
      damping_finite = not-false _ (neither_first _ _ row19);
      damping_above = not-false _ (neither_first _ _ row19b);
      damping_most = neither_second (not (lt (num 0) s.damping)) _ row19b;
    }

pub passed : (i : Input) → verdict (rows i) ≡ Ok tt → Passed i
passed i e =
    let v : verdict (graph_rows i) ≡ Ok tt = read_before (verdict (graph_rows i)) (setting_rows i.settings) e in
    let w : verdict (setting_rows i.settings) ≡ Ok tt = rw v at e in
    record { graph = passed_graph i v; settings = passed_settings i.settings w }

-- ---- the same from the answer, which then holds the counts
pub fit_graph : (i : Input) (n : Counts) → (graph_checks i).answer ≡ Ok n → PassedGraph i × (n ≡ counts_of i)
unfolding graph_checks
fit_graph i n e = let h = settle_fit (verdict (graph_rows i)) (counts_of i) n e in (passed_graph i h.0, sym h.1)

pub fit : (i : Input) (n : Counts) → (checks i).answer ≡ Ok n → Passed i × (n ≡ counts_of i)
unfolding checks
fit i n e = let h = settle_fit (verdict (rows i)) (counts_of i) n e in (passed i h.0, sym h.1)

-- ---- slots

-- a block is below the free count
pub block_below : {P M : Type 0} (g : Graph P M) (x b : ℕ) → x < g.poses → slot_at g x ≡ Some b → b < free_count g
unfolding slot_at
block_below {P} {M} g x b l e = go (is_free g x) refl
  where
    go : (f : Bool) → is_free g x ≡ f → b < free_count g
    go true h =
        let s : Some (block_of g x) ≡ Some b = taken None h refl ∙ e in
        let q : block_of g x ≡ b = cc in
        let c : block_of g x < free_count g = count_below (is_free g) x g.poses l h in
        omega arith
    go false h =
        let s : None ≡ Some b = left (Some (block_of g x)) h refl ∙ e in
        let z : ◌≡◌ {A = ℕ} 0 1 = cc in
        absurd (omega arith)

-- the slot that a block stands for
slot_for : ℕ → ℕ → Option ℕ
slot_for free b = if_then (ltb b free) (Some b) None

slot_of : {P M : Type 0} (g : Graph P M) (x : ℕ) → x < g.poses → free_count g ≤ none → slot_for (free_count g) (block_number g x) ≡ slot_at g x
unfolding slot_for slot_at block_number
slot_of {P} {M} g x l m = go (is_free g x) refl
  where
    go : (f : Bool) → is_free g x ≡ f → slot_for (free_count g) (block_number g x) ≡ slot_at g x
    go true h =
        ap (slot_for (free_count g)) (sym (taken none h refl))
        ∙ sym (taken None (lt-ltb (block_of g x) (free_count g) (count_below (is_free g) x g.poses l h)) refl)
        ∙ taken None h refl
    go false h =
        ap (slot_for (free_count g)) (sym (left (block_of g x) h refl))
        ∙ sym (left (Some none) (le-ltb none (free_count g) m) refl)
        ∙ left (Some (block_of g x)) h refl

-- the slot in the array of blocks that the checks hand on
pub slot_same : (i : Input) → PassedGraph i → (x : ℕ) → x < (graph_of i).poses → slot_in (blocks_of i) (free_count (graph_of i)) x ≡ slot_at (graph_of i) x
unfolding slot_in slot_for
slot_same i p x l =
    let m : (graph_of i).poses ≤ 256 = p.most_poses in
    let f : free_count (graph_of i) ≤ 64 = p.most_free in
    ap (slot_for (free_count (graph_of i))) (get_d_table (block_number (graph_of i)) 256 x none (omega arith)) ∙ slot_of (graph_of i) x l (omega arith)

-- and so the slots of both ends of every edge
pub a_slot : (i : Input) → PassedGraph i → (k : ℕ) → k < (graph_of i).edges
    → (lent_links i.ends i.edges (blocks_of i) (free_count (graph_of i))).slot (end_a i.ends k) ≡ (links_of (graph_of i)).slot (end_a i.ends k)
unfolding links_of
a_slot i p k l = slot_same i p (end_a i.ends k) (p.a_in k l)

pub b_slot : (i : Input) → PassedGraph i → (k : ℕ) → k < (graph_of i).edges
    → (lent_links i.ends i.edges (blocks_of i) (free_count (graph_of i))).slot (end_b i.ends k) ≡ (links_of (graph_of i)).slot (end_b i.ends k)
unfolding links_of
b_slot i p k l = slot_same i p (end_b i.ends k) (p.b_in k l)

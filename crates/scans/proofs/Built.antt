-- What the definitions of a scan mean, for every scan: an id's keyframe is the last that has it, and there is none exactly where no keyframe has it;
-- the k-th edge of the built graph is the k-th of the scan. Assumes nothing.
use Rattle.std.specs.Prelude.{None, Ok, Some}
use mathlib.Core.Path.{◌≡◌, refl, sym, ap, ◌∙◌}
use mathlib.Core.Logic.{⊎_elim}
use mathlib.Core.Bool.{Bool, true, false, ◌||◌}
use mathlib.Core.List.{List}
use Prim.Native.Nat.{ℕ, zero, suc, ◌+◌, ◌-◌, ◌*◌, ◌/◌, ◌<◌}
use native.Mathlib.Nat.{add-zero, not-suc-le-zero, le_of_suc-le-suc, eq-or-lt_of_le}
use native.Mathlib.Omega.{arith}
use borrow.Author.Tests.{eqb-true, eqb-false}
use lib.Dec.{eqb}
use lib.ListN.{length, get_or}
use lib.Ieee.{Float, nan}
use Rattle.numbers.specs.Notation.{if_then}
use Rattle.numbers.specs.Refusals.{verdict}
use Rattle.numbers.proofs.Reading.{row_fault, row_at}
use Rattle.graph.specs.Lent.{edge_from, edge_at, end_a, end_b}
use Rattle.graph.specs.declared.Edge.{Edge}
use Rattle.scans.specs.Scans.{Scan, node_below, node_of, edge_numbers, candidate_node, query_node, scan_edge, scan_ends, ends_to, edges_to}
use Rattle.scans.specs.ScanRows.{scan_rows, is_absent, loop_faults}
use Rattle.scans.proofs.Nodes.{below_here, below_past, ends_wide}
use Rattle.numbers.proofs.Strung.{strung_long, strung_at}

-- ---- nodes

-- keyframe n has the id, and none after it
pub record LastWith (ids : List ℕ) (id n : ℕ) : Type 0 where
  pub below : n < length ids
  pub has : get_or ids n 0 ≡ id
  pub later : (m : ℕ) → n < m → m < length ids → get_or ids m 0 ≡ id → ⊥

module _ (ids : List ℕ) (id : ℕ) where
  -- the same of the keyframes below m
  abbrev LastBelow : ℕ → ℕ → Type 0
  LastBelow n m = (n < m) × (get_or ids n 0 ≡ id) × ((j : ℕ) → n < j → j < m → get_or ids j 0 ≡ id → ⊥)

  found_below : (n m : ℕ) → node_below ids id m ≡ Some n → LastBelow n m
  unfolding node_below if_then
  found_below n zero e = let z : ◌≡◌ {A = ℕ} 0 1 = cc in absurd (omega arith)
  found_below n (suc m) e = go (eqb (get_or ids m 0) id) (eqb-true (get_or ids m 0) id) (eqb-false (get_or ids m 0) id) (found_below n m) e
    where
      go : (b : Bool) → (b ≡ true → get_or ids m 0 ≡ id) → (b ≡ false → get_or ids m 0 ≡ id → ⊥) → (node_below ids id m ≡ Some n → LastBelow n m)
          → if_then b (Some m) (node_below ids id m) ≡ Some n → LastBelow n (suc m)
      go true y x w e =
          let q : m ≡ n = cc in
          (omega arith, ap (λ (i : ℕ). get_or ids i 0) (sym q) ∙ y refl, λ j a b h. absurd (omega arith))
      go false y x w e =
          let f = w e in
          let later : (j : ℕ) → n < j → j < suc m → get_or ids j 0 ≡ id → ⊥ =
          λ j a b h.
          ⊎_elim
          (λ (i : j ≡ m). x refl (ap (λ (i : ℕ). get_or ids i 0) (sym i) ∙ h))
          (λ (i : j < m). f.2 j a i h)
          (eq-or-lt_of_le (le_of_suc-le-suc b)) in
          (omega arith, f.1, later)

  last_below : (n m : ℕ) → n < m → get_or ids n 0 ≡ id → ((j : ℕ) → n < j → j < m → get_or ids j 0 ≡ id → ⊥) → node_below ids id m ≡ Some n
  last_below n zero l e h = absurd (not-suc-le-zero l)
  last_below n (suc m) l e h =
      ⊎_elim
      (λ (i : n ≡ m). ap (λ (k : ℕ). node_below ids id (suc k)) (sym i) ∙ below_here ids id n e)
      (λ (i : n < m). below_past ids id m (h m i (omega arith)) ∙ last_below n m i e (λ j a b. h j a (omega arith)))
      (eq-or-lt_of_le (le_of_suc-le-suc l))

  none_below : (m : ℕ) → ((j : ℕ) → j < m → get_or ids j 0 ≡ id → ⊥) → node_below ids id m ≡ None
  unfolding node_below
  none_below zero h = refl
  none_below (suc m) h = below_past ids id m (h m (omega arith)) ∙ none_below m (λ j b. h j (omega arith))

  below_none_of : (m : ℕ) → node_below ids id m ≡ None → (j : ℕ) → j < m → get_or ids j 0 ≡ id → ⊥
  unfolding node_below if_then
  below_none_of zero e j l h = not-suc-le-zero l
  below_none_of (suc m) e j l h = go (eqb (get_or ids m 0) id) (eqb-false (get_or ids m 0) id) (λ p l. below_none_of m p j l h) e
    where
      go : (b : Bool) → (b ≡ false → get_or ids m 0 ≡ id → ⊥) → (node_below ids id m ≡ None → j < m → ⊥) → if_then b (Some m) (node_below ids id m) ≡ None → ⊥
      go true x w e = let z : ◌≡◌ {A = ℕ} 0 1 = cc in omega arith
      go false x w e =
          ⊎_elim (λ (i : j ≡ m). x refl (ap (λ (i : ℕ). get_or ids i 0) (sym i) ∙ h)) (λ (i : j < m). w e i) (eq-or-lt_of_le (le_of_suc-le-suc l))

pub node_last : (ids : List ℕ) (id n : ℕ) → (node_of ids id ≡ Some n → LastWith ids id n) × (LastWith ids id n → node_of ids id ≡ Some n)
node_last ids id n = (
  λ e. let f = found_below ids id n (length ids) e in record { below = f.0; has = f.1; later = f.2 },
  λ h. last_below ids id n (length ids) h.below h.has h.later,
)

pub node_absent : (ids : List ℕ) (id : ℕ) → node_of ids id ≡ None → (m : ℕ) → m < length ids → get_or ids m 0 ≡ id → ⊥
node_absent ids id e m q h = below_none_of ids id (length ids) e m q h

pub absent_node : (ids : List ℕ) (id : ℕ) → ((m : ℕ) → m < length ids → get_or ids m 0 ≡ id → ⊥) → node_of ids id ≡ None
absent_node ids id h = none_below ids id (length ids) h

-- ---- edges: the first n, by number

scan_edge_numbers : (f : ℕ → Float) (e : Edge) → ((j : ℕ) → j < 8 → f j ≡ get_or (edge_numbers e) j nan) → edge_from f ≡ e
unfolding edge_from
scan_edge_numbers f e h =
    rw (h 0 (omega arith), h 1 (omega arith), h 2 (omega arith), h 3 (omega arith), h 4 (omega arith), h 5 (omega arith), h 6 (omega arith), h 7 (omega arith))

module _ (s : Scan) (n : ℕ) where
  pub ends_long : length (ends_to s n) ≡ n * 2
  ends_long = strung_long (scan_ends s.ids s.loops) 2 (ends_wide s.ids s.loops) n

  pub edges_long : length (edges_to s n) ≡ n * 8
  edges_long = strung_long (λ k. edge_numbers (scan_edge (length s.ids - 1) s.poses s.loop_poses s.weight k)) 8 (λ _. refl) n

  module _ (k : ℕ) (h : k < n) where
    pub built_a : end_a (ends_to s n) k ≡ get_or (scan_ends s.ids s.loops k) 0 0
    built_a =
        ap (λ (i : ℕ). get_or (ends_to s n) i 0) (sym (add-zero (k * 2)))
        ∙ strung_at (scan_ends s.ids s.loops) 2 (ends_wide s.ids s.loops) n k 0 0 h (omega arith)

    pub built_b : end_b (ends_to s n) k ≡ get_or (scan_ends s.ids s.loops k) 1 0
    built_b = strung_at (scan_ends s.ids s.loops) 2 (ends_wide s.ids s.loops) n k 1 0 h (omega arith)

    pub built_edge : edge_at (edges_to s n) k ≡ scan_edge (length s.ids - 1) s.poses s.loop_poses s.weight k
    built_edge =
        scan_edge_numbers (λ j. get_or (edges_to s n) (k * 8 + j) nan) (scan_edge (length s.ids - 1) s.poses s.loop_poses s.weight k)
        (λ j q. strung_at (λ k. edge_numbers (scan_edge (length s.ids - 1) s.poses s.loop_poses s.weight k)) 8 (λ _. refl) n k j nan h q)

-- ---- past rows 33 and 34 every loop names two keyframes

pub loops_named : (ids loops : List ℕ) (poses loop_poses original k : ℕ)
    → verdict (scan_rows ids poses loops loop_poses original) ≡ Ok tt → k < length loops / 2
    → (is_absent (candidate_node ids loops k) ≡ false) × (is_absent (query_node ids loops k) ≡ false)
loops_named ids loops poses loop_poses original k e h =
    neither (is_absent (candidate_node ids loops k)) (is_absent (query_node ids loops k))
    (row_fault (loop_faults ids loops) (length loops / 2) 0 k (row_at (Ok tt) (scan_rows ids poses loops loop_poses original) 1 e) h)
  where
    neither : (a b : Bool) → (a || b) ≡ false → (a ≡ false) × (b ≡ false)
    neither false b e = (refl, e)
    neither true b e = (e, cc)

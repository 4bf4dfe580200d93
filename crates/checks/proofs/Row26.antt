-- Refusal 26 is given exactly where the paths say so, whatever the rows after it would say: `refused_26`, `refused_26_graph`, `any_loose`; and where
-- rows 1 to 13 say nothing and nothing is fixed: `nothing_fixed`. Assumes nothing.
use Prim.Native.Nat.{ℕ, ◌<◌, ◌≤◌}
use native.Mathlib.Omega.{arith}
use Rattle.std.specs.Prelude.{Err, Ok}
use mathlib.Core.Path.{◌≡◌, refl, sym, ap, ◌∙◌}
use mathlib.Core.Bool.{Bool, true, false, true≢false}
use mathlib.Core.List.{List, ◌∷◌, ◌++◌}
use lib.ListN.{drop}
use lib.Dec.{ltb}
use borrow.Author.Tests.{eqb-false, ltb-true, ltb-false}
use Rattle.numbers.specs.Refusals.{Row, refusal, placed, verdict, Verdict}
use Rattle.numbers.proofs.Walking.{some_hit}
use Rattle.numbers.proofs.Firsts.{First, some_found, count_found}
use Rattle.numbers.proofs.Reading.{ask_fine, row_at}
use Rattle.numbers.proofs.Speaking.{among_rows, row_spoke, row_speaks, first_lowest, lowest_first}
use Rattle.graph.specs.Graph.{is_free, free_count}
use Rattle.checks.specs.Input.{Input, graph_of}
use Rattle.checks.specs.Islands.{Loose, is_loose}
use Rattle.checks.specs.Table.{island_faults, rows_to13, graph_rows, rows, counts_of, checked_by, graph_checks, checks}
use Rattle.checks.proofs.Free.{ends_in, free_past}
use Rattle.checks.proofs.Islands.{loose_means}
use Rattle.checks.proofs.Answers.{settle_turned}

-- what refusal 26 at x asks: rows 1 to 13 say nothing, and x is the smallest loose pose
pub record Adrift (i : Input) (x : ℕ) : Type 0 where
  pub before : verdict (rows_to13 i) ≡ Ok tt
  pub pose : x < (graph_of i).poses
  pub loose : Loose (graph_of i) x
  pub smallest : (y : ℕ) → y < x → Loose (graph_of i) y → ⊥

-- the same by the test
by_test : (i : Input) (x : ℕ) → verdict (rows_to13 i) ≡ Ok tt → First (is_loose (graph_of i)) (graph_of i).poses x → Adrift i x
by_test i x e f = record {
  before = e;
  pose = f.below;
  loose = (loose_means (graph_of i) x).0 f.holds;
  smallest = λ y l h. true≢false (sym ((loose_means (graph_of i) y).1 h) ∙ f.earlier y l);
}

module _ (i : Input) (x : ℕ) where
  not_loose : (y : ℕ) → (Loose (graph_of i) y → ⊥) → is_loose (graph_of i) y ≡ false
  not_loose y h = go (is_loose (graph_of i) y) refl
    where
      go : (b : Bool) → is_loose (graph_of i) y ≡ b → is_loose (graph_of i) y ≡ false
      go true e = absurd (h ((loose_means (graph_of i) y).0 e))
      go false e = e

  -- row 26 between 13 and whatever comes after
  module _ (after : List Row) where
    abbrev row26 : Row
    row26 = placed (graph_of i).poses (island_faults (graph_of i))

    adrift_then : among_rows 26 after ≡ false → verdict (rows_to13 i ++ (row26 ∷ after)) ≡ Err (refusal 26 x) → Adrift i x
    adrift_then other e =
        let s = row_spoke (rows_to13 i) row26 after (refusal 26 x) refl other e in
        by_test i x s.0 (lowest_first 26 (is_loose (graph_of i)) (graph_of i).poses x s.1)

    refused_then : Adrift i x → verdict (rows_to13 i ++ (row26 ∷ after)) ≡ Err (refusal 26 x)
    refused_then a =
        row_speaks (rows_to13 i) row26 after (refusal 26 x) a.before
        (first_lowest 26 (is_loose (graph_of i)) (graph_of i).poses x (record {
          below = a.pose;
          holds = (loose_means (graph_of i) x).1 a.loose;
          earlier = λ y l. not_loose y (a.smallest y l);
        }))

  -- of all the checks, those before a run
  pub refused_26 : ((checks i).answer ≡ Err (refusal 26 x) → Adrift i x) × (Adrift i x → (checks i).answer ≡ Err (refusal 26 x))
  unfolding checks
  refused_26 = (
    λ e. adrift_then (drop 11 (rows i)) refl (settle_turned _ (counts_of i) _ e),
    λ a. ap (λ (v : Verdict). checked_by v (counts_of i)) (refused_then (drop 11 (rows i)) a),
  )

  -- and of the graph's alone, those before an assembly
  pub refused_26_graph : ((graph_checks i).answer ≡ Err (refusal 26 x) → Adrift i x) × (Adrift i x → (graph_checks i).answer ≡ Err (refusal 26 x))
  unfolding graph_checks
  refused_26_graph = (
    λ e. adrift_then (drop 11 (graph_rows i)) refl (settle_turned _ (counts_of i) _ e),
    λ a. ap (λ (v : Verdict). checked_by v (counts_of i)) (refused_then (drop 11 (graph_rows i)) a),
  )

-- ---- one loose pose, whichever, is enough

pub record SomeAdrift (i : Input) : Type 0 where
  pub pose : ℕ
  pub adrift : Adrift i pose

module _ (i : Input) (e : verdict (rows_to13 i) ≡ Ok tt) where
  loose_in : (y : ℕ) → Loose (graph_of i) y → y < (graph_of i).poses
  loose_in y l = go (ltb y (graph_of i).poses) (ltb-true y (graph_of i).poses) (ltb-false y (graph_of i).poses)
    where
      go : (b : Bool) → (b ≡ true → y < (graph_of i).poses) → (b ≡ false → (graph_of i).poses ≤ y) → y < (graph_of i).poses
      go true p q = p refl
      go false p q = absurd (true≢false (sym l.free ∙ free_past (graph_of i) (ends_in (graph_of i) (row_at (Ok tt) (rows_to13 i) 6 e)) y (q refl)))

  pub any_loose : (y : ℕ) → Loose (graph_of i) y → SomeAdrift i
  any_loose y l =
      let g = graph_of i in
      let f = some_found (is_loose g) g.poses (some_hit (is_loose g) y g.poses (loose_in y l) ((loose_means g y).1 l)) in
      record { pose = f.place; adrift = by_test i f.place e f.first }

-- ---- nothing fixed

-- the smallest free pose is the place
pub record Unanchored (i : Input) : Type 0 where
  pub pose : ℕ
  pub first_free : First (is_free (graph_of i)) (graph_of i).poses pose
  pub adrift : Adrift i pose

pub nothing_fixed : (i : Input) → verdict (rows_to13 i) ≡ Ok tt → ((y : ℕ) → y < (graph_of i).poses → (graph_of i).fixed y ≡ false) → Unanchored i
nothing_fixed i e h =
    let some_free = eqb-false (free_count (graph_of i)) 0 (ask_fine _ 12 0 (row_at (Ok tt) (rows_to13 i) 8 e)) in
    let f = count_found (is_free (graph_of i)) (graph_of i).poses (omega (arith, some_free)) in
    record {
      pose = f.place;
      first_free = f.first;
      adrift = record {
        before = e;
        pose = f.first.below;
        loose = record { free = f.first.holds; no_path = λ r. true≢false (sym r.fixed ∙ h r.pose r.below) };
        smallest = λ y l w. true≢false (sym w.free ∙ f.first.earlier y l);
      };
    }

-- Free poses: with the ends in range none is past the last; and no two have one block. Assumes nothing.
use Prim.Native.Nat.{ℕ, ◌-◌, ◌<◌, ◌≤◌}
use native.Mathlib.Nat.{add-sub_of_le}
use native.Mathlib.Omega.{arith}
use Rattle.std.specs.Prelude.{Ok}
use mathlib.Core.Path.{◌≡◌, refl, sym, ap, ◌∙◌}
use mathlib.Core.Bool.{Bool, true, false}
use lib.Dec.{eqb, ltb, leb}
use borrow.Author.Tests.{eqb-true, eqb-false, ltb-true, ltb-false, leb-false, ne_eqb}
use Rattle.numbers.specs.Walks.{count}
use Rattle.numbers.specs.Refusals.{lowest}
use Rattle.numbers.proofs.Walking.{some_never, count_above, count_below}
use Rattle.numbers.proofs.Tests.{neither_first, neither_second}
use Rattle.numbers.proofs.Reading.{row_fault}
use Rattle.graph.specs.declared.Edge.{Edge}
use Rattle.graph.specs.Graph.{Graph, touches, is_free, block_of, free_count}
use Rattle.checks.specs.Table.{edge_faults}

-- ---- ends that are in range name no pose past the last
pub record Ends {P M : Type 0} (g : Graph P M) (k : ℕ) : Type 0 where
  pub a : g.a k < g.poses
  pub b : g.b k < g.poses

pub ends_in : {P : Type 0} (g : Graph P Edge) → lowest (edge_faults g) g.edges ≡ Ok tt → (k : ℕ) → k < g.edges → Ends g k
ends_in g e k l =
    let h = row_fault (edge_faults g) g.edges 0 k e l in
    record {
      a = leb-false g.poses (g.a k) (neither_first _ (leb g.poses (g.b k)) h);
      b = leb-false g.poses (g.b k) (neither_second (leb g.poses (g.a k)) _ h);
    }

pub free_past : {P M : Type 0} (g : Graph P M) → ((k : ℕ) → k < g.edges → Ends g k) → (x : ℕ) → g.poses ≤ x → is_free g x ≡ false
unfolding is_free
free_past g h x q = rw (some_never (touches g x) g.edges (λ k m. rw (other (g.a k) (h k m).a, other (g.b k) (h k m).b)))
  where
    other : (a : ℕ) → a < g.poses → eqb a x ≡ false
    other a s = ne_eqb a x (λ e. omega arith)

pub within : {P M : Type 0} (g : Graph P M) (n : ℕ) → g.poses ≤ n → ((k : ℕ) → k < g.edges → Ends g k) → count (is_free g) n ≡ free_count g
within g n l h = ap (count (is_free g)) (sym (add-sub_of_le l)) ∙ count_above (is_free g) g.poses (n - g.poses) (free_past g h)

-- ---- no two free poses have one block
pub blocks_differ : {P M : Type 0} (g : Graph P M) (x y : ℕ) → is_free g x ≡ true → is_free g y ≡ true → block_of g x ≡ block_of g y → x ≡ y
blocks_differ g x y p q e = go (eqb x y) (eqb-true x y) (eqb-false x y)
  where
    apart : (u v : ℕ) → is_free g u ≡ true → block_of g u ≡ block_of g v → u < v → ⊥
    apart u v h d l = let c : block_of g u < block_of g v = count_below (is_free g) u v l h in omega arith

    go : (b : Bool) → (b ≡ true → x ≡ y) → (b ≡ false → x ≡ y → ⊥) → x ≡ y
    go true s d = s refl
    go false s d = absurd (side (ltb x y) (ltb-true x y) (ltb-false x y))
      where
        side : (b : Bool) → (b ≡ true → x < y) → (b ≡ false → y ≤ x) → ⊥
        side true s' d' = apart x y p e (s' refl)
        side false s' d' = let n = d refl in let l : y ≤ x = d' refl in apart y x q (sym e) (omega (arith, n))

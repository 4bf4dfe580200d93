-- The slots in the array of blocks that the checks hand on are the graph's, also past the poses: so are the edges with them. Assumes nothing.
use Rattle.std.specs.Prelude.{None, Option, Some}
use mathlib.Core.Path.{◌≡◌, refl, sym, ap, ◌∙◌, fun_ext}
use mathlib.Core.Bool.{Bool, true, false}
use Prim.Native.Nat.{ℕ, ◌<◌, ◌≤◌}
use native.Mathlib.Omega.{arith}
use borrow.Author.Tests.{ltb-true, ltb-false, le-ltb}
use lib.Dec.{ltb}
use lib.ListN.{get_or, get_or-eq_default}
use Rattle.numbers.specs.Notation.{if_then}
use Rattle.numbers.proofs.Choices.{left}
use Rattle.numbers.proofs.Tables.{length_table, get_d_table}
use Rattle.rotations.specs.declared.Pose.{Pose}
use Rattle.graph.specs.Graph.{Graph, is_free, block_of, free_count, slot_at, links_of}
use Rattle.graph.specs.Lent.{none, slot_in, lent_links}
use Rattle.checks.specs.Input.{Input, graph_of}
use Rattle.checks.specs.Table.{block_number, blocks_of}
use Rattle.graph.specs.declared.Edge.{Edge}
use Rattle.checks.proofs.Free.{free_past}
use Rattle.checks.proofs.Passed.{PassedGraph, slot_same}

module _ (i : Input) (p : PassedGraph i) where
  abbrev g : Graph Pose Edge
  g = graph_of i

  past_free : (x : ℕ) → g.poses ≤ x → is_free g x ≡ false
  past_free x h = free_past g (λ k l. record { a = p.a_in k l; b = p.b_in k l }) x h

  past_block : (x : ℕ) → g.poses ≤ x → get_or (blocks_of i) x none ≡ none
  unfolding block_number
  past_block x h = go (ltb x 256) (ltb-true x 256) (ltb-false x 256)
    where
      go : (b : Bool) → (b ≡ true → x < 256) → (b ≡ false → 256 ≤ x) → get_or (blocks_of i) x none ≡ none
      go true y n = get_d_table (block_number g) 256 x none (y refl) ∙ sym (left _ (past_free x h) refl)
      go false y n = let k : 256 ≤ x = n refl in get_or-eq_default (blocks_of i) none (omega (arith, length_table (block_number g) 256))

  past_slot : (x : ℕ) → g.poses ≤ x → slot_in (blocks_of i) (free_count g) x ≡ slot_at g x
  unfolding slot_in slot_at
  past_slot x h =
      let m : free_count g ≤ 64 = p.most_free in
      ap (λ (b : ℕ). if_then (ltb b (free_count g)) (Some b) None) (past_block x h)
      ∙ sym (left (Some none) (le-ltb none (free_count g) (omega arith)) refl)
      ∙ left (Some (block_of g x)) (past_free x h) refl

  slots_same : (x : ℕ) → slot_in (blocks_of i) (free_count g) x ≡ slot_at g x
  slots_same x = go (ltb x g.poses) (ltb-true x g.poses) (ltb-false x g.poses)
    where
      go : (b : Bool) → (b ≡ true → x < g.poses) → (b ≡ false → g.poses ≤ x) → slot_in (blocks_of i) (free_count g) x ≡ slot_at g x
      go true y n = slot_same i p x (y refl)
      go false y n = past_slot x (n refl)

  pub links_same : lent_links i.ends i.edges (blocks_of i) (free_count (graph_of i)) ≡ links_of (graph_of i)
  unfolding links_of
  links_same = ap (λ (s : ℕ → Option ℕ). record { edges = g.edges; a = g.a; b = g.b; measured = g.measured; slot = s }) (fun_ext slots_same)

-- Row 26: of at most 256 poses, with the ends in range, the labels that the search leaves tell the loose ones. Assumes nothing.
use Prim.Native.Nat.{ℕ, ◌+◌, ◌<◌, ◌≤◌}
use native.Mathlib.Omega.{arith}
use mathlib.Core.Path.{◌≡◌, refl, sym, ap, ◌∙◌}
use mathlib.Core.Bool.{Bool, true, false, not, ◌&&◌, or-true, and-false, true≢false}
use mathlib.Core.List.{List}
use lib.ListN.{length, get_or-eq_default}
use lib.Dec.{eqb, ltb}
use borrow.Author.Tests.{eq-eqb, ne_eqb, ltb-true, ltb-false}
use Rattle.numbers.specs.Walks.{some, table}
use Rattle.numbers.proofs.Choices.{taken, left}
use Rattle.numbers.proofs.Walking.{some_hit, some_ext, count_at_most}
use Rattle.numbers.proofs.Tables.{length_table, get_d_table}
use Rattle.graph.specs.declared.Edge.{Edge}
use Rattle.graph.specs.Graph.{Graph, touches, is_free, block_of}
use Rattle.graph.specs.Lent.{none}
use Rattle.checks.specs.Table.{block_number}
use Rattle.checks.specs.Islands.{weighs, Path, here, along, against, reaches, is_loose}
use Rattle.checks.specs.Labels.{label_of, Merges}
use Rattle.checks.proofs.Free.{Ends, free_past, blocks_differ}
use Rattle.checks.proofs.Islands.{connected_ends, reaches_means}

module _ {P : Type 0} (g : Graph P Edge) (few : g.poses ≤ 256) (inside : (k : ℕ) → k < g.edges → Ends g k) where
  -- ---- not an island: the same at both ends of an edge of non-zero weight, and under one first label
  anchored : ℕ → Bool
  anchored x = not (is_loose g x)

  anchored_unfree : (x : ℕ) → is_free g x ≡ false → anchored x ≡ true
  unfolding anchored is_loose
  anchored_unfree x e = rw e

  anchored_named : (x : ℕ) → some (touches g x) g.edges ≡ true → x < g.poses → anchored x ≡ reaches g x
  unfolding anchored is_loose is_free
  anchored_named x s l = rw s (go (g.fixed x) (reaches g x) refl (λ e. (reaches_means g x).1 (record { pose = x; below = l; fixed = e; path = here })))
    where
      go : (f r : Bool) → g.fixed x ≡ f → (g.fixed x ≡ true → r ≡ true) → not (not f && not r) ≡ r
      go true r e h = sym (h e)
      go false true e h = refl
      go false false e h = refl

  anchored_ends : (k : ℕ) → k < g.edges → weighs g k ≡ true → anchored (g.a k) ≡ anchored (g.b k)
  unfolding reaches
  anchored_ends k l w =
      anchored_named (g.a k) (some_hit (touches g (g.a k)) k g.edges l (rw (eq-eqb (g.a k) (g.a k) refl))) (inside k l).a
      ∙ some_ext _ _ g.poses (λ y _. ap (λ (b : Bool). g.fixed y && b) (connected_ends g g.edges k l w y))
      ∙ sym (anchored_named (g.b k)
      (some_hit (touches g (g.b k)) k g.edges l (rw (eq-eqb (g.b k) (g.b k) refl) (or-true (eqb (g.a k) (g.b k))))) (inside k l).b)

  free_few : (x : ℕ) → is_free g x ≡ true → x < 256
  free_few x e = go (ltb x 256) (ltb-true x 256) (ltb-false x 256)
    where
      go : (b : Bool) → (b ≡ true → x < 256) → (b ≡ false → 256 ≤ x) → x < 256
      go true y z = y refl
      go false y z = let l : 256 ≤ x = z refl in absurd (true≢false (sym e ∙ free_past g inside x (omega arith)))

  free_number : (x : ℕ) → is_free g x ≡ true → block_number g x ≡ block_of g x
  unfolding block_number
  free_number x e = sym (taken none e refl)

  unfree_number : (x : ℕ) → is_free g x ≡ false → block_number g x ≡ none
  unfolding block_number
  unfree_number x e = sym (left (block_of g x) e refl)

  free_some : (x : ℕ) → is_free g x ≡ true → block_number g x ≡ none → ⊥
  free_some x f e =
      let l = free_few x f in
      let c = count_at_most (is_free g) x in
      let n : block_of g x ≡ none = sym (free_number x f) ∙ e in
      omega arith

  anchored_start : (x y : ℕ) → block_number g x ≡ block_number g y → anchored x ≡ anchored y
  anchored_start x y e = go (is_free g x) (is_free g y) refl refl
    where
      go : (p q : Bool) → is_free g x ≡ p → is_free g y ≡ q → anchored x ≡ anchored y
      go true true p q = ap anchored (blocks_differ g x y p q (sym (free_number x p) ∙ e ∙ free_number y q))
      go true false p q = absurd (free_some x p (e ∙ unfree_number y q))
      go false true p q = absurd (free_some y q (sym e ∙ unfree_number x p))
      go false false p q = anchored_unfree x p ∙ sym (anchored_unfree y q)

  -- ---- the labels at the end, from the blocks
  module _ (l₀ l : List ℕ) (e₀ : l₀ ≡ table (block_number g) 256) (m : Merges g g.edges (label_of l₀) (label_of l)) where
    start : (x : ℕ) → label_of l₀ x ≡ block_number g x
    start x = rw e₀ (go (ltb x 256) (ltb-true x 256) (ltb-false x 256))
      where
        go : (b : Bool) → (b ≡ true → x < 256) → (b ≡ false → 256 ≤ x) → label_of (table (block_number g) 256) x ≡ block_number g x
        go true y z = get_d_table (block_number g) 256 x none (y refl)
        go false y z =
            let h : 256 ≤ x = z refl in
            let n = length_table (block_number g) 256 in
            get_or-eq_default (table (block_number g) 256) none (omega arith) ∙ sym (unfree_number x (free_past g inside x (omega arith)))

    -- a pose past all
    past : ℕ
    past = 256 + length l

    past_free : is_free g past ≡ false
    unfolding past
    past_free = free_past g inside past (omega arith)

    past_none : label_of l past ≡ none
    unfolding past
    past_none = get_or-eq_default l none (omega arith)

    unfree_none : (x : ℕ) → is_free g x ≡ false → label_of l x ≡ none
    unfree_none x e = m.same x past (start x ∙ unfree_number x e ∙ sym (unfree_number past past_free) ∙ sym (start past)) ∙ past_none

    path_same : {x y : ℕ} → Path g x y → label_of l x ≡ label_of l y
    path_same here = refl
    path_same (along k h w p) = m.ends k h w ∙ path_same p
    path_same (against k h w p) = sym (m.ends k h w) ∙ path_same p

    fixed_none : (x : ℕ) → g.fixed x ≡ true → label_of l x ≡ none
    unfolding is_free
    fixed_none x e = unfree_none x (rw e (and-false (some (touches g x) g.edges)))

    reaches_none : (x : ℕ) → reaches g x ≡ true → label_of l x ≡ none
    reaches_none x e = let r = (reaches_means g x).0 e in path_same r.path ∙ fixed_none r.pose r.fixed

    -- a label is none exactly if the pose is on no island
    none_anchored : (x : ℕ) → label_of l x ≡ none → anchored x ≡ true
    none_anchored x e = m.least anchored anchored_ends (λ p q h. anchored_start p q (sym (start p) ∙ h ∙ start q)) x past (e ∙ sym past_none) ∙ anchored_unfree past past_free

    anchored_none : (x : ℕ) → anchored x ≡ true → label_of l x ≡ none
    unfolding anchored is_loose
    anchored_none x e = go (is_free g x) (reaches g x) refl refl e
      where
        go : (f r : Bool) → is_free g x ≡ f → reaches g x ≡ r → not (f && not r) ≡ true → label_of l x ≡ none
        go true true p q h = reaches_none x q
        go true false p q h = absurd (true≢false (sym h))
        go false r p q h = unfree_none x p

    pub loose_island : (x : ℕ) → not (eqb (label_of l x) none) ≡ is_loose g x
    unfolding anchored
    loose_island x = go (is_loose g x) refl
      where
        go : (b : Bool) → is_loose g x ≡ b → not (eqb (label_of l x) none) ≡ b
        go true p = ap not (ne_eqb (label_of l x) none (λ e. true≢false (sym (none_anchored x e) ∙ ap not p)))
        go false p = ap not (eq-eqb (label_of l x) none (anchored_none x (ap not p)))

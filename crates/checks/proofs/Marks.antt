-- The poses' marks as the loops make them: one edge, one fixed entry more. Assumes nothing.
use Prim.Native.Nat.{ℕ, ◌+◌}
use mathlib.Core.Path.{◌≡◌, refl, sym, ap, ◌∙◌}
use mathlib.Core.Bool.{Bool, true, false, not, ◌&&◌, ◌||◌, or_assoc, and-true}
use mathlib.Core.List.{List, []}
use lib.ListN.{get_or}
use lib.Dec.{eqb}
use Rattle.numbers.specs.Walks.{some, table}
use Rattle.numbers.proofs.Walking.{some_none, some_step}
use Rattle.numbers.proofs.Tables.{table_ext}
use Rattle.graph.specs.Graph.{touches}
use Rattle.graph.specs.Lent.{end_a, end_b}
use Rattle.checks.specs.Input.{lent_graph}
use Rattle.numbers.proofs.Filling.{put, mark_table, clear_table}

-- ---- the poses that the first k edges name
abbrev pub named_by : List ℕ → ℕ → ℕ → Bool
named_by ends k x = some (touches (lent_graph [] ends [] []) x) k

pub named_none : (ends : List ℕ) (n : ℕ) → table (λ _. false) n ≡ table (named_by ends 0) n
named_none ends n = table_ext false (λ _. false) (named_by ends 0) n (λ x _. sym (some_none (touches (lent_graph [] ends [] []) x)))

pub named_more : (ends : List ℕ) (k n : ℕ) (m : List Bool) → m ≡ table (named_by ends k) n
    → put n (put n m (end_a ends k) true) (end_b ends k) true ≡ table (named_by ends (k + 1)) n
named_more ends k n m e =
    (rw (e, mark_table (named_by ends k) n (end_a ends k)) (mark_table (λ x. named_by ends k x || eqb (end_a ends k) x) n (end_b ends k)))
    ∙ table_ext false (λ x. named_by ends k x || eqb (end_a ends k) x || eqb (end_b ends k) x) (named_by ends (k + 1)) n
    (λ x _. or_assoc (named_by ends k x) (eqb (end_a ends k) x) (eqb (end_b ends k) x) ∙ sym (some_step (touches (lent_graph [] ends [] []) x) k))

-- ---- those of f that the first k fixed entries leave
abbrev pub left_by : (ℕ → Bool) → List ℕ → ℕ → ℕ → Bool
left_by f fixed k x = f x && not (some (λ j. eqb (get_or fixed j 0) x) k)

pub left_none : (f : ℕ → Bool) (fixed : List ℕ) (n : ℕ) → table f n ≡ table (left_by f fixed 0) n
left_none f fixed n =
    table_ext false f (left_by f fixed 0) n (λ x _. sym (ap (λ (b : Bool). f x && not b) (some_none (λ j. eqb (get_or fixed j 0) x)) ∙ and-true (f x)))

neither : (a b c : Bool) → (a && not b && not c) ≡ (a && not (b || c))
neither true true c = refl
neither true false c = refl
neither false b c = refl

pub left_more : (f : ℕ → Bool) (fixed : List ℕ) (k n : ℕ) (m : List Bool) → m ≡ table (left_by f fixed k) n
    → put n m (get_or fixed k 0) false ≡ table (left_by f fixed (k + 1)) n
left_more f fixed k n m e =
    (rw e (clear_table (left_by f fixed k) n (get_or fixed k 0)))
    ∙ table_ext false (λ x. left_by f fixed k x && not (eqb (get_or fixed k 0) x)) (left_by f fixed (k + 1)) n
    (λ x _. neither (f x) (some (λ j. eqb (get_or fixed j 0) x) k) (eqb (get_or fixed k 0) x)
    ∙ sym (ap (λ (b : Bool). f x && not b) (some_step (λ j. eqb (get_or fixed j 0) x) k)))

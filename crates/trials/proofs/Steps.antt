-- What a step means to a trial: numbers past the unknowns don't count. Assumes nothing.
use Rattle.std.specs.Prelude.{None, Option, Some}
use mathlib.Core.Path.{◌≡◌, refl, ap}
use mathlib.Core.Bool.{Bool, true, false}
use mathlib.Core.List.{List}
use Prim.Native.Nat.{ℕ, ◌+◌, ◌*◌, ◌/◌, ◌%◌, ◌<◌}
use native.Mathlib.Nat.{mul_comm}
use native.Mathlib.Omega.{arith}
use borrow.Author.Tests.{ltb-true}
use lib.Arith.{digits_lt}
use lib.Dec.{ltb}
use lib.ListN.{length, get_or}
use lib.Ieee.{Float, nan, binary64}
use Rattle.numbers.specs.Notation.{◌⊗◌, num, if_then}
use Rattle.roots.specs.Roots.{root64}
use Rattle.numbers.proofs.Walking.{every_ext, sum_ext}
use Rattle.numbers.proofs.Tables.{table_ext}
use Rattle.graph.specs.Lent.{dof_of, none, slot_in}
use Rattle.graph.specs.declared.Manifold.{Manifold}
use Rattle.trials.specs.Trials.{norm_of, part_of, moves_by, number_by, moves, moved_numbers}

-- a block is below the free count
pub slot_below : (blocks : List ℕ) (free x b : ℕ) → slot_in blocks free x ≡ Some b → b < free
unfolding slot_in if_then
slot_below blocks free x b = go (get_or blocks x none) (ltb (get_or blocks x none) free) (ltb-true (get_or blocks x none) free)
  where
    go : (a : ℕ) (t : Bool) → (t ≡ true → a < free) → if_then t (Some a) None ≡ Some b → b < free
    go a true y e = let s : a ≡ b = cc in let r : a < free = y refl in omega arith
    go a false y e = let z : ◌≡◌ {A = ℕ} 0 1 = cc in absurd (omega arith)

pub norm_same : (δ δ' : ℕ → Float) (n : ℕ) → ((i : ℕ) → i < n → δ i ≡ δ' i) → norm_of δ n ≡ norm_of δ' n
unfolding norm_of
norm_same δ δ' n h = ap root64 (sum_ext binary64 (λ i. δ i ⊗ δ i) (λ i. δ' i ⊗ δ' i) n (λ i l. rw (h i l)))

pub part_same : (dof : ℕ) (δ δ' : ℕ → Float) (b : ℕ) → ((j : ℕ) → j < dof → δ (b * dof + j) ≡ δ' (b * dof + j)) → part_of dof δ b ≡ part_of dof δ' b
unfolding part_of if_then
part_same dof δ δ' b h =
    table_ext nan (λ j. if_then (ltb j dof) (δ (b * dof + j)) (num 0)) (λ j. if_then (ltb j dof) (δ' (b * dof + j)) (num 0)) 6
    (λ j _. go j (ltb j dof) (ltb-true j dof))
  where
    go : (j : ℕ) (t : Bool) → (t ≡ true → j < dof) → if_then t (δ (b * dof + j)) (num 0) ≡ if_then t (δ' (b * dof + j)) (num 0)
    go j true y = h j (y refl)
    go j false y = refl

-- steps that agree below n, the number of unknowns, make the same trial
module _ (m : Manifold) (slot : ℕ → Option ℕ) (free n : ℕ) (δ δ' : ℕ → Float) (size : n ≡ dof_of m * free) (below : (p b : ℕ) → slot p ≡ Some b → b < free) (same : (i : ℕ) → i < n → δ i ≡ δ' i) where
  block_same : (b : ℕ) → b < free → part_of (dof_of m) δ b ≡ part_of (dof_of m) δ' b
  block_same b l =
      part_same (dof_of m) δ δ' b
      (λ j q. let r : b * dof_of m + j < free * dof_of m = digits_lt l q in let s : free * dof_of m ≡ dof_of m * free = mul_comm free (dof_of m) in same (b * dof_of m + j) (omega arith))

  pub moves_same : (poses : ℕ) (x : List Float) → moves m slot poses x δ ≡ moves m slot poses x δ'
  unfolding moves
  moves_same poses x = every_ext (λ p. moves_by m x δ p (slot p)) (λ p. moves_by m x δ' p (slot p)) poses (λ p _. go p (slot p) refl)
    where
      go : (p : ℕ) (s : Option ℕ) → slot p ≡ s → moves_by m x δ p s ≡ moves_by m x δ' p s
      go p None e = refl
      go p (Some b) e = rw (block_same b (below p b e))

  pub moved_same : (x : List Float) → moved_numbers m slot x δ ≡ moved_numbers m slot x δ'
  unfolding moved_numbers
  moved_same x =
      table_ext nan (λ q. number_by m x δ (q / 12) (q % 12) (slot (q / 12))) (λ q. number_by m x δ' (q / 12) (q % 12) (slot (q / 12))) (length x)
      (λ q _. go (q / 12) (q % 12) (slot (q / 12)) refl)
    where
      go : (p j : ℕ) (s : Option ℕ) → slot p ≡ s → number_by m x δ p j s ≡ number_by m x δ' p j s
      go p j None e = refl
      go p j (Some b) e = rw (block_same b (below p b e))

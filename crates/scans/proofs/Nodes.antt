-- The search for the last of equal ids, from the end down: a hit, a step back, and the start. Assumes nothing.
use Rattle.std.specs.Prelude.{None, Option, Some}
use Rattle.std.specs.Option.{is_some}
use mathlib.Core.Path.{◌≡◌, refl, sym, ap, ◌∙◌}
use mathlib.Core.Bool.{Bool, true, false, not}
use mathlib.Core.List.{List, [], ◌∷◌}
use Prim.Native.Nat.{ℕ, zero, suc, ◌-◌, ◌<◌, ◌≤◌}
use native.Mathlib.Omega.{arith}
use borrow.Author.Tests.{eq-eqb, ne_eqb}
use lib.Dec.{eqb, ltb}
use lib.ListN.{length, get_or}
use Rattle.numbers.specs.Notation.{if_then}
use Rattle.numbers.proofs.Choices.{taken, left}
use Rattle.scans.specs.ScanRows.{is_absent}
use Rattle.scans.specs.Scans.{node_below, node_of, node_number, scan_ends}

pub below_here : (ids : List ℕ) (id n : ℕ) → get_or ids n 0 ≡ id → node_below ids id (suc n) ≡ Some n
unfolding node_below
below_here ids id n e = sym (taken _ (eq-eqb _ _ e) refl)

pub below_past : (ids : List ℕ) (id n : ℕ) → (get_or ids n 0 ≡ id → ⊥) → node_below ids id (suc n) ≡ node_below ids id n
unfolding node_below
below_past ids id n e = sym (left _ (ne_eqb _ _ e) refl)

-- with n turned to n - 1, as the loop has it
module _ (ids : List ℕ) (id n : ℕ) (h : 0 < n) {r : Option ℕ} (i : r ≡ node_below ids id n) {x : ℕ} (q : x ≡ get_or ids (n - 1) 0) where
  back : r ≡ node_below ids id (suc (n - 1))
  back = let e : n ≡ suc (n - 1) = omega arith in i ∙ ap (node_below ids id) e

  pub below_hit : x ≡ id → Some (n - 1) ≡ r
  below_hit e = sym (back ∙ below_here ids id (n - 1) (sym q ∙ e))

  pub below_less : (x ≡ id → ⊥) → r ≡ node_below ids id (n - 1)
  below_less e = back ∙ below_past ids id (n - 1) (λ g. e (q ∙ g))

pub below_none : (ids : List ℕ) (id n : ℕ) {r : Option ℕ} → r ≡ node_below ids id n → n ≡ 0 → None ≡ r
unfolding node_below
below_none ids id n i e = sym (i ∙ ap (node_below ids id) e)

-- a keyframe's number is within the list
below_small : (ids : List ℕ) (id n : ℕ) → node_number (node_below ids id n) ≤ n
unfolding node_below if_then
below_small ids id zero = omega arith
below_small ids id (suc n) = go (eqb (get_or ids n 0) id) (below_small ids id n)
  where
    go : (b : Bool) → node_number (node_below ids id n) ≤ n → node_number (if_then b (Some n) (node_below ids id n)) ≤ suc n
    go true h = omega arith
    go false h = omega arith

pub node_small : (ids : List ℕ) (id : ℕ) {n : Option ℕ} → n ≡ node_of ids id → node_number n ≤ length ids
node_small ids id e = rw e (below_small ids id (length ids))

-- std's test for no keyframe
pub absent_test : (n : Option ℕ) (b : Bool) → is_some n ≡ not b → b ≡ is_absent n
absent_test None true e = refl
absent_test None false e = e
absent_test (Some n) true e = e
absent_test (Some n) false e = refl

-- the ends of an edge are two
pub ends_wide : (ids loops : List ℕ) (k : ℕ) → length (scan_ends ids loops k) ≡ 2
unfolding scan_ends if_then
ends_wide ids loops k = go (ltb k (length ids - 1)) _ _ _ _
  where
    go : (b : Bool) (x y u v : ℕ) → length (if_then b (x ∷ y ∷ []) (u ∷ v ∷ [])) ≡ 2
    go true x y u v = refl
    go false x y u v = refl

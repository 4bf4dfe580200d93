-- A cell written is the cell that is read; the cells of poses, written one after another. Assumes nothing.
use Prim.Native.Nat.{ℕ, zero, suc, ◌+◌, ◌*◌, ◌-◌, ◌/◌, ◌<◌, ◌≤◌}
use Rattle.exp_log.specs.Formats.{Twist}
use Rattle.residual.specs.declared.Linked.{Linked}
use Rattle.numbers.specs.declared.Failure.{Failure}
use Rattle.rotations.specs.Formats.{Transform}
use Rattle.std.specs.Prelude.{Err, Ok, Result}
use mathlib.Core.Path.{◌≡◌, refl, sym, ap, subst, ◌∙◌}
use mathlib.Core.Logic.{◌⊎◌, inl, inr}
use mathlib.Core.Bool.{Bool, true, false}
use mathlib.Core.List.{List, ◌++◌}
use native.Mathlib.Omega.{arith}
use native.Mathlib.Nat.{ne_of_lt}
use native.Mathlib.Numerals.{add-one}
use borrow.Author.Count.{below_more}
use borrow.Author.Tests.{ltb-true, ltb-false, lt-ltb, le-ltb}
use lib.Dec.{ltb}
use lib.ListN.{length, get_or, take, drop, get_or-append}
use lib.Seq.{length-take-le, get_or-take, get_or-drop, get_or-append-add, paste, length-paste, length_paste_head}
use lib.Ieee.{Float, nan, lt}
use Rattle.numbers.specs.Notation.{num, ratio, if_then}
use Rattle.numbers.specs.declared.Failure.TheVariants.{Numerical}
use Rattle.numbers.proofs.Choices.{taken, left}
use Rattle.rotations.specs.declared.Pose.{Pose}
use Rattle.pose_conversion.specs.Conversions.{checked_transform}
use Rattle.graph.specs.Lent.{pose_at, edge_from}
use Rattle.graph.specs.declared.Edge.{Edge}
use Rattle.residual.specs.Residuals.{residual_of}
use Rattle.residual.specs.EdgeParts.{linked_of, six_in}
use Rattle.residual.proofs.Linking.{residual_by}
use Rattle.costs.specs.Stowed.{eight_of, with_cell, stowing, stowed_from, stowed_in, Stows, known_poses, with_bases, base_in, Based}

cell_stowed : (x : Result Transform Failure) → stowed_from (edge_from (λ j. get_or (eight_of x) j nan)) ≡ x
unfolding stowed_from edge_from if_then ratio lt
cell_stowed (Ok a) = refl
cell_stowed (Err Numerical) = refl

pub cell_length : (x : Result Transform Failure) → length (eight_of x) ≡ 8
cell_length (Ok a) = refl
cell_length (Err why) = refl

edge_ext : (f g : ℕ → Float) → ((j : ℕ) → j < 8 → f j ≡ g j) → edge_from f ≡ edge_from g
unfolding edge_from
edge_ext f g h =
    rw (h 0 (omega arith), h 1 (omega arith), h 2 (omega arith), h 3 (omega arith), h 4 (omega arith), h 5 (omega arith), h 6 (omega arith), h 7 (omega arith))

-- ---- n numbers of s pasted into d at place `at`
module _ (d : List Float) (at : ℕ) (s : List Float) (n : ℕ) (hd : at + n ≤ length d) (hs : n ≤ length s) where
  head : length (take at d ++ take n s) ≡ at + n
  head = length_paste_head d at s n (omega arith) hs

  pasted_in : (k : ℕ) → k < n → get_or (paste d at s n) (at + k) nan ≡ get_or s k nan
  pasted_in k q =
      let h : length (take at d ++ take n s) ≡ at + n = head in
      get_or-append (take at d ++ take n s) (drop (at + n) d) nan (at + k) (omega arith)
      ∙ ap (λ (i : ℕ). get_or (take at d ++ take n s) (i + k) nan) (sym (length-take-le at d (omega arith)))
      ∙ get_or-append-add (take at d) (take n s) k nan
      ∙ get_or-take n s k nan q

  pasted_out : (i : ℕ) → (i < at) ⊎ (at + n ≤ i) → get_or (paste d at s n) i nan ≡ get_or d i nan
  pasted_out i (inl q) =
      let h : length (take at d ++ take n s) ≡ at + n = head in
      let t : length (take at d) ≡ at = length-take-le at d (omega arith) in
      get_or-append (take at d ++ take n s) (drop (at + n) d) nan i (omega arith)
      ∙ get_or-append (take at d) (take n s) nan i (omega arith)
      ∙ get_or-take at d i nan q
  pasted_out i (inr q) =
      let e : at + n + (i - (at + n)) ≡ i = omega arith in
      subst (λ (i : ℕ). get_or (paste d at s n) i nan ≡ get_or d i nan) e
      (ap (λ (j : ℕ). get_or (paste d at s n) (j + (i - (at + n))) nan) (sym head)
      ∙ get_or-append-add (take at d ++ take n s) (drop (at + n) d) (i - (at + n)) nan
      ∙ get_or-drop (at + n) d (i - (at + n)) nan)

-- ---- a cell replaced
cell_pasted : (l : List Float) (e : ℕ) (x : Result Transform Failure) → with_cell l e x ≡ paste l (e * 8) (eight_of x) 8
unfolding with_cell
cell_pasted l e (Ok a) = refl
cell_pasted l e (Err why) = refl

apart : (k e : ℕ) → (k ≡ e → ⊥) → (k < e) ⊎ (e < k)
apart k e h = go (ltb k e) (ltb e k) (ltb-true k e) (ltb-true e k) (ltb-false k e) (ltb-false e k)
  where
    go : (a b : Bool) → (a ≡ true → k < e) → (b ≡ true → e < k) → (a ≡ false → e ≤ k) → (b ≡ false → k ≤ e) → (k < e) ⊎ (e < k)
    go true b p q r s = inl (p refl)
    go false true p q r s = inr (q refl)
    go false false p q r s = let x : e ≤ k = r refl in let y : k ≤ e = s refl in absurd (h (omega arith))

cell_stows : (l : List Float) (e : ℕ) (x : Result Transform Failure) → e * 8 + 8 ≤ length l → Stows l (with_cell l e x) e x
cell_stows l e x b = subst (λ (m : List Float). Stows l m e x) (sym (cell_pasted l e x)) made
  where
    full : 8 ≤ length (eight_of x)
    full = let h : length (eight_of x) ≡ 8 = cell_length x in omega arith

    beyond : (k i : ℕ) → i < 8 → (k < e) ⊎ (e < k) → (k * 8 + i < e * 8) ⊎ (e * 8 + 8 ≤ k * 8 + i)
    beyond k i b (inl p) = inl (omega arith)
    beyond k i b (inr p) = inr (omega arith)

    made : Stows l (paste l (e * 8) (eight_of x) 8) e x
    made =
        record {
          len = length-paste l (e * 8) (eight_of x) 8 b full;
          here = ap stowed_from (edge_ext (λ k. get_or (paste l (e * 8) (eight_of x) 8) (e * 8 + k) nan) (λ k. get_or (eight_of x) k nan)
              (λ k q. pasted_in l (e * 8) (eight_of x) 8 b full k q)) ∙ cell_stowed x;
          there = λ k d. ap stowed_from (edge_ext (λ i. get_or (paste l (e * 8) (eight_of x) 8) (k * 8 + i) nan) (λ i. get_or l (k * 8 + i) nan)
              (λ i q. pasted_out l (e * 8) (eight_of x) 8 b full (k * 8 + i) (beyond k i q (apart k e d))));
        }

-- ---- a cell replaced where it is lent
stowing_in : (l : List Float) (e : ℕ) (x : Result Transform Failure) → e < length l / 8 → stowing l e x ≡ with_cell l e x
unfolding stowing
stowing_in l e x h = sym (taken l (lt-ltb e (length l / 8) h) refl)

stowing_not : (l : List Float) (e : ℕ) (x : Result Transform Failure) → length l / 8 ≤ e → stowing l e x ≡ l
unfolding stowing
stowing_not l e x h = sym (left (with_cell l e x) (le-ltb e (length l / 8) h) refl)

pub stowing_stows : (l : List Float) (e : ℕ) (x : Result Transform Failure) → e < length l / 8 → Stows l (stowing l e x) e x
stowing_stows l e x h = subst (λ (m : List Float). Stows l m e x) (sym (stowing_in l e x h)) (cell_stows l e x (omega arith))

-- either it is lent, or nothing changes
stowed_or_same : (l : List Float) (e : ℕ) (x : Result Transform Failure) → (Stows l (stowing l e x) e x) ⊎ (stowing l e x ≡ l)
stowed_or_same l e x = go (ltb e (length l / 8)) (ltb-true e (length l / 8)) (ltb-false e (length l / 8))
  where
    go : (b : Bool) → (b ≡ true → e < length l / 8) → (b ≡ false → length l / 8 ≤ e) → (Stows l (stowing l e x) e x) ⊎ (stowing l e x ≡ l)
    go true p q = inl (stowing_stows l e x (p refl))
    go false p q = inr (stowing_not l e x (q refl))

pub stowing_length : (l : List Float) (e : ℕ) (x : Result Transform Failure) → length (stowing l e x) ≡ length l
stowing_length l e x = go (stowed_or_same l e x)
  where
    go : (Stows l (stowing l e x) e x) ⊎ (stowing l e x ≡ l) → length (stowing l e x) ≡ length l
    go (inl h) = h.len
    go (inr h) = ap length h

-- how the code reads a cell
module _ (r : Edge) where
  pub stowed_had : lt (num 0) r.weight ≡ true → Ok r.measured ≡ stowed_from r
  unfolding stowed_from
  stowed_had h = taken _ h refl

  pub stowed_not : lt (num 0) r.weight ≡ false → Err Numerical ≡ stowed_from r
  unfolding stowed_from
  stowed_not h = left _ h refl

-- ---- the first cells, of poses
pub known_small : (n : ℕ) → known_poses n ≤ 256
unfolding known_poses if_then
known_small n = go (ltb (n / 12) 256) (ltb-true (n / 12) 256)
  where
    go : (b : Bool) → (b ≡ true → n / 12 < 256) → if_then b (n / 12) 256 ≤ 256
    go true h = let q : n / 12 < 256 = h refl in omega arith
    go false h = omega arith

pub with_bases_length : (poses : List Float) (n : ℕ) (l : List Float) → length (with_bases poses n l) ≡ length l
unfolding with_bases
with_bases_length poses zero l = refl
with_bases_length poses (suc n) l = stowing_length (with_bases poses n l) n (checked_transform (pose_at poses n)) ∙ with_bases_length poses n l

pub with_bases_lem : (poses : List Float) (n : ℕ) (l : List Float) → n ≤ length l / 8 → Based poses (with_bases poses n l) n
unfolding with_bases
with_bases_lem poses zero l h = λ x q. absurd (omega arith)
with_bases_lem poses (suc n) l h =
    λ z o. below_more (λ x. stowed_in (stowing m n y) x ≡ checked_transform (pose_at poses x)) n
    (λ x q. holds.there x (ne_of_lt q) ∙ with_bases_lem poses n l (omega arith) x q)
    holds.here z (omega arith)
  where
    m : List Float
    m = with_bases poses n l

    y : Result Transform Failure
    y = checked_transform (pose_at poses n)

    holds : Stows m (stowing m n y) n y
    holds = stowing_stows m n y (subst (λ (k : ℕ). n < k / 8) (sym (with_bases_length poses n l)) (omega arith))

pub with_bases_more : (poses : List Float) (n : ℕ) (l : List Float) {m m' : List Float} {y : Result Transform Failure} {p : Pose}
    → m ≡ with_bases poses n l → m' ≡ stowing m n y → y ≡ checked_transform p → p ≡ pose_at poses n → m' ≡ with_bases poses (n + 1) l
unfolding with_bases
with_bases_more poses n l i h e f = rw (add-one, h, i, e, f)

-- the first 256 at most, in room for 256
pub filled_based : (poses : List Float) {l' : List Float} {n : ℕ} (l : List Float)
    → l' ≡ with_bases poses (known_poses (length poses)) l → n ≡ known_poses (length poses) → length l ≡ 2048 → Based poses l' n
filled_based poses {l'} {n} l e f q = rw (e, f) (with_bases_lem poses (known_poses (length poses)) l (omega (arith, q, known_small (length poses))))

-- the transform of a pose, from its cell or worked out
pub base_based : (poses l : List Float) (n x : ℕ) → Based poses l n → base_in l n poses x ≡ checked_transform (pose_at poses x)
unfolding base_in if_then
base_based poses l n x h = go (ltb x n) (ltb-true x n)
  where
    go : (b : Bool) → (b ≡ true → x < n) → if_then b (stowed_in l x) (checked_transform (pose_at poses x)) ≡ checked_transform (pose_at poses x)
    go true q = h x (q refl)
    go false q = refl

-- the residual of an edge by the cells of its ends
pub residual_stowed : (poses l : List Float) (n a b : ℕ) (e : Edge) {z : Result Linked Failure} {r : Result Twist Failure} → Based poses l n
    → z ≡ linked_of (base_in l n poses a) (base_in l n poses b) e → r ≡ six_in z → r ≡ residual_of (pose_at poses a) (pose_at poses b) e
residual_stowed poses l n a b e based p q = residual_by (pose_at poses a) (pose_at poses b) e (base_based poses l n a based) (base_based poses l n b based) p q

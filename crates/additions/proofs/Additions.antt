-- A row of additions to places that lie apart: it goes well exactly if every sum is finite, and then each sum stands in its place. Assumes nothing.
use mathlib.Core.Path.{◌≡◌, refl, sym, ap, ◌∙◌}
use mathlib.Core.Bool.{Bool, true, false, not, ◌||◌}
use mathlib.Core.List.{List}
use Prim.Native.Nat.{ℕ, suc, ◌<◌, ◌≤◌}
use native.Mathlib.Omega.{arith}
use lib.Dec.{eqb, ltb}
use lib.ListN.{length, get_or, set, length-set}
use lib.Seq.{get_or-set_same, get_or-set_other}
use lib.Ieee.{Float, nan}
use lib.Ieee.Scale.{finite}
use borrow.Author.Tests.{lt-ltb, le-ltb, ltb-true, ltb-false, eqb-true, eqb-false}
use Rattle.numbers.specs.Notation.{◌⊞◌, if_then}
use Rattle.numbers.specs.Walks.{every, each, well, only, must_be_finite, Went}
use Rattle.additions.specs.Additions.{add_to}
use Rattle.numbers.proofs.Rows.{told, each_told}

-- addition k, where the test takes it: v k to the number at place `at k`
abbrev pub adding : (ℕ → Bool) → (ℕ → ℕ) → (ℕ → Float) → ℕ → List Float → Went × List Float
adding t at v k w = only (t k) (λ w. add_to w (at k) (v k)) w

same_below : (k m : ℕ) → (k ≡ m → ⊥) → ltb k m ≡ ltb k (suc m)
same_below k m h = go (ltb k m) (ltb-true k m) (ltb-false k m)
  where
    go : (b : Bool) → (b ≡ true → k < m) → (b ≡ false → m ≤ k) → b ≡ ltb k (suc m)
    go true f g = let l = f refl in sym (lt-ltb k (suc m) (omega arith))
    go false f g = let l = g refl in sym (le-ltb k (suc m) (omega arith))

module _ (n : ℕ) (t : ℕ → Bool) (at : ℕ → ℕ) (v : ℕ → Float) (w : List Float)
    (there : (k : ℕ) → k < n → t k ≡ true → at k < length w)
    (apart : (i k : ℕ) → i < n → k < n → t i ≡ true → t k ≡ true → at i ≡ at k → i ≡ k) where
  abbrev pub sums : ℕ → Float
  sums k = get_or w (at k) nan ⊞ v k

  -- before addition m: the sums below m stand in their places, and all other numbers are as they were
  pub record Sofar (m : ℕ) (y : List Float) : Type 0 where
    pub as_long : length y ≡ length w
    pub places : (k : ℕ) → k < n → t k ≡ true → get_or y (at k) nan ≡ if_then (ltb k m) (sums k) (get_or w (at k) nan)
    pub others : (q : ℕ) → ((k : ℕ) → k < n → t k ≡ true → q ≡ at k → ⊥) → get_or y q nan ≡ get_or w q nan

  passed : (m : ℕ) (y : List Float) → t m ≡ false → Sofar m y → Sofar (suc m) y
  passed m y e s =
      record {
        as_long = s.as_long;
        places = λ k l q.
            s.places k l q ∙ ap (λ (b : Bool). if_then b (sums k) (get_or w (at k) nan))
            (same_below k m (λ i. absurd (let z : ◌≡◌ {A = Bool} true false = sym q ∙ ap t i ∙ e in let u : ◌≡◌ {A = ℕ} 0 1 = cc in omega arith)));
        others = s.others;
      }

  stored : (m : ℕ) (y : List Float) → m < n → t m ≡ true → Sofar m y → Sofar (suc m) (set y (at m) (sums m))
  unfolding if_then
  stored m y l e s =
      record {
        as_long = length-set y (at m) (sums m) ∙ s.as_long;
        places = λ k b q. place k b q (eqb k m) (eqb-true k m) (eqb-false k m);
        others = λ q o. get_or-set_other y (at m) q (sums m) nan (o m l e) ∙ s.others q o;
      }
    where
      place : (k : ℕ) → k < n → t k ≡ true → (x : Bool) → (x ≡ true → k ≡ m) → (x ≡ false → k ≡ m → ⊥)
          → get_or (set y (at m) (sums m)) (at k) nan ≡ if_then (ltb k (suc m)) (sums k) (get_or w (at k) nan)
      place k b q true i o =
          let r : k ≡ m = i refl in
          let f : at m < length y = rw s.as_long (there m l e) in
          rw (r, lt-ltb m (suc m) (omega arith)) (get_or-set_same y (at m) (sums m) nan f)
      place k b q false i o =
          get_or-set_other y (at m) (at k) (sums m) nan (λ h. o refl (apart k m b l q e h))
          ∙ s.places k b q ∙ ap (λ (x : Bool). if_then x (sums k) (get_or w (at k) nan)) (same_below k m (o refl))

  step : (m : ℕ) → m < n → (y : List Float) → Sofar m y
      → ((adding t at v m y).0 ≡ told (not (t m) || finite (sums m))) × ((not (t m) || finite (sums m)) ≡ true → Sofar (suc m) (adding t at v m y).1)
  unfolding add_to must_be_finite if_then
  step m l y s = go (t m) refl
    where
      now : t m ≡ true → get_or y (at m) nan ⊞ v m ≡ sums m
      now e = ap (λ x. x ⊞ v m) (s.places m l e ∙ ap (λ (b : Bool). if_then b (sums m) (get_or w (at m) nan)) (le-ltb m m (omega arith)))

      go : (b : Bool) → t m ≡ b
          → ((only b (λ y. add_to y (at m) (v m)) y).0 ≡ told (not b || finite (sums m)))
          × ((not b || finite (sums m)) ≡ true → Sofar (suc m) (only b (λ y. add_to y (at m) (v m)) y).1)
      go true e = rw (now e) (refl, λ _. stored m y l e s)
      go false e = (refl, λ _. passed m y e s)

  pub all_added : ((well (each (adding t at v) n w)).0 ≡ told (every (λ k. not (t k) || finite (sums k)) n))
      × (every (λ k. not (t k) || finite (sums k)) n ≡ true → Sofar n (well (each (adding t at v) n w)).1)
  unfolding if_then
  all_added = each_told Sofar (λ k. not (t k) || finite (sums k)) (adding t at v) n w step start
    where
      start : Sofar 0 w
      start =
          record {
            as_long = refl;
            places = λ k l q. sym (ap (λ (b : Bool). if_then b (sums k) (get_or w (at k) nan)) (le-ltb k 0 (omega arith)));
            others = λ q _. refl;
          }

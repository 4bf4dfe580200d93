-- A square, an edge, a turn of the cost's loop and its ends. Assumes nothing.
use Rattle.std.specs.Prelude.{Err, Ok, Option, Result, is_some}
use mathlib.Core.Path.{◌≡◌, sym, ap, ◌∙◌}
use mathlib.Core.Bool.{Bool, true, false, not, ◌||◌}
use mathlib.Core.List.{List}
use Prim.Native.Nat.{ℕ, ◌+◌, ◌<◌}
use borrow.Author.Tests.{not-true, not-false}
use lib.ListN.{get_or}
use lib.Ieee.{Float, nan}
use Rattle.numbers.specs.Notation.{◌⊞◌, ◌⊠◌}
use Rattle.numbers.specs.Walks.{done, each, well, only, must_be_finite, Went, made}
use Rattle.numbers.proofs.Walking.{each_more, each_stop, each_end, each_all, each_early, made_ok, made_err}
use Rattle.numbers.specs.declared.Failure.{Failure}
use Rattle.rotations.specs.declared.Pose.{Pose}
use Rattle.graph.specs.Graph.{Links, is_active}
use Rattle.graph.specs.declared.Edge.{Edge}
use Rattle.residual.specs.Residuals.{residual_of}
use Rattle.costs.specs.Costs.{square_step, priced, price_at, cost_from}

-- ---- six squares; w is what the code found of the sum
module _ (six : List Float) (c : Float) (j : ℕ) {s : Float} {w : Went} (i : each (square_step six) j c ≡ done s)
    (e : w ≡ must_be_finite (s ⊞ get_or six j nan ⊠ get_or six j nan)) where
  square : (v : Went) → w ≡ v → square_step six j s ≡ (v, s ⊞ get_or six j nan ⊠ get_or six j nan)
  unfolding square_step
  square v h = rw (← e, h)

  pub square_more : w ≡ Ok tt → each (square_step six) (j + 1) c ≡ done (s ⊞ get_or six j nan ⊠ get_or six j nan)
  square_more h = each_more (square_step six) c j i (square (Ok tt) h)

  pub square_stop : {why : Failure} → w ≡ Err why → j < 6 → Err why ≡ made (well (each (square_step six) 6 c))
  square_stop {why} h l = ap made (each_early (square_step six) c j 6 i (square (Err why) h) l)

pub square_end : (six : List Float) (c : Float) (j : ℕ) {s : Float} → each (square_step six) j c ≡ done s → j ≡ 6
    → Ok s ≡ made (well (each (square_step six) 6 c))
square_end six c j i q = ap made (each_all (square_step six) c j 6 i q)

-- ---- an edge from x to y, their slots, and what the code found of these
module _ (l : Links Edge) (pose : ℕ → Pose) (k : ℕ) (c : Float) {x y : ℕ} {s t : Option ℕ} {b d : Bool}
    (ex : x ≡ l.a k) (ey : y ≡ l.b k) (es : s ≡ l.slot x) (et : t ≡ l.slot y) (eb : b ≡ is_some s) (ed : d ≡ is_some t) where
  active : (b || d) ≡ is_active l k
  active = rw (← ex, ← ey, ← es, ← et, ← eb, ← ed)

  pub passed_over : not (b || d) ≡ true → Ok c ≡ made (only (is_active l k) (price_at l pose k) c)
  passed_over h = rw (← active, not-true (b || d) h)

  pub counted : {p : Result Float Failure} → not (b || d) ≡ false → p ≡ made (priced (residual_of (pose x) (pose y) (l.measured k)) c)
      → p ≡ made (only (is_active l k) (price_at l pose k) c)
  unfolding price_at
  counted h q = rw (← active, not-false (b || d) h, ← ex, ← ey) q

-- ---- the loop; p is what the code found of a step
module _ (f : ℕ → Float → Went × Float) (c₀ : Float) (k : ℕ) {c : Float} {p : Result Float Failure} (i : each f k c₀ ≡ done c) where
  pub cost_more : {x : Float} → p ≡ made (f k c) → p ≡ Ok x → each f (k + 1) c₀ ≡ done x
  cost_more e h = each_more f c₀ k i (made_ok (f k c) (sym e ∙ h))

  pub cost_stop : {why : Failure} (n : ℕ) → p ≡ made (f k c) → p ≡ Err why → k < n → Err (record { edge = k; why = why }) ≡ cost_from (each f n c₀)
  cost_stop n e h l = sym (ap cost_from (each_stop f c₀ k n i (made_err (f k c) (sym e ∙ h)) l))

pub cost_end : (f : ℕ → Float → Went × Float) (c₀ : Float) (k : ℕ) {c : Float} (n : ℕ) → each f k c₀ ≡ done c → k ≡ n → Ok c ≡ cost_from (each f n c₀)
cost_end f c₀ k n i q = sym (ap cost_from (each_end f c₀ k n i q))

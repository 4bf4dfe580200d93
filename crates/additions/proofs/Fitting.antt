-- When a block stands within the unknowns, and what then is added or not. Assumes nothing.
use Rattle.std.specs.Prelude.{Ok}
use mathlib.Core.Path.{◌≡◌, refl, sym, ◌∙◌}
use mathlib.Core.Bool.{Bool, true, false, not, ◌&&◌}
use Prim.Native.Nat.{ℕ, ◌+◌, ◌*◌, ◌<◌, ◌≤◌}
use native.Mathlib.Nat.{mul-le-mul_left, mul-le-mul, lt_of_not-le}
use native.Mathlib.Omega.{arith}
use lib.Dec.{leb}
use borrow.Author.Tests.{le-leb, lt-leb, leb-true, not-true, not-false}
use Rattle.numbers.specs.Walks.{only, Went}
use Rattle.profile.specs.Layout.{need}
use Rattle.additions.specs.Additions.{fits}

-- so few unknowns can be counted that no place of a block overflows
pub few : (n b dof len : ℕ) → need n ≤ len → len < 18446744073709551616 → dof ≤ 6 → b ≤ n → b * dof + dof < 18446744073709551616
few n b dof len room small d h =
    let s : n < 4294967296 = lt_of_not-le (λ (q : 4294967296 ≤ n). omega (arith, mul-le-mul q q)) in
    omega (arith, mul-le-mul h d)

pub fit : (n dof b len : ℕ) → need n ≤ len → 0 < dof → dof ≤ 6 → b * dof + dof ≤ n → fits n dof b len ≡ true
fit n dof b len room some most h =
    let z : b * 1 ≤ b * dof = mul-le-mul_left b some in
    rw (le-leb (need n) len room, le-leb dof 6 most, le-leb b n (omega arith), le-leb (b * dof + dof) n h)

-- ---- the tests in turn
module _ (n dof b len : ℕ) {r : Bool} (room : r ≡ leb (need n) len) where
  pub no_room : not r ≡ true → false ≡ fits n dof b len
  no_room h = rw (sym room ∙ not-true r h)

  module _ (has : not r ≡ false) where
    pub room_had : need n ≤ len
    room_had = leb-true (need n) len (sym room ∙ not-false r has)

    pub too_wide : 6 < dof → false ≡ fits n dof b len
    too_wide h = rw (sym room ∙ not-false r has, lt-leb dof 6 h)

    pub too_far : dof ≤ 6 → n < b → false ≡ fits n dof b len
    too_far h g = rw (sym room ∙ not-false r has, le-leb dof 6 h, lt-leb b n g)

    pub last_test : dof ≤ 6 → b ≤ n → leb (b * dof + dof) n ≡ fits n dof b len
    last_test h g = rw (sym room ∙ not-false r has, le-leb dof 6 h, le-leb b n g)

-- ---- what holds of a block that fits
pub record Within (n dof b len : ℕ) : Type 0 where
  pub inside : b * dof + dof ≤ n
  pub room : need n ≤ len
  pub most : dof ≤ 6

both_true : (a b : Bool) → (a && b) ≡ true → (a ≡ true) × (b ≡ true)
both_true true b e = (refl, e)
both_true false b e = absurd (let z : ◌≡◌ {A = ℕ} 0 1 = cc in omega arith)

pub within : (n dof b len : ℕ) {r : Bool} → r ≡ fits n dof b len → not r ≡ false → Within n dof b len
within n dof b len {r} e h =
    let p = both_true (leb (need n) len) _ (sym e ∙ not-false r h) in
    let q = both_true (leb dof 6) _ p.1 in
    let s = both_true (leb b n) _ q.1 in
    record { inside = leb-true _ _ s.1; room = leb-true _ _ p.0; most = leb-true _ _ q.0 }

-- ---- nothing is added, or what the step adds
module _ {S : Type 0} (f : S → Went × S) (s : S) where
  pub nothing_added : {a r : Bool} → r ≡ a → not r ≡ true → (Ok tt, s) ≡ only a f s
  nothing_added {r = r} e h = rw (sym e ∙ not-true r h)

  pub one_added : {a r : Bool} {x : Went × S} → r ≡ a → not r ≡ false → x ≡ f s → x ≡ only a f s
  one_added {r = r} e h g = rw (sym e ∙ not-false r h) g

  pub second_outside : {a b r t : Bool} → r ≡ a → not r ≡ false → t ≡ b → not t ≡ true → (Ok tt, s) ≡ only (a && b) f s
  second_outside {r = r} {t = t} e h g k = rw (sym e ∙ not-false r h, sym g ∙ not-true t k)

  pub first_outside : {a r : Bool} (b : Bool) → r ≡ a → not r ≡ true → (Ok tt, s) ≡ only (a && b) f s
  first_outside {r = r} b e h = rw (sym e ∙ not-true r h)

  pub both_added : {a b r t : Bool} {x : Went × S} → r ≡ a → not r ≡ false → t ≡ b → not t ≡ false → x ≡ f s → x ≡ only (a && b) f s
  both_added {r = r} {t = t} e h g k q = rw (sym e ∙ not-false r h, sym g ∙ not-false t k) q

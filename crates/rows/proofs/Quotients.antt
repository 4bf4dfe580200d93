-- Products told by quotients, so that none can be too large. Assumes nothing.
use Prim.Native.Nat.{ℕ, ◌*◌, ◌/◌, ◌%◌}
use native.Mathlib.Omega.{arith}
use mathlib.Core.Path.{◌≡◌, refl}
use mathlib.Core.Bool.{Bool, true, false, not, ◌&&◌}
use borrow.Author.Tests.{ltb-true, ltb-false, leb-true, leb-false, eqb-true, eqb-false, lt-ltb, le-ltb, eq-eqb}
use lib.Dec.{eqb, ltb, leb}

pub fours : (e n : ℕ) → (eqb (e % 4) 0 && eqb (e / 4) n) ≡ eqb e (4 * n)
fours e n = go (eqb e (4 * n)) refl
  where
    apart : (a b : Bool) → eqb (e % 4) 0 ≡ a → eqb (e / 4) n ≡ b → eqb e (4 * n) ≡ false → (a && b) ≡ false
    apart true true p q y =
        let z : e % 4 ≡ 0 = eqb-true (e % 4) 0 p in
        let u : e / 4 ≡ n = eqb-true (e / 4) n q in absurd (eqb-false e (4 * n) y (omega arith))
    apart true false p q y = refl
    apart false b p q y = refl

    go : (b : Bool) → eqb e (4 * n) ≡ b → (eqb (e % 4) 0 && eqb (e / 4) n) ≡ b
    go true y = let z : e ≡ 4 * n = eqb-true e (4 * n) y in rw (eq-eqb (e % 4) 0 (omega arith), eq-eqb (e / 4) n (omega arith))
    go false y = apart (eqb (e % 4) 0) (eqb (e / 4) n) refl refl y

pub no_room : (need have : ℕ) → not (leb need have) ≡ ltb have need
no_room need have = go (leb need have) refl
  where
    go : (b : Bool) → leb need have ≡ b → not b ≡ ltb have need
    go true y = let z = leb-true need have y in rw (le-ltb have need z)
    go false y = let z = leb-false need have y in rw (lt-ltb have need z)

pub by_24 : (have n : ℕ) → ltb (have / 24) n ≡ ltb have (24 * n)
by_24 have n = go (ltb have (24 * n)) refl
  where
    go : (b : Bool) → ltb have (24 * n) ≡ b → ltb (have / 24) n ≡ b
    go true y = let z = ltb-true have (24 * n) y in lt-ltb (have / 24) n (omega arith)
    go false y = let z = ltb-false have (24 * n) y in le-ltb (have / 24) n (omega arith)

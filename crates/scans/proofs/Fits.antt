-- A count by a quotient without a rest: so many numbers are m for each of n exactly where they divide by m into n. Assumes nothing.
use mathlib.Core.Path.{◌≡◌, refl, sym, ap, ◌∙◌}
use mathlib.Core.Bool.{Bool, true, false, not, ◌||◌}
use Prim.Native.Nat.{ℕ, ◌*◌, ◌/◌, ◌%◌, ◌≤◌}
use native.Mathlib.Omega.{arith}
use borrow.Author.Tests.{eqb-true, eqb-false, eq-eqb, ne_eqb, le-ltb}
use lib.Dec.{eqb}
use lib.Ieee.{binary32, of_bits, of_fields, odd, round}
use Rattle.numbers.specs.Notation.{num, ratio}
use Rattle.scans.specs.ScanRows.{unfit_scan}

-- two tests against one
both : (a b : Bool) {t : Bool} → (a ≡ true → b ≡ true → t ≡ true) → (a ≡ false → t ≡ false) → (b ≡ false → t ≡ false) → (not a || not b) ≡ not t
both true true f g h = ap not (sym (f refl refl))
both true false f g h = ap not (sym (h refl))
both false b f g h = ap not (sym (g refl))

pub by_twelve : (p n : ℕ) → (not (eqb (p % 12) 0) || not (eqb (p / 12) n)) ≡ not (eqb p (12 * n))
by_twelve p n =
    both (eqb (p % 12) 0) (eqb (p / 12) n)
    (λ a b. let x : p % 12 ≡ 0 = eqb-true _ _ a in let y : p / 12 ≡ n = eqb-true _ _ b in eq-eqb p (12 * n) (omega arith))
    (λ a. ne_eqb p (12 * n) (λ e. eqb-false (p % 12) 0 a (omega arith)))
    (λ b. ne_eqb p (12 * n) (λ e. eqb-false (p / 12) n b (omega arith)))

pub by_six : (p n : ℕ) → (not (eqb (p % 6) 0) || not (eqb (p / 6) n)) ≡ not (eqb p (6 * n))
by_six p n =
    both (eqb (p % 6) 0) (eqb (p / 6) n)
    (λ a b. let x : p % 6 ≡ 0 = eqb-true _ _ a in let y : p / 6 ≡ n = eqb-true _ _ b in eq-eqb p (6 * n) (omega arith))
    (λ a. ne_eqb p (6 * n) (λ e. eqb-false (p % 6) 0 a (omega arith)))
    (λ b. ne_eqb p (6 * n) (λ e. eqb-false (p / 6) n b (omega arith)))

-- row 33: poses that are not twelve numbers a keyframe
pub unfit_poses_lem : (ids poses loops loop_poses original : ℕ) → 2 ≤ ids → (not (eqb (poses % 12) 0) || not (eqb (poses / 12) ids)) ≡ true
    → true ≡ unfit_scan ids poses loops loop_poses original
unfolding unfit_scan
unfit_poses_lem ids poses loops loop_poses original h e = rw (le-ltb ids 2 h, sym (by_twelve poses ids) ∙ e)

-- ---- the numbers' zero
pub zero32 : of_bits binary32 0 ≡ num 0
unfolding of_bits of_fields odd ratio round
zero32 = refl

-- Products and sums of products are the same in either order. Assumes nothing.
use mathlib.Core.Path.{◌≡◌, refl, ap, fun_ext}
use mathlib.Core.Bool.{Bool, true, false}
use mathlib.Core.List.{List}
use Prim.Native.Nat.{ℕ, ◌*◌}
use native.Mathlib.Nat.{mul_comm}
use lib.Ieee.{Float, nan, inf, fin, Format, binary32, up, down, unlike, mul}
use Rattle.numbers.specs.Walks.{sum_of}
use Rattle.additions.specs.Additions.{cell, dot_of}

unlike_turned : (s t : Bool) → unlike s t ≡ unlike t s
unlike_turned true true = refl
unlike_turned true false = refl
unlike_turned false true = refl
unlike_turned false false = refl

pub mul_commutes : (f : Format) (a b : Float) → mul f a b ≡ mul f b a
unfolding mul
mul_commutes f nan nan = refl
mul_commutes f nan (inf t) = refl
mul_commutes f nan (fin t n d) = refl
mul_commutes f (inf s) nan = refl
mul_commutes f (inf s) (inf t) = ap inf (unlike_turned s t)
mul_commutes f (inf s) (fin t n d) = rw (unlike_turned s t)
mul_commutes f (fin s m e) nan = refl
mul_commutes f (fin s m e) (inf t) = rw (unlike_turned s t)
mul_commutes f (fin s m e) (fin t n d) = rw (unlike_turned s t, mul_comm (m * up e) (n * up d), mul_comm (down e) (down d))

-- column i of a times column j of b
pub dot_turned : (a : List (List Float)) (i : ℕ) (b : List (List Float)) (j : ℕ) → dot_of a i b j ≡ dot_of b j a i
dot_turned a i b j = ap (λ (f : ℕ → Float). sum_of binary32 f 6) (fun_ext (λ k. mul_commutes binary32 (cell a k i) (cell b k j)))

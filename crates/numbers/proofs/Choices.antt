-- How a proof goes by a test that held, and by one that did not. Assumes nothing.
use Rattle.std.proofs.Common.{◌≡◌, Bool, true, false}
use Rattle.numbers.specs.Notation.{if_then}

pub taken : {A : Type 0} {b : Bool} {r x : A} (y : A) → b ≡ true → r ≡ x → r ≡ if_then b x y
unfolding if_then
taken y p q = rw p q

pub left : {A : Type 0} {b : Bool} {r y : A} (x : A) → b ≡ false → r ≡ y → r ≡ if_then b x y
unfolding if_then
left x p q = rw p q

use Rattle.std.proofs.Common.{◌≡◌, ℕ, ◌<◌, Bool, true, false, Result, Ok, Err, OkIff, ltb, refl, ◌∙◌}
use Rattle.std.specs.Result.{result_unwrap_or}
use borrow.Author.Tests.{lt-ltb, ltb-true}
use Rattle.numbers.proofs.Choices.{taken, left}
use Rattle.telling.specs.Telling.{place32}
use Rattle.telling.proofs.place_of.Goals as goal

fits32 : {E : Type 0} (n : ℕ) (r : Result ℕ E) → OkIff r (n < 4294967296) n → result_unwrap_or r 4294967295 ≡ place32 n
unfolding place32
fits32 n (Ok x) h = taken _ (lt-ltb n 4294967296 h.0) h.1
fits32 n (Err e) h = go (ltb n 4294967296) refl
  where
    go : (b : Bool) → ltb n 4294967296 ≡ b → 4294967295 ≡ place32 n
    go true q = absurd (h (ltb-true n 4294967296 q))
    go false q = left _ q refl

pub returns : goal.returns
returns c = c.unwrap_or.ensures ∙ fits32 _ _ c.try_from.ensures

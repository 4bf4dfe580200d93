-- What `?` hands on where both errors are of one type: the error itself. Assumes nothing.
use Rattle.std.proofs.Common.{◌≡◌, ℕ, Result, Ok, Err, Option, Some, None, IsErrAnd, refl, ap, ◌∙◌, arith}
use Rattle.std.specs.Option.{ok_or}
use Rattle.std.specs.Result.{result_ok}

pub handed_on : {T E : Type 0} {e : E} (r : Result T E) → IsErrAnd r (λ y. y ≡ e) → r ≡ Err e
handed_on (Ok x) h = absurd h
handed_on (Err y) h = ap Err h

-- an option, taken as a result: what `?` gave of it, or what it had to say where there is none
pub option_some : {T E : Type 0} (o : Option T) {r : Result T E} {x : T} → o ≡ result_ok r → r ≡ Ok x → o ≡ Some x
option_some o {r = r} p q = p ∙ ap result_ok q

pub option_none : {T E : Type 0} (o : Option T) {e d : E} {r : Result T E} → r ≡ ok_or o e → r ≡ Err d → (o ≡ None) × (d ≡ e)
option_none None p q = (refl, cc)
option_none (Some x) p q = absurd (let z : ◌≡◌ {A = ℕ} 0 1 = cc in omega arith)

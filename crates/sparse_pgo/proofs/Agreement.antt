-- The promises of `optimize` and of `optimize_with_gravity` leave no choice: two answers, each with what is left in the lent numbers, that both meet the
-- promise for the same input are equal, and so are the numbers. The promise is the contract's own, as the toolchain reads it (`Post` of `Reads`).
-- Assumes nothing.
use Rattle.numbers.specs.declared.Refusal.{Refusal}
use Rattle.sparse_pgo.specs.declared.Joined.{Joined}
use Rattle.std.specs.Prelude.{Result}
use mathlib.Core.Path.{◌≡◌, ap}
use contract.Lifetimes.{Lfts}
use denote.Triple.Clauses.{AtExit}
use borrow.Fn.World.{ArgsD}
use Rattle.sparse_pgo.specs.Optimize.{After}
use Rattle.sparse_pgo.proofs.Demands.{agree}
use Rattle.sparse_pgo.specs.contracts.optimize as optimize
use Rattle.sparse_pgo.proofs.optimize.Reads as reads
use Rattle.sparse_pgo.specs.contracts.optimize_with_gravity as with-gravity
use Rattle.sparse_pgo.proofs.optimize_with_gravity.Reads as gravity-reads

-- of two answers with what is left in work32, work64 and the output
abbrev pub Agreed : After → After → Type 0
Agreed x y = (x.answer ≡ y.answer) × (x.work32 ≡ y.work32) × (x.work64 ≡ y.work64) × (x.out ≡ y.out)

agreed : (x y : After) → x ≡ y → Agreed x y
agreed x y e = (ap (λ (z : After). z.answer) e, ap (λ (z : After). z.work32) e, ap (λ (z : After). z.work64) e, ap (λ (z : After). z.out) e)

-- The parameters, in order: poses, ends, edges, fixed, settings, work32, work64, out; `lent` as they are lent, s and t as they are at exit.
module _ (κs : Lfts 7) (lent : ArgsD optimize.signature κs) where
  abbrev pub left : Result Joined Refusal → AtExit optimize.ended κs → After
  left r s = let lent = s.1.1.1.1.1 in record { answer = r; work32 = lent.0.now; work64 = lent.1.0.now; out = lent.1.1.0.now }

  pub optimize_agrees : (r q : Result Joined Refusal) (s t : AtExit optimize.ended κs) → reads.Post κs lent r s → reads.Post κs lent q t → Agreed (left r s) (left q t)
  optimize_agrees r q s t h k = agreed (left r s) (left q t) (agree (left r s) (left q t) h k)

-- the same, gravity before them
module _ (κs : Lfts 7) (lent : ArgsD with-gravity.signature κs) where
  abbrev pub left_with : Result Joined Refusal → AtExit with-gravity.ended κs → After
  left_with r s = let lent = s.1.1.1.1.1.1 in record { answer = r; work32 = lent.0.now; work64 = lent.1.0.now; out = lent.1.1.0.now }

  pub optimize_with_gravity_agrees : (r q : Result Joined Refusal) (s t : AtExit with-gravity.ended κs) → gravity-reads.Post κs lent r s → gravity-reads.Post κs lent q t
      → Agreed (left_with r s) (left_with q t)
  optimize_with_gravity_agrees r q s t h k = agreed (left_with r s) (left_with q t) (agree (left_with r s) (left_with q t) h k)

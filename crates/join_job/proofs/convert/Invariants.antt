-- Invariant: the first i are made.
use Rattle.std.proofs.Common.{◌≡◌, length, take}
use Rattle.std.specs.List.{AllZip}
use Rattle.join_job.proofs.convert.Given as goal

abbrev pub invariant-loop-i : goal.invariant-loop-i
invariant-loop-i g l = (length l.to ≡ length l.initial.to) × AllZip (λ x y. goal.F-post g l.made x y) (take l.i l.from) (take l.i l.to)

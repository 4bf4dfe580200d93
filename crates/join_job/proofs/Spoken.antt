-- What the programs say of a job: texts one behind another, and every line is shown whole. Assumes nothing.
use Rattle.std.specs.Prelude.{Ok, Err, Result}
use Rattle.numbers.specs.declared.Refusal.{Refusal}
use Prim.Native.Nat.{ℕ, ◌≤◌}
use native.Mathlib.Omega.{arith}
use mathlib.Core.Path.{◌≡◌, ap, ◌∙◌}
use mathlib.Core.List.{List, ◌++◌}
use lib.Dec.{lit≤}
use lib.ListN.{length, length-append}
use Rattle.printable.specs.declared.Printable.{Printable}
use Rattle.printable.specs.declared.Printable.TheVariants as printable
use Rattle.line.specs.declared.Line.{Line}
use Rattle.line.specs.Text.{decimal, empty, with_text, line_of, shown}
use Rattle.line.proofs.Lines.{text_after, shown_whole, decimal_length, ran_shown, refused_shown}
use Rattle.line.proofs.FloatSamples.{float_length}
use Rattle.join_job.specs.Joining.{report_text, printable_text, second_text}
use Rattle.join_job.specs.declared.Report.{Report}

pub three_texts : (a b c : List ℕ) → with_text (with_text (line_of a) b) c ≡ line_of (a ++ b ++ c)
three_texts a b c = ap (λ (x : Line). with_text x c) (text_after empty a b) ∙ text_after empty (a ++ b) c

-- ---- every line is shown whole

pub first_shown : (r : Result Report Refusal) → shown (line_of (report_text r)) ≡ report_text r
first_shown (Ok r) = ran_shown r.poses r.edges r.iterations r.converged
first_shown (Err r) = refused_shown r.number r.place

printable_short : (p : Printable) → length (printable_text p) ≤ 256
unfolding printable_text decimal
printable_short printable.Yes = lit≤ tt
printable_short printable.NoResidual = lit≤ tt
printable_short (printable.NotConverged n l) = let p = decimal_length 20 n in let q = decimal_length 20 l in simp length-append (omega arith)
printable_short (printable.Tipped x) = let p = float_length x in simp length-append (omega arith)
printable_short (printable.CostKept x y) = let p = float_length x in let q = float_length y in simp length-append (omega arith)
printable_short (printable.LastWorse x y) = let p = float_length x in let q = float_length y in simp length-append (omega arith)

pub second_shown : (r : Result Report Refusal) → shown (line_of (second_text r)) ≡ second_text r
second_shown (Ok r) = shown_whole (printable_text r.printable) (printable_short r.printable)
second_shown (Err r) = shown_whole _ (lit≤ tt)

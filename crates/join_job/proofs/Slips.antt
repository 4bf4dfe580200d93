-- The second line's words, computed at single cases, which any slip of its words or in the order of its numbers would break. Assumes nothing.
use Rattle.std.specs.Prelude.{Ok}
use mathlib.Core.Path.{◌≡◌, refl}
use mathlib.Core.Bool.{true}
use mathlib.Core.List.{[], ◌∷◌, map}
use lib.Ieee.{to_bits, to_unsigned, neg, eq, lt, add, mul, div}
use Rattle.numbers.specs.Notation.{num, ratio, if_then}
use Rattle.numbers.specs.Walks.{table}
use Rattle.printable.specs.declared.Printable.{Printable}
use Rattle.printable.specs.declared.Printable.TheVariants as printable
use Rattle.line.specs.Text.{ascii, decimal}
use Rattle.line.specs.FloatText.{raised, lowered, repeated, scaled_of, whole_part, rounded_six, digits_text, pointed, plain_text, power_text, six_text}
use Rattle.line.specs.FloatText.{size_text, float_text}
use Rattle.join_job.specs.Joining.{printable_text, second_text}

pub second_lines :
    map (λ (p : Printable). second_text (Ok (record { poses = 2; edges = 1; iterations = 30; converged = true; printable = p }))) (
    printable.Yes
    ∷ printable.NoResidual
    ∷ printable.NotConverged 30 40
    ∷ printable.Tipped (ratio 1 2)
    ∷ printable.CostKept (num 1) (num 2)
    ∷ printable.LastWorse (ratio 1 4) (ratio 1 2)
    ∷ []
    )
    ≡ ascii "may be printed: yes\n"
    ∷ ascii "may be printed: no, the last edge has no residual\n"
    ∷ ascii "may be printed: no, not converged (iterations 30, limit 40)\n"
    ∷ ascii "may be printed: no, gravity tipped (smallest cosine 0.500000, least 0.999999995)\n"
    ∷ ascii "may be printed: no, the cost did not fall (before 1.00000, after 2.00000)\n"
    ∷ ascii "may be printed: no, the last edge got worse (before 0.250000, after 0.500000)\n"
    ∷ []
unfolding printable_text float_text size_text six_text power_text plain_text pointed digits_text rounded_six whole_part scaled_of repeated lowered raised
    if_then table decimal ratio to_bits to_unsigned neg eq lt add mul div
second_lines = refl

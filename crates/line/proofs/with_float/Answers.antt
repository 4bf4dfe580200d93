use Rattle.std.proofs.Common.{sym, refl, ap, ◌∙◌, le-leb}
use borrow.Author.Tests.{lt-leb}
use lib.Ieee.{ne}
use Rattle.numbers.proofs.Choices.{taken, left}
use Rattle.line.specs.Text.{with_text}
use Rattle.line.specs.FloatText.{float_text}
use Rattle.line.proofs.FloatLaws.{nan_differs}
use Rattle.line.proofs.Lines.{text_after}
use Rattle.line.proofs.with_float.Goals as goal

pub returns-then-is_nan : goal.returns-then-is_nan
unfolding float_text ne
returns-then-is_nan c =
    c.with_text.ensures ∙ ap (with_text _) (taken _ (sym (nan_differs c.args.x) ∙ sym c.is_nan.ensures.value ∙ c.if-is_nan.true) refl)

pub returns-then-x-ge9223372036854775808 : goal.returns-then-x-ge9223372036854775808
unfolding float_text ne
returns-then-x-ge9223372036854775808 c =
    let number = sym (nan_differs c.args.x) ∙ sym c.is_nan.ensures.value ∙ c.if-is_nan.false in
    rw (c.with_size.ensures, c.with_text-then-x-ge9223372036854775808.ensures)
    (text_after _ _ _ ∙ ap (with_text _) (left _ number (taken _ (le-leb _ _ c.if-x-ge9223372036854775808.true) refl)))

pub returns : goal.returns
unfolding float_text ne
returns c =
    let number = sym (nan_differs c.args.x) ∙ sym c.is_nan.ensures.value ∙ c.if-is_nan.false in
    c.with_size-2.ensures ∙ ap (with_text _) (left _ number (left _ (lt-leb _ _ c.if-x-ge9223372036854775808.false) refl))

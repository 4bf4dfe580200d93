use Rattle.std.specs.Prelude.{Some}
use mathlib.Core.Path.{sym, ap, ◌∙◌, subst}
use Prim.Native.Nat.{◌<◌}
use lib.Dec.{T}
use lib.Ieee.{binary32, fits}
use borrow.Author.Rules.{rules}
use Rattle.decisions.specs.Run.{iterations}
use Rattle.decisions.specs.Machine.{state_of}
use Rattle.decisions.specs.declared.Next.{Next}
use Rattle.sparse_pgo.proofs.Running.{counted}
use Rattle.exports.specs.Exported.{decision_of, decision_from}
use Rattle.exports.proofs.Telling.{few_iterations}
use Rattle.exports.proofs.decide.Goals as goal

pub returns-in-Err : goal.returns-in-Err
returns-in-Err c =
    ap (decision_from c.args.set c.args.cost c.args.events.now c.args.prices.now)
    (sym c.in-Err.is ∙ c.validate_settings.ensures)

pub returns-in_default-n : goal.returns-in_default-n
returns-in_default-n c =
    ap (decision_of c.args.cost) (sym c.in_default-n.is ∙ c.drive-n.ensures)
    ∙ ap (decision_from c.args.set c.args.cost c.args.events.now c.args.prices.now)
    (sym c.in_default.is ∙ c.validate_settings.ensures)

pub overflow_add-s : goal.overflow_add-s
overflow_add-s c =
    let damping-fits : T (fits binary32 c.args.set.damping) = search rules in
    let fine = sym c.validate_settings.ensures ∙ c.in_default.is in
    record {
      fits = counted c.in-Over.is
          (subst (λ (n : Next). iterations (state_of n) < 4294967296) (sym c.drive-n.ensures)
          (few_iterations c.args.set c.args.cost _ (damping-fits) fine));
    }

pub returns : goal.returns
returns c =
    ap Some c.answer_of.ensures ∙ ap (decision_of c.args.cost) (sym c.in-Over.is ∙ c.drive-n.ensures)
    ∙ ap (decision_from c.args.set c.args.cost c.args.events.now c.args.prices.now)
    (sym c.in_default.is ∙ c.validate_settings.ensures)

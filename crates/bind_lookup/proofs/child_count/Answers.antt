-- `bind_lookup::child_count` meets its contract.
use mathlib.Core.Path.{ap, ◌∙◌}
use Rattle.fields.proofs.Laws.Answer.{passed_on}
use Rattle.bind_lookup.specs.ChildLookup.{count_answer}
use Rattle.bind_lookup.proofs.Laws.Judged.{count-refused, count-accepted}
use Rattle.bind_lookup.proofs.child_count.Goals as goal

pub returns-in_err-clean : goal.returns-in_err-clean
returns-in_err-clean c =
    let f = c.in_err-clean.field-0.0 in
    ap count_answer (passed_on f c.from_residual.result c.from_residual.ensures.1) ∙ count-refused c.args.content.now f c.in_err-clean.ensures

pub returns : goal.returns
returns c =
    let m = c.in_ok-clean.clean in
    (λ i. record { number = 0; count = c.child_count.ensures i; clean = m }) ∙ count-accepted c.args.content.now m c.in_ok-clean.ensures

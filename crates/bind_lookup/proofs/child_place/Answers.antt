-- `bind_lookup::child_place` meets its contract: the fault of the content, then the count.
use mathlib.Core.Path.{refl, ap, ◌∙◌}
use native.Mathlib.Omega.{arith}
use Rattle.fields.proofs.Laws.Answer.{passed_on}
use Rattle.bind_lookup.specs.ChildLookup.{place_answer}
use Rattle.bind_lookup.proofs.Laws.Judged.{place-of-refused, place-of-found, place-of-missing}
use Rattle.bind_lookup.proofs.child_place.Goals as goal

pub returns-in_err-clean : goal.returns-in_err-clean
returns-in_err-clean c =
    let f = c.in_err-clean.field-0.0 in
    ap place_answer (passed_on f c.from_residual.result c.from_residual.ensures.1) ∙ place-of-refused c.args.content.now f c.in_err-clean.ensures c.args.i

pub returns-then-child_count-i : goal.returns-then-child_count-i
returns-then-child_count-i c = place-of-missing c.args.content.now c.in_ok-clean.clean c.in_ok-clean.ensures c.args.i (omega arith)

pub returns : goal.returns
returns c =
    let i = c.args.i in
    c.place_at.ensures ∙ place-of-found c.args.content.now c.in_ok-clean.clean c.in_ok-clean.ensures i i refl (omega arith)

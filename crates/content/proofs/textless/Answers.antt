-- `content::textless` meets its contract.
use mathlib.Core.Bool.{true}
use mathlib.Core.Path.{sym, ap, ◌∙◌}
use Rattle.fields.specs.Answer.{checked}
use Rattle.fields.specs.Fault.{number_of}
use Rattle.fields.proofs.Laws.Answer.{mark_is, refusal_is}
use Rattle.content.proofs.textless.Goals as goal

pub returns-in-Ok : goal.returns-in-Ok
returns-in-Ok c = mark_is true ∙ ap (λ r. checked (number_of r) true) (sym c.in-Ok.is)

pub returns-in-Err : goal.returns-in-Err
returns-in-Err c = refusal_is c.in-Err.fault true ∙ ap (λ r. checked (number_of r) true) (sym c.in-Err.is)

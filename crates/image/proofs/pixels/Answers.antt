-- `image::pixels` meets its contract: the law of each case.
use mathlib.Core.Path.{sym, ◌∙◌}
use Rattle.fields.proofs.Laws.Answer.{fault_some}
use Rattle.image.proofs.Laws.{pixels-accepted, pixels-refused}
use Rattle.image.proofs.pixels.Goals as goal

pub returns-in-Ok : goal.returns-in-Ok
returns-in-Ok c = c.rest.ensures ∙ sym (pixels-accepted _ (sym c.in-Ok.ensures))

pub returns-in-Err : goal.returns-in-Err
returns-in-Err c = c.first.ensures ∙ sym (pixels-refused _ (λ z. fault_some c.in-Err.field-0 (c.in-Err.ensures ∙ z)))

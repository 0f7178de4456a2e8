-- `panel::Panel::receive` meets its contract: the laws of a message that is refused as it is judged, and of one that is not.
use mathlib.Core.Path.{refl, sym, ◌∙◌}
use Rattle.std.proofs.Common.{rules}
use Rattle.std.specs.Prelude.{◌≡◌}
use Rattle.fields.specs.Fault.{fault_number, number_of}
use Rattle.panel.specs.Calls.{panel_of}
use Rattle.fields.proofs.Laws.Answer.{fault_some}
use Rattle.panel.proofs.Laws.Calls.{message-judged, message-counted}
use Rattle.panel.proofs.Panel.receive.Goals as goal

pub returns-in_err-read : goal.returns-in_err-read
returns-in_err-read c =
    let a = c.args in
    let r = c.from_residual.result in
    let f : number_of r ≡ fault_number c.in_err-read.field-0.0 = search rules in
    message-judged (panel_of a.self.now) a.clock a.bytes.now (number_of r) (f ∙ c.in_err-read.ensures.number) (λ z. fault_some _ (sym f ∙ z))

pub returns : goal.returns
returns c =
    let a = c.args in
    c.count_by_label.ensures
    ∙ message-counted (panel_of a.self.now) a.clock a.bytes.now 0 c.in_ok-read.ensures.number refl _ c.in_ok-read.ensures.read

-- `panel::Panel::set_link` meets its contract: the laws of a clock that is behind, and of a link call that is accepted.
use mathlib.Core.Path.{sym, ◌∙◌}
use Rattle.std.proofs.Common.{rules}
use Rattle.std.specs.Prelude.{◌≡◌}
use Rattle.fields.specs.Fault.{fault_number, number_of}
use Rattle.panel.specs.Calls.{panel_of}
use Rattle.fields.proofs.Laws.Answer.{fault_some}
use Rattle.panel.proofs.Laws.Calls.{link-refused, link-done}
use Rattle.panel.proofs.Panel.set_link.Goals as goal

pub returns-in_err-clock_fault : goal.returns-in_err-clock_fault
returns-in_err-clock_fault c =
    let a = c.args in
    let r = c.from_residual.result in
    let f : number_of r ≡ fault_number c.in_err-clock_fault.field-0.0 = search rules in
    link-refused a.link.up a.link.layout (panel_of a.self.now) a.link.clock (number_of r) (sym (f ∙ c.in_err-clock_fault.ensures)) (λ z. fault_some _ (sym f ∙ z))

pub returns : goal.returns
returns c =
    let a = c.args in
    link-done a.link.up a.link.layout (panel_of a.self.now) a.link.clock (sym c.in_ok-clock_fault.ensures) _ c.relink_all.ensures

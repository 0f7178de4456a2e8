-- `panel::Panel::link_up` meets its contract: a refusal gives back the panel that it got.
use mathlib.Core.Path.{refl}
use Rattle.history.specs.Calls.{link_up}
use Rattle.panel.proofs.Laws.Refusals.{call_kept}
use Rattle.panel.proofs.Panel.link_up.Goals as goal

pub returns-clause-refused : goal.returns-clause-refused
returns-clause-refused c =
    let a = c.args in
    call_kept c.set_link-answer.result a.self c.set_link-answer.new.self (link_up a.layout a.clock) _ refl c.set_link-answer.ensures

-- `panel::Panel::message` meets its contract: a refusal gives back the panel that it got.
use mathlib.Core.Path.{refl}
use Rattle.history.specs.Calls.{message}
use Rattle.panel.proofs.Laws.Refusals.{call_kept}
use Rattle.panel.proofs.Panel.message.Goals as goal

pub returns-clause-refused : goal.returns-clause-refused
returns-clause-refused c =
    let a = c.args in
    call_kept c.receive-answer.result a.self c.receive-answer.new.self (message a.clock a.bytes.now) _ refl c.receive-answer.ensures

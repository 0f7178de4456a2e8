-- `panel::Panel::add` meets its contract: a refusal gives back the panel that it got.
use Rattle.panel.proofs.Laws.Refusals.{add_kept}
use Rattle.panel.proofs.Panel.add.Goals as goal

pub returns-clause-refused : goal.returns-clause-refused
returns-clause-refused c =
    let a = c.args in
    add_kept c.enter-answer.result a.self c.enter-answer.new.self a.type_text.now a.name.now a.hold_time c.enter-answer.ensures

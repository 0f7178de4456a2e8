-- `bind_cursor::first_child` meets its contract: the case of a refusal, and that of a first child.
use mathlib.Core.Path.{sym, ap, ◌∙◌}
use borrow.Author.Tests.{eq-eqb, ne_eqb}
use Rattle.fields.specs.Answer.{Checked}
use Rattle.fields.proofs.Laws.Answer.{fault_some}
use Rattle.content.specs.ContentCheck.{deepest}
use Rattle.content.proofs.Laws.ChildrenWalk.{bind-fault}
use Rattle.bind_cursor.specs.Cursor.{first_of}
use Rattle.bind_cursor.proofs.first_child.Goals as goal

pub returns-in-Ok : goal.returns-in-Ok
unfolding first_of
returns-in-Ok c =
    let s = c.args.content.now in
    let e = ap (λ (x : Checked). x.number) c.in-Ok.ensures ∙ bind-fault deepest s in
    let m = ap (λ (x : Checked). x.clean) c.in-Ok.ensures in
    simp (eq-eqb _ 0 (sym e)) cc

pub returns-in-Err : goal.returns-in-Err
unfolding first_of
returns-in-Err c =
    let s = c.args.content.now in
    let e = ap (λ (x : Checked). x.number) c.in-Err.ensures ∙ bind-fault deepest s in
    simp (ne_eqb _ 0 (λ z. fault_some c.in-Err.fault (e ∙ z))) cc

-- `bind_lookup::child_name` meets its contract.
use mathlib.Core.Path.{sym, ap, ◌∙◌}
use borrow.Author.Tests.{eq-eqb, ne_eqb}
use Rattle.fields.specs.Text.{text_of}
use Rattle.fields.proofs.Laws.Answer.{fault_some}
use Rattle.bind_lookup.specs.ChildLookup.{name_at, names_from}
use Rattle.bind_lookup.proofs.child_name.Goals as goal

pub returns-in-Ok : goal.returns-in-Ok
unfolding name_at
returns-in-Ok c =
    c.text_of.ensures
    ∙ ap text_of (c.names_from.ensures ∙ ap (names_from c.args.i) c.table_of.ensures)
    ∙ sym (simp (eq-eqb _ 0 (sym c.in-Ok.ensures)))

pub returns-in-Err : goal.returns-in-Err
unfolding name_at
returns-in-Err c = sym (simp (ne_eqb _ 0 (λ k. fault_some c.in-Err.field-0 (c.in-Err.ensures ∙ k))))

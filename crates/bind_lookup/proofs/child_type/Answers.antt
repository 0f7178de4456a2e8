-- `bind_lookup::child_type` meets its contract.
use mathlib.Core.Path.{sym, ap, ◌∙◌}
use borrow.Author.Tests.{eq-eqb, ne_eqb}
use Rattle.fields.proofs.Laws.Answer.{fault_some}
use Rattle.bind_layout.specs.BindLayout.{type_of}
use Rattle.bind_lookup.specs.ChildLookup.{type_at}
use Rattle.bind_lookup.proofs.child_type.Goals as goal

pub returns-in-Ok : goal.returns-in-Ok
unfolding type_at
returns-in-Ok c = c.type_of.ensures ∙ ap type_of c.headers_from.ensures ∙ sym (simp (eq-eqb _ 0 (sym c.in-Ok.ensures)))

pub returns-in-Err : goal.returns-in-Err
unfolding type_at
returns-in-Err c = sym (simp (ne_eqb _ 0 (λ k. fault_some c.in-Err.field-0 (c.in-Err.ensures ∙ k))))

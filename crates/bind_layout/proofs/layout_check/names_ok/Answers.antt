use mathlib.Core.Path.{sym, ◌∙◌}
use borrow.Author.Tests.{le-leb, lt-leb}
use Rattle.bind_layout.specs.BindLayout.{names_ok}
use Rattle.fields.proofs.Laws.Walks.{steps_end, steps_next}
use Rattle.bind_layout.proofs.layout_check.names_ok.Goals as goal

pub returns-then-not-name_ok : goal.returns-then-not-name_ok
unfolding names_ok
returns-then-not-name_ok c =
    let l = c.loop in
    let s = steps_next (λ k. names_ok k l.left.now) c.args.n l.counter c.loop-test.true in
    sym (l.invariant ∙ s ∙ simp (sym c.name_ok.ensures ∙ c.if-not-name_ok.true))

pub loop-preserved : goal.loop-preserved
unfolding names_ok
loop-preserved c =
    let l = c.loop in
    let s = steps_next (λ k. names_ok k l.left.now) c.args.n l.counter c.loop-test.true in
    l.invariant ∙ s ∙ simp (sym c.name_ok.ensures ∙ c.if-not-name_ok.false, c.past_text-left.ensures)

pub returns-then-left-le1 : goal.returns-then-left-le1
unfolding names_ok
returns-then-left-le1 c =
    let l = c.loop in
    let e = steps_end (λ k. names_ok k l.left.now) c.args.n l.counter c.loop-test.false in
    c.all_zero.ensures ∙ sym (l.invariant ∙ e ∙ simp (le-leb _ _ c.if-left-le1.true))

pub returns-else-left-le1 : goal.returns-else-left-le1
unfolding names_ok
returns-else-left-le1 c =
    let l = c.loop in
    let e = steps_end (λ k. names_ok k l.left.now) c.args.n l.counter c.loop-test.false in
    let f = lt-leb _ _ c.if-left-le1.false in
    f ∙ sym (l.invariant ∙ e ∙ simp f)

use mathlib.Core.Path.{sym, ◌∙◌}
use Rattle.bind_layout.specs.BindLayout.{data_ok}
use Rattle.fields.proofs.Laws.Walks.{steps_end, steps_next}
use Rattle.bind_layout.proofs.layout_check.data_ok.Goals as goal

pub returns-then-not-block_ok : goal.returns-then-not-block_ok
unfolding data_ok
returns-then-not-block_ok c =
    let l = c.loop in
    let s = steps_next (λ k. data_ok k l.left.headers.now l.left.data.now) c.args.n l.counter c.loop-test.true in
    let e = sym c.block_ok.ensures ∙ c.if-not-block_ok.true in
    sym (l.invariant ∙ s ∙ simp (sym c.size-size.ensures, e))

pub loop-preserved : goal.loop-preserved
unfolding data_ok
loop-preserved c =
    let l = c.loop in
    let s = steps_next (λ k. data_ok k l.left.headers.now l.left.data.now) c.args.n l.counter c.loop-test.true in
    let e = sym c.block_ok.ensures ∙ c.if-not-block_ok.false in
    l.invariant ∙ s ∙ simp (sym c.size-size.ensures, e, c.after-left.ensures.headers, c.after-left.ensures.content)

pub returns : goal.returns
unfolding data_ok
returns c =
    let l = c.loop in
    sym (l.invariant ∙ steps_end (λ k. data_ok k l.left.headers.now l.left.data.now) c.args.n l.counter c.loop-test.false)

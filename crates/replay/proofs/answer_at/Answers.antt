use mathlib.Core.Path.{sym, ◌∙◌}
use Rattle.panel.specs.Calls.{panel_of}
use Rattle.replay.proofs.Laws.Replay.{answers_at, answer-start, answer-here, answer-next, answer-end}
use Rattle.replay.proofs.answer_at.Goals as goal

pub loop-left-init : goal.loop-left-init
loop-left-init c =
    let a = c.args in
    answer-start a.script.now a.place c.new-panel.ensures

pub returns-then-before-eq0 : goal.returns-then-before-eq0
returns-then-before-eq0 c =
    let l = c.loop-left in
    let e = answer-here (panel_of l.panel) l.left.now c.loop-left-test.true c.perform.ensures l.before c.if-before-eq0.true in
    let both = answers_at c.args.script.now c.args.place (λ i. (c.type_inv.script i).fits) (sym (l.invariant ∙ e)) in
    record { equal = both.0; demand3 = both.1 }

pub loop-left-preserved : goal.loop-left-preserved
loop-left-preserved c =
    let l = c.loop-left in
    l.invariant
    ∙ answer-next (panel_of l.panel) l.left.now c.loop-left-test.true c.perform.ensures c.call_len.ensures c.rest-left.ensures
    l.before c.if-before-eq0.false

pub returns : goal.returns
returns c =
    let l = c.loop-left in
    let e = answer-end l.before (panel_of l.panel) l.left.now c.loop-left-test.false in
    let both = answers_at c.args.script.now c.args.place (λ i. (c.type_inv.script i).fits) (sym (l.invariant ∙ e)) in
    record { equal = both.0; demand3 = both.1 }

use mathlib.Core.Path.{sym, ◌∙◌}
use Rattle.panel.specs.Calls.{panel_of}
use Rattle.replay.proofs.Laws.Replay.{run-start, run-next, run_end}
use Rattle.replay.proofs.run.Goals as goal

pub loop-left-init : goal.loop-left-init
loop-left-init c = run-start c.args.script.now c.new-panel.ensures

pub loop-left-preserved : goal.loop-left-preserved
loop-left-preserved c =
    let l = c.loop-left in
    l.invariant
    ∙ run-next (panel_of l.panel) l.left.now c.loop-left-test.true c.perform.ensures c.call_len.ensures c.rest-left.ensures

pub returns : goal.returns
returns c =
    let l = c.loop-left in
    sym (l.invariant ∙ run_end (panel_of l.panel) l.left.now c.loop-left-test.false)

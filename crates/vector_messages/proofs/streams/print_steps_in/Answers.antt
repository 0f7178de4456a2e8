use Rattle.std.proofs.Common.{arith, drop, ◌+◌}
use lib.ListN.{length-drop}
use Rattle.message.proofs.Laws.Stream.{step-within}
use Rattle.vector_messages.proofs.streams.print_steps_in.Goals as goal

pub loop-step-init : goal.loop-step-init
loop-step-init g c =
    let a = c.args in
    omega (arith, c.in_ok-step.ensures, step-within a.layout (drop 0 a.stream.now), length-drop 0 a.stream.now)

pub loop-step-preserved : goal.loop-step-preserved
loop-step-preserved g c =
    let a = c.args in
    let at = c.loop-step.at + c.loop-step.step in
    omega (arith, c.in_ok-step-2.ensures, step-within a.layout (drop at a.stream.now), length-drop at a.stream.now)

use Rattle.std.proofs.Common.{arith, drop, ◌+◌}
use lib.ListN.{length-drop}
use Rattle.message.specs.declared.Layout.TheVariants.{New}
use Rattle.message.proofs.Laws.Stream.{step-within}
use Rattle.listing.proofs.list.Goals as goal

pub loop-step-init : goal.loop-step-init
loop-step-init g c =
    let stream = c.args.stream.now in
    omega (arith, c.in_ok-step.ensures, step-within New (drop 0 stream), length-drop 0 stream)

pub loop-step-preserved : goal.loop-step-preserved
loop-step-preserved g c =
    let stream = c.args.stream.now in
    let at = c.loop-step.at + c.loop-step.step in
    omega (arith, c.in_ok-step-2.ensures, step-within New (drop at stream), length-drop at stream)

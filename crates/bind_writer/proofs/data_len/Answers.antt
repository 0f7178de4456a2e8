use mathlib.Core.Path.{ap}
use mathlib.Core.List.{map}
use native.Mathlib.Omega.{arith}
use lib.ListN.{length, get_or}
use Rattle.fields.proofs.Laws.Lists.{flat-none}
use Rattle.bind_layout.specs.Children.{padded}
use Rattle.bind_writer.proofs.Laws.Slices.{none, slices-all, length-slices-next, length-slices-le}
use Rattle.bind_layout.proofs.Laws.Children.{length-padded}
use Rattle.bind_writer.proofs.data_len.Goals as goal

pub loop-content-init : goal.loop-content-init
loop-content-init c = let e = ap length (flat-none padded (map (λ x. x.now) c.args.contents.now)) in (omega arith, omega arith)

pub returns-then-left-n : goal.returns-then-left-n
returns-then-left-n c =
    let l = c.loop-content in
    let ps = c.args.contents.now in
    let m = length-slices-le padded ps l.content-index (omega arith) in
    omega (arith, length-padded (get_or ps l.content-index none).now)

pub returns-then-left-n-2 : goal.returns-then-left-n-2
returns-then-left-n-2 c =
    let l = c.loop-content in
    let ps = c.args.contents.now in
    let m = length-slices-le padded ps l.content-index (omega arith) in
    omega (arith, length-padded (get_or ps l.content-index none).now)

pub loop-content-preserved : goal.loop-content-preserved
loop-content-preserved c =
    let l = c.loop-content in
    let ps = c.args.contents.now in
    let s = length-slices-next padded ps l.content-index (omega arith) in
    (omega arith, omega (arith, length-padded (get_or ps l.content-index none).now))

pub returns : goal.returns
returns c =
    let ps = c.args.contents.now in
    let s = ap length (slices-all padded ps c.loop-content.content-index (omega arith)) in
    omega arith

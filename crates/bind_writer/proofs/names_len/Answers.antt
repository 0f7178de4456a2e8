use mathlib.Core.Path.{ap}
use mathlib.Core.List.{map}
use native.Mathlib.Omega.{arith}
use lib.ListN.{length, get_or}
use Rattle.fields.proofs.Laws.Lists.{flat-none}
use Rattle.bind_layout.specs.Children.{ended}
use Rattle.bind_writer.proofs.Laws.Slices.{none, length-slices-next, length-slices-le}
use Rattle.bind_writer.proofs.Laws.Encoding.{length-ended}
use Rattle.bind_writer.proofs.names_len.Goals as goal

pub loop-name-init : goal.loop-name-init
loop-name-init c = let e = ap length (flat-none ended (map (λ x. x.now) c.args.names.now)) in (omega arith, omega arith, omega arith)

pub returns-then-sum-name : goal.returns-then-sum-name
returns-then-sum-name c =
    let l = c.loop-name in
    let ps = c.args.names.now in
    let m = length-slices-le ended ps l.name-index (omega arith) in
    omega (arith, length-ended (get_or ps l.name-index none).now)

pub loop-name-preserved : goal.loop-name-preserved
loop-name-preserved c =
    let l = c.loop-name in
    let ps = c.args.names.now in
    let s = length-slices-next ended ps l.name-index (omega arith) in
    let n = length-ended (get_or ps l.name-index none).now in
    (omega arith, omega arith, omega arith)

use native.Mathlib.Omega.{arith}
use Rattle.fields.proofs.Laws.Text.{text-end, text-stop, text-step}
use Rattle.fields.proofs.text.text_len.Goals as goal

pub loop-i-init : goal.loop-i-init
loop-i-init c = omega arith

pub returns-then-b-eq0 : goal.returns-then-b-eq0
returns-then-b-eq0 c =
    let s = c.args.s.now in
    let l = c.loop-i in
    omega (arith, l.invariant, text-stop s l.i c.loop-i-test.true c.if-b-eq0.true)

pub loop-i-preserved : goal.loop-i-preserved
loop-i-preserved c =
    let s = c.args.s.now in
    let l = c.loop-i in
    omega (arith, l.invariant, text-step s l.i c.loop-i-test.true c.if-b-eq0.false)

pub returns : goal.returns
returns c =
    let s = c.args.s.now in
    let l = c.loop-i in
    omega (arith, l.invariant, l.auto.i-end, text-end s l.i (omega (arith, c.loop-i-test.false)))

use Rattle.std.proofs.Common.{ℕ, true, length, ◌≡◌}
use Rattle.fields.specs.Received.{TextField}
use mathlib.Core.Path.{sym, ap, ◌∙◌}
use native.Mathlib.Omega.{arith}
use Rattle.fields.specs.Text.{all_zero}
use Rattle.fields.proofs.Laws.Received.{from_start, from_end, from_zero, from-high, from_next}
use Rattle.fields.proofs.text.read_field.Goals as goal

pub loop-i-init : goal.loop-i-init
loop-i-init c = from_start _

pub returns-then-b-eq0 : goal.returns-then-b-eq0
returns-then-b-eq0 c =
    let f = c.args.f.now in
    let l = c.loop-i in
    sym (l.invariant ∙ from_zero f l.i (omega arith) c.if-b-eq0.true _ (c.all_zero-clean.ensures ∙ ap all_zero c.rest.ensures))

pub returns-then-b-ge-TEXT_LIMIT : goal.returns-then-b-ge-TEXT_LIMIT
returns-then-b-ge-TEXT_LIMIT c =
    let f = c.args.f.now in
    let l = c.loop-i in
    sym (l.invariant ∙ from-high f l.i (omega arith) c.if-b-ge-TEXT_LIMIT.true)

pub loop-i-preserved : goal.loop-i-preserved
loop-i-preserved c =
    let f = c.args.f.now in
    let l = c.loop-i in
    let p = c.if-b-eq0.false in
    l.invariant ∙ from_next f l.i (omega arith) (omega arith, c.if-b-ge-TEXT_LIMIT.false)

pub returns : goal.returns
returns c =
    let f = c.args.f.now in
    let l = c.loop-i in
    let long : ℕ → TextField = λ n. record { ok = true; len = n; clean = true } in
    let e : l.i ≡ length f = omega (arith, l.auto.i-end, c.loop-i-test.false) in
    sym (l.invariant ∙ from_end f l.i (omega arith) ∙ ap long e)

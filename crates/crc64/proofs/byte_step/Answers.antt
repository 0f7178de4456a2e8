use mathlib.Core.Path.{◌≡◌, refl, sym, ap, ◌∙◌}
use Prim.Native.Nat.{ℕ}
use native.Mathlib.Omega.{arith}
use Rattle.crc64.specs.Crc.{bit_step, run, bit_at, bits_of}
use Rattle.crc64.proofs.Laws.{byte-take-suc, byte-take-all}
use Rattle.crc64.proofs.byte_step.Goals as goal

pub loop-i-init : goal.loop-i-init
unfolding run bits_of
loop-i-init c = refl

pub loop-i-preserved : goal.loop-i-preserved
unfolding bit_at
loop-i-preserved c =
    let a = c.args in
    let l = c.loop-i in
    let step : c.bit_step-register.result ≡ bit_step l.register (bit_at a.byte l.i) = c.bit_step-register.ensures in
    let from = ap (λ (n : ℕ). bit_step n (bit_at a.byte l.i)) l.invariant in
    step ∙ from ∙ sym (byte-take-suc a.start a.byte l.i c.loop-i-test.true)

pub returns : goal.returns
returns c =
    let a = c.args in
    let l = c.loop-i in
    l.invariant ∙ byte-take-all a.start a.byte l.i (omega arith)

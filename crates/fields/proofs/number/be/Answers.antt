use Prim.Native.Nat.{ℕ, ◌≤◌, ◌<◌, ◌*◌, ◌+◌}
use mathlib.Core.Path.{refl, ap, sym, ◌∙◌}
use native.Mathlib.Omega.{arith}
use lib.ListN.{length, get_or, length-take, drop}
use lib.Seq.{take_all}
use Rattle.fields.specs.Numbers.{be_val}
use Rattle.fields.proofs.Laws.Numbers.{be_val-next, next-lt, more_lt}
use Rattle.fields.proofs.number.be.Goals as goal

pub loop-b-init : goal.loop-b-init
unfolding be_val
loop-b-init c =
    let a = c.args in
    (refl, omega arith, omega (arith, ap length c.part-t.ensures, length-take a.n (drop a.at a.s.now)))

pub loop-b-preserved : goal.loop-b-preserved
loop-b-preserved c =
    let l = c.loop-b in
    let t = c.part-t.result.now in
    let i = l.b-index in
    let b : c.from.result < 256 = omega (arith, c.from.ensures, c.type_inv.t i) in (
      ap (λ (x : ℕ). l.v * 256 + x) c.from.ensures ∙ ap (λ (x : ℕ). x * 256 + get_or t i 0) l.invariant.0 ∙ sym (be_val-next t i c.loop-b-test.true),
      next-lt i l.invariant.1 b,
      l.invariant.2,
    )

pub returns : goal.returns
returns c =
    let l = c.loop-b in
    let a = c.args in
    let t = c.part-t.result.now in
    let i = l.b-index in
    let k : i ≤ a.n = omega (arith, ap length c.part-t.ensures, length-take a.n (drop a.at a.s.now), l.auto.b-index-end) in
    record {
      value = l.invariant.0 ∙ ap be_val (take_all i t (omega (arith, c.loop-b-test.false)) ∙ c.part-t.ensures);
      bound = more_lt i a.n l.invariant.1 k;
    }

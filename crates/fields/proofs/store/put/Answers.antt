use Prim.Native.Nat.{ℕ, ◌-◌, ◌+◌}
use mathlib.Core.List.{List}
use mathlib.Core.Path.{refl, ap, sym, ◌∙◌}
use native.Mathlib.Omega.{arith}
use lib.ListN.{length, get_or, set, length-set, length-take}
use lib.Seq.{sets, take_all}
use Rattle.fields.proofs.Laws.Stores.{put_next, sets-take, sets-past}
use Rattle.fields.proofs.store.put.Goals as goal

pub returns-then-out-at : goal.returns-then-out-at
returns-then-out-at c = sym (sets-past c.args.out.now c.args.at c.args.src.now c.if-out-at.true)

pub loop-i-init : goal.loop-i-init
loop-i-init c =
    let a = c.args in
    (omega (arith, c.if-out-at.false, ap length c.first-t.ensures, length-take (length a.out.now - a.at) a.src.now), refl, refl)

pub loop-i-preserved : goal.loop-i-preserved
loop-i-preserved c =
    let l = c.loop-i in
    let a = c.args in
    let t = c.first-t.result.now in (
      l.invariant.0,
      length-set l.out (a.at + l.i) (get_or t l.i 0) ∙ l.invariant.1,
      ap (λ (r : List ℕ). set r (a.at + l.i) (get_or t l.i 0)) l.invariant.2 ∙ put_next a.out.now t a.at l.i c.loop-i-test.true,
    )

pub returns : goal.returns
returns c =
    let l = c.loop-i in
    let a = c.args in
    let t = c.first-t.result.now in
    l.invariant.2
    ∙ ap (sets a.out.now a.at) (take_all l.i t (omega (arith, c.loop-i-test.false)) ∙ c.first-t.ensures)
    ∙ sets-take a.out.now a.src.now a.at (omega (arith, c.if-out-at.false))

use mathlib.Core.Path.{◌≡◌, ap, ap₂, sym, ◌∙◌}
use Prim.Native.Nat.{ℕ, ◌+◌, ◌-◌, ◌*◌}
use native.Mathlib.Omega.{arith}
use lib.ListN.{length, length-drop}
use lib.Seq.{sets}
use Rattle.fields.proofs.Laws.Text.{text_bytes-sized}
use Rattle.cleaning.specs.CleanBytes.{clean_headers}
use Rattle.cleaning.proofs.Laws.CleaningWalk.{headers-end, headers-walk}
use Rattle.cleaning.proofs.put_headers.Goals as goal

pub loop-i-preserved : goal.loop-i-preserved
loop-i-preserved c =
    let l = c.loop-i in
    let a = c.args in
    let p = c.loop-i-test.true in
    let k = a.n - l.i in
    let to = a.at + 20 * l.i in
    let text = c.put.ensures ∙ ap (sets l.out to) (c.array-type_text.ensures ∙ sym (text_bytes-sized 12 c.type_of.result.now)) in
    let e = ap length c.rest-left.ensures ∙ length-drop 20 l.left.now in
    let there : to + 20 ≡ a.at + 20 * (l.i + 1) = omega arith in
    let less : k - 1 ≡ a.n - (l.i + 1) = omega arith in (
      headers-walk _ l.out _ _ l.left.now _ _ _ to k l.invariant.0 (omega (arith, p)) l.invariant.2 text c.type_of.ensures c.put-in-loop-i.ensures c.part.ensures c.rest-left.ensures
          ∙ ap₂ (λ (t m : ℕ). sets c.put-in-loop-i.new.out t (clean_headers m c.rest-left.result.now)) there less,
      c.put-in-loop-i.auto.out ∙ c.put.auto.out ∙ l.invariant.1,
      omega (arith, l.invariant.2, p, e),
    )

pub returns : goal.returns
returns c =
    let l = c.loop-i in
    sym (l.invariant.0 ∙ ap (sets l.out (c.args.at + 20 * l.i)) (headers-end (c.args.n - l.i) l.left.now (omega (arith, c.loop-i-test.false))))

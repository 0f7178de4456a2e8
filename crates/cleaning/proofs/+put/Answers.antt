use Prim.Native.Nat.{ℕ, ◌+◌, ◌-◌, ◌≤◌, ◌<◌}
use mathlib.Core.Path.{◌≡◌, refl, sym, ap, ◌∙◌}
use mathlib.Core.Bool.{Bool, false}
use mathlib.Core.List.{List, []}
use Rattle.std.specs.Prelude.{Result}
use Rattle.std.specs.Result.{is_err}
use Rattle.fields.specs.declared.fault.Fault.{Fault}
use native.Mathlib.Omega.{arith}
use lib.ListN.{length}
use lib.Seq.{sets}
use Rattle.fields.specs.Answer.{checked_of}
use Rattle.fields.proofs.Laws.Answer.{number_is, err_number, ok_number}
use Rattle.bind_layout.specs.BindLayout.{child_count, data_ok, layout_fault, layout_checked}
use Rattle.bind_layout.proofs.Laws.Read.{data-shorter, layout-data}
use Rattle.content.proofs.Laws.ChildrenWalk.{layout-number}
use Rattle.cleaning.proofs.Laws.CleaningWalk.{bind-deep, bind-unlaid, bind-start, datas-end, datas-walk, left-ok, left-shorter, child_fits, as-bind, as-other}
use Rattle.cleaning.specs.CleanBytes.{clean_blocks, clean_bind}
use Rattle.cleaning.proofs.+put.Goals as goal

laid_out : (r : Result Bool Fault) (s : List ℕ) → checked_of r ≡ layout_checked s → is_err r ≡ false → layout_fault s ≡ 0
laid_out r s e h = sym (number_is r e ∙ layout-number s) ∙ ok_number r h

pub put_bind-returns-then-levels-eq0 : goal.put_bind-returns-then-levels-eq0
put_bind-returns-then-levels-eq0 t c =
    let z = c.args in
    c.put.ensures ∙ ap (sets z.out.now z.at) (sym (bind-deep z.levels z.content.now c.if-levels-eq0.true))

pub put_bind-returns-then-is_err : goal.put_bind-returns-then-is_err
put_bind-returns-then-is_err t c =
    let z = c.args in
    let r = c.layout_check.result in
    let n = number_is r c.layout_check.ensures ∙ layout-number z.content.now in
    c.put-then-is_err.ensures ∙ ap (sets z.out.now z.at) (sym (bind-unlaid z.levels z.content.now c.if-levels-eq0.false (λ q. err_number r (sym c.is_err.ensures.value ∙ c.if-is_err.true) (n ∙ q))))

pub put_bind-put_front-requires : goal.put_bind-put_front-requires
put_bind-put_front-requires t c =
    (laid_out c.layout_check.result c.args.content.now c.layout_check.ensures (sym c.is_err.ensures.value ∙ c.if-is_err.false), c.requires)

pub put_bind-loop-init : goal.put_bind-loop-init
put_bind-loop-init t c =
    let z = c.args in
    let s = z.content.now in
    let n : layout_fault s ≡ 0 = laid_out c.layout_check.result s c.layout_check.ensures (sym c.is_err.ensures.value ∙ c.if-is_err.false) in
    let hs = c.of-left.ensures.headers in
    let ds = c.of-left.ensures.content in
    let k : c.child_count-end.result - 0 ≡ child_count s = omega (arith, c.child_count-end.ensures) in (
      ap (λ (m : ℕ). sets c.put_front.new.out (z.at + (length s - length c.of-left.result.data.now)) (clean_blocks (clean_bind (z.levels - 1)) m c.of-left.result.headers.now c.of-left.result.data.now)) (omega (arith)),
      refl,
      omega (arith, ap length ds, data-shorter s n),
      (λ i. data_ok (k i) (hs i) (ds i)) ∙ layout-data s n,
    )

pub put_bind-overflow_sub-to : goal.put_bind-overflow_sub-to
put_bind-overflow_sub-to t c = omega (arith, c.loop.invariant.2)

pub put_bind-overflow_add-to : goal.put_bind-overflow_add-to
put_bind-overflow_add-to t c = omega (arith, c.loop.invariant.2, c.requires)

pub put_bind-put_content-requires : goal.put_bind-put_content-requires
put_bind-put_content-requires t c =
    let l = c.args.levels in
    let h = c.loop.left.headers.now in
    let d = c.loop.left.data.now in
    let k = c.child_count-end.result - c.loop.counter in
    let p : 0 < k = omega (arith, c.loop-test.true) in
    let x = c.first-child.ensures in
    let f : length c.first-child.result.now ≤ length d = child_fits l [] [] [] [] h d [] c.first-child.result.now [] [] [] 0 (length d) k c.size-size.result p c.loop.invariant.3 (omega arith) c.size-size.ensures x in
    (omega (arith, f, c.loop.invariant.2), omega (arith, f, c.loop.invariant.1, c.put_front.auto.out, c.loop.invariant.2, c.requires))

pub put_bind-overflow_add-to-in-loop : goal.put_bind-overflow_add-to-in-loop
put_bind-overflow_add-to-in-loop t c =
    let l = c.args.levels in
    let h = c.loop.left.headers.now in
    let d = c.loop.left.data.now in
    let k = c.child_count-end.result - c.loop.counter in
    let p : 0 < k = omega (arith, c.loop-test.true) in
    let x = c.first-child.ensures in
    let f : length c.first-child.result.now ≤ length d = child_fits l [] [] [] [] h d [] c.first-child.result.now [] [] [] 0 (length d) k c.size-size.result p c.loop.invariant.3 (omega arith) c.size-size.ensures x in
    omega (arith, f, c.loop.invariant.2, c.requires, c.well_formed)

pub put_bind-loop-preserved : goal.put_bind-loop-preserved
put_bind-loop-preserved t c =
    let z = c.args in
    let s = z.content.now in
    let l = z.levels - 1 in
    let g = c.loop in
    let h = g.left.headers.now in
    let d = g.left.data.now in
    let k = c.child_count-end.result - c.loop.counter in
    let p : 0 < k = omega (arith, c.loop-test.true) in
    let x = c.first-child.ensures in
    let hs = c.after-left.ensures.headers in
    let ds = c.after-left.ensures.content in
    let j : k - 1 ≡ c.child_count-end.result - (g.counter + 1) = omega arith in
    let nh = c.after-left.result.headers.now in
    let nd = c.after-left.result.data.now in
    let fits : length d ≤ length s = omega (arith, g.invariant.2) in
    let less = left-shorter l [] [] [] [] h d [] c.first-child.result.now [] [] c.after-left.result.data.now 0 (length s) k c.size-size.result p g.invariant.3 fits c.size-size.ensures x ds in (
      datas-walk l _ g.out _ _ h d _ _ _ _ _ z.at (length s) k c.size-size.result p g.invariant.3 fits c.size-size.ensures x g.invariant.0 c.put_content.ensures c.type_text.ensures c.put-in-loop.ensures c.part.ensures hs ds
          ∙ ap (λ (m : ℕ). sets c.put-in-loop.new.out (z.at + (length s - length nd)) (clean_blocks (clean_bind l) m nh nd)) j,
      c.put-in-loop.auto.out ∙ c.put_content.auto.out ∙ g.invariant.1,
      omega (arith, less, g.invariant.2),
      ap (λ (m : ℕ). data_ok m nh nd) (sym j) ∙ left-ok l [] [] [] [] h d [] c.first-child.result.now [] c.after-left.result.headers.now c.after-left.result.data.now 0 (length s) k c.size-size.result p g.invariant.3 fits c.size-size.ensures x hs ds,
    )

pub put_bind-returns : goal.put_bind-returns
put_bind-returns t c =
    let z = c.args in
    let s = z.content.now in
    let g = c.loop in
    let n : layout_fault s ≡ 0 = laid_out c.layout_check.result s c.layout_check.ensures (sym c.is_err.ensures.value ∙ c.if-is_err.false) in
    sym
    (bind-start z.levels s z.out.now _ _ _ z.at c.child_count-end.result c.if-levels-eq0.false n c.put_front.ensures c.of-left.ensures.headers c.of-left.ensures.content c.child_count-end.ensures
    ∙ g.invariant.0
    ∙ ap (sets g.out (z.at + (length s - length g.left.data.now))) (datas-end (z.levels - 1) (c.child_count-end.result - g.counter) g.left.headers.now g.left.data.now (omega (arith, c.loop-test.false))))

pub put_content-put_bind-requires : goal.put_content-put_bind-requires
put_content-put_bind-requires t c = (omega arith, c.requires)

pub put_content-returns-then-same : goal.put_content-returns-then-same
put_content-returns-then-same t c =
    let z = c.args in
    c.put_bind.ensures ∙ ap (sets z.out.now z.at) (sym (as-bind z.levels z.type_text.now z.content.now (sym c.same.ensures ∙ c.if-same.true)))

pub put_content-returns : goal.put_content-returns
put_content-returns t c =
    let z = c.args in
    c.put.ensures ∙ ap (sets z.out.now z.at) (sym (as-other z.levels z.type_text.now z.content.now (sym c.same.ensures ∙ c.if-same.false)))

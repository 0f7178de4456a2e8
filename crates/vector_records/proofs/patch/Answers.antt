use Rattle.std.proofs.Common.{◌∙◌, ap, ap₂, sym, arith, length, drop}
use Rattle.std.proofs.lemmas.List.{take_rest}
use lib.Seq.{sets, length-sets}
use Rattle.fields.specs.Numbers.{be_at}
use Rattle.vector_records.specs.Records.{patched}
use Rattle.vector_records.proofs.Laws.{patched-next, patched-end}
use Rattle.vector_records.proofs.patch.Goals as goal

pub loop-patch-preserved : goal.loop-patch-preserved
loop-patch-preserved c =
    let l = c.loop-patch in
    let step = c.in-Some.ensures.steps in
    let p = c.in-Some.patch.now in
    let rest = c.next.new.self.rest.now in
    let next = patched-next p rest l.out (step.1.1 ∙ l.invariant.0) in
    let stored = c.put.ensures ∙ ap₂ (sets l.out) c.read.ensures (take_rest p 4) in (
      step.0 ∙ l.invariant.0,
      ap length stored ∙ length-sets l.out (be_at 4 0 p) (drop 4 p) ∙ l.invariant.1,
      l.invariant.2 ∙ ap (λ k. patched k l.out) step.1.0 ∙ next ∙ ap (patched rest) (sym stored),
    )

pub returns : goal.returns
returns c =
    let l = c.loop-patch in
    sym (l.invariant.2 ∙ patched-end l.patch-iterator.rest.now l.out (omega (arith, c.in-None.ensures.steps.1.0)))

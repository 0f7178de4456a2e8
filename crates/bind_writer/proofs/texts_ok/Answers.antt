use mathlib.Core.Path.{refl, sym, ◌∙◌}
use native.Mathlib.Omega.{arith}
use Rattle.fields.proofs.Laws.Lists.{all_end}
use Rattle.bind_writer.specs.BindWriter.{texts_ok}
use Rattle.bind_writer.proofs.Laws.Slices.{length-given}
use Rattle.bind_writer.proofs.Laws.Children.{texts-next, texts-stop}
use Rattle.bind_writer.proofs.texts_ok.Goals as goal

pub loop-i-init : goal.loop-i-init
loop-i-init c = (omega arith, λ cs p q. refl)

pub returns-then-not-text_ok : goal.returns-then-not-text_ok
returns-then-not-text_ok c =
    let a = c.args in
    let l = c.loop-i in
    let fails = sym c.text_ok.ensures ∙ c.if-not-text_ok.true in
    λ cs p q. sym (l.invariant.1 cs p q ∙ texts-stop a.types.now l.i (omega arith) cs p a.names.now q fails)

pub loop-i-preserved : goal.loop-i-preserved
loop-i-preserved c =
    let a = c.args in
    let l = c.loop-i in
    let passes = sym c.text_ok.ensures ∙ c.if-not-text_ok.false in (
      omega arith,
      λ cs p q. l.invariant.1 cs p q ∙ texts-next a.types.now l.i (omega arith) cs p a.names.now q passes,
    )

pub returns : goal.returns
returns c =
    let l = c.loop-i in
    λ cs p q. sym (l.invariant.1 cs p q ∙ all_end texts_ok cs l.i (omega (arith, length-given (λ c. c.type_text) cs c.args.types.now p)))

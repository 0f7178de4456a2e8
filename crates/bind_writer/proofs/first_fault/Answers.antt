use mathlib.Core.Path.{◌≡◌, refl, sym, ◌∙◌}
use native.Mathlib.Omega.{arith}
use Rattle.std.proofs.Common.{rules}
use Rattle.fields.specs.Fault.{fault_number, number_of}
use Rattle.fields.proofs.Laws.Answer.{fault_some}
use Rattle.bind_writer.specs.BindWriter.{child_fault}
use Rattle.bind_writer.proofs.Laws.Slices.{length-given}
use Rattle.content.proofs.Laws.Faults.{first-end}
use Rattle.bind_writer.proofs.Laws.Children.{faults-stop, faults-next}
use Rattle.bind_writer.proofs.first_fault.Goals as goal

pub loop-i-init : goal.loop-i-init
loop-i-init c = (omega arith, λ cs p q. refl)

pub returns-in_err-nested_fault : goal.returns-in_err-nested_fault
returns-in_err-nested_fault c =
    let a = c.args in
    let l = c.loop-i in
    let f = c.in_err-nested_fault.field-0.0 in
    let r : number_of c.from_residual.result ≡ fault_number f = search rules in
    λ cs p q.
    r ∙ sym (l.invariant.1 cs p q ∙ faults-stop a.types.now l.i (omega arith) cs p a.contents.now q (fault_number f) c.in_err-nested_fault.ensures (fault_some f))

pub loop-i-preserved : goal.loop-i-preserved
loop-i-preserved c =
    let a = c.args in
    let l = c.loop-i in (
      omega arith,
      λ cs p q. l.invariant.1 cs p q ∙ faults-next a.types.now l.i (omega arith) cs p a.contents.now q 0 c.in_ok-nested_fault.ensures refl,
    )

pub returns : goal.returns
returns c =
    let l = c.loop-i in
    λ cs p q. sym (l.invariant.1 cs p q ∙ first-end child_fault cs l.i (omega (arith, length-given (λ c. c.type_text) cs c.args.types.now p)))

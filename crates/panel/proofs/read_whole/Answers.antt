-- `panel::read_whole` meets its contract: the laws of its checks in turn.
use mathlib.Core.Path.{sym, ap, subst, ◌∙◌}
use Rattle.std.proofs.Common.{rules}
use Rattle.std.specs.Prelude.{◌≤◌, ◌≡◌}
use Rattle.fields.specs.Fault.{fault_number, number_of}
use Rattle.message.specs.declared.Answer.{Answer}
use Rattle.panel.specs.Calls.{bytes_fault}
use Rattle.panel.proofs.Laws.Calls.{bytes-refused, bytes-left-over, bytes_whole}
use Rattle.fields.proofs.Laws.Answer.{fault_some}
use Rattle.panel.proofs.Laws.Faults.{read-within}
use Rattle.panel.proofs.read_whole.Goals as goal

pub returns-in_err-reader_fault-clause-number : goal.returns-in_err-reader_fault-clause-number
returns-in_err-reader_fault-clause-number c =
    let a = c.args in
    let w = subst (λ (x : Answer). x.number ≤ 11) (sym c.read-read.ensures) (read-within a.layout a.bytes.now) in
    let f : number_of c.from_residual.result ≡ fault_number c.in_err-reader_fault.field-0.0 = search rules in
    let e = f ∙ c.in_err-reader_fault.ensures w in
    e ∙ sym (bytes-refused a.bytes.now c.read-read.result (λ z. fault_some _ (sym f ∙ e ∙ z))) ∙ ap (bytes_fault a.bytes.now) c.read-read.ensures

pub returns-then-read-bytes-clause-number : goal.returns-then-read-bytes-clause-number
returns-then-read-bytes-clause-number c =
    let a = c.args in
    let w = subst (λ (x : Answer). x.number ≤ 11) (sym c.read-read.ensures) (read-within a.layout a.bytes.now) in
    let e = c.in_ok-reader_fault.ensures w in
    sym (bytes-left-over a.bytes.now c.read-read.result (sym e) c.if-read-bytes.true) ∙ ap (bytes_fault a.bytes.now) c.read-read.ensures

pub returns-clause-number : goal.returns-clause-number
returns-clause-number c =
    let a = c.args in
    let w = subst (λ (x : Answer). x.number ≤ 11) (sym c.read-read.ensures) (read-within a.layout a.bytes.now) in
    let e = c.in_ok-reader_fault.ensures w in
    sym (bytes_whole a.bytes.now c.read-read.result (sym e) c.if-read-bytes.false) ∙ ap (bytes_fault a.bytes.now) c.read-read.ensures

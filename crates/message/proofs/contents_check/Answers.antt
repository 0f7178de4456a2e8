-- `message::contents_check` meets its contract: the first fault of two checks, and the content's mark.
use Prim.Native.Nat.{ℕ}
use mathlib.Core.Bool.{false}
use mathlib.Core.Path.{ap, sym, ◌∙◌}
use Rattle.fields.specs.Answer.{checked_of, checked}
use Rattle.fields.specs.Checks.{or_else}
use Rattle.fields.specs.Fault.{fault_number}
use Rattle.fields.proofs.Laws.Answer.{fault_some, refusal_is, passed_on, checked-same}
use Rattle.fields.proofs.Laws.Checks.{else-first, else-second}
use Rattle.metadata.specs.MetadataCheck.{metadata_fault}
use Rattle.content.specs.ContentCheck.{content_fault, content_clean, content_checked, deepest}
use Rattle.message.proofs.contents_check.Goals as goal

pub returns-in_err-metadata_fault : goal.returns-in_err-metadata_fault
returns-in_err-metadata_fault c =
    let a = c.args in
    let f = c.in_err-metadata_fault.field-0.0 in
    let m = metadata_fault a.metadata.now in
    let x = content_fault deepest a.type_text.now a.content.now in
    let e = c.in_err-metadata_fault.ensures ∙ sym (else-first m x (λ z. fault_some f (c.in_err-metadata_fault.ensures ∙ z))) in
    ap checked_of (passed_on f c.from_residual.result c.from_residual.ensures.1)
    ∙ refusal_is f false ∙ checked-same (fault_number f) (or_else m x) false (content_clean deepest a.type_text.now a.content.now) e (fault_some f)

pub returns : goal.returns
unfolding content_checked
returns c =
    let a = c.args in
    let m = metadata_fault a.metadata.now in
    let x = content_fault deepest a.type_text.now a.content.now in
    c.content_check.ensures
    ∙ ap (λ (n : ℕ). checked n (content_clean deepest a.type_text.now a.content.now)) (sym (else-second m x (sym c.in_ok-metadata_fault.ensures)))

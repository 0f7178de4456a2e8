-- `message::body_check` meets its contract: the checks in turn; the sections are those at the places found.
use mathlib.Core.Path.{ap₂, ap, sym, ◌∙◌}
use mathlib.Core.Bool.{false}
use Rattle.fields.specs.Answer.{checked_of}
use Rattle.fields.specs.Bytes.{part}
use Rattle.fields.specs.declared.fault.Fault.TheVariants.{Crc}
use Rattle.fields.specs.Fault.{fault_number}
use Rattle.fields.proofs.Laws.Answer.{fault_some, refusal_is, passed_on}
use Rattle.content.specs.ContentCheck.{content_clean, deepest}
use Rattle.message.specs.declared.body.Places.{Places}
use Rattle.message.specs.MessageReader.{sizes_fault, contents_fault, sections_fault, body_clean}
use Rattle.message.proofs.Laws.Stream.{body-as, body_clean_lem, checks-version, checks-crc, checks-body, checks-sizes, checks-contents}
use Rattle.message.proofs.body_check.Goals as goal

pub returns-in_err-version_fault : goal.returns-in_err-version_fault
returns-in_err-version_fault c =
    let a = c.args in
    let f = c.in_err-version_fault.field-0.0 in
    let b = a.body in
    let e = checks-version b.layout b.version a.crc a.type_text.now b.bytes.now (fault_number f) c.in_err-version_fault.ensures (fault_some f) in
    ap checked_of (passed_on f c.from_residual.result c.from_residual.ensures.1)
    ∙ refusal_is f false ∙ body-as b.layout b.version a.crc a.type_text.now b.bytes.now (fault_number f) false e (fault_some f)

pub returns-then-crc64-crc : goal.returns-then-crc64-crc
returns-then-crc64-crc c =
    let a = c.args in
    let b = a.body in
    refusal_is Crc false
    ∙ body-as b.layout b.version a.crc a.type_text.now b.bytes.now 5 false (checks-crc b.layout b.version a.crc a.type_text.now b.bytes.now (sym c.in_ok-version_fault.ensures) (λ z. c.if-crc64-crc.true (c.crc64.ensures ∙ z))) (fault_some Crc)

pub returns-in_err-extended_fault : goal.returns-in_err-extended_fault
returns-in_err-extended_fault c =
    let a = c.args in
    let f = c.in_err-extended_fault.field-0.0 in
    let b = a.body in
    let e =
    checks-body b.layout b.version a.crc a.type_text.now b.bytes.now (fault_number f) (sym c.in_ok-version_fault.ensures) (sym c.crc64.ensures ∙ c.if-crc64-crc.false)
    c.in_err-extended_fault.ensures (fault_some f) in
    ap checked_of (passed_on f c.from_residual-in_err-extended_fault.result c.from_residual-in_err-extended_fault.ensures.1)
    ∙ refusal_is f false ∙ body-as b.layout b.version a.crc a.type_text.now b.bytes.now (fault_number f) false e (fault_some f)

pub returns-in_err-sizes_fault : goal.returns-in_err-sizes_fault
returns-in_err-sizes_fault c =
    let a = c.args in
    let f = c.in_err-sizes_fault.field-0.0 in
    let b = a.body in
    let metadata = c.part-metadata.ensures ∙ ap (λ (p : Places). part p.metadata_len p.metadata_at b.bytes.now) c.requires in
    let e =
    checks-sizes b.layout b.version a.crc a.type_text.now b.bytes.now (sym c.in_ok-version_fault.ensures) (sym c.crc64.ensures ∙ c.if-crc64-crc.false) (sym c.in_ok-extended_fault.ensures)
    (fault_number f) (c.in_err-sizes_fault.ensures ∙ ap (sizes_fault b.layout b.version b.bytes.now) metadata) (fault_some f) in
    ap checked_of (passed_on f c.from_residual-in_err-sizes_fault.result c.from_residual-in_err-sizes_fault.ensures.1)
    ∙ refusal_is f false ∙ body-as b.layout b.version a.crc a.type_text.now b.bytes.now (fault_number f) false e (fault_some f)

pub returns : goal.returns
unfolding sections_fault body_clean
returns c =
    let a = c.args in
    let b = a.body in
    let t = a.type_text.now in
    let e = c.requires in
    let x = c.part.ensures ∙ ap (λ (p : Places). part p.content_len p.content_at b.bytes.now) e in
    let y = c.part-metadata.ensures ∙ ap (λ (p : Places). part p.metadata_len p.metadata_at b.bytes.now) e in
    let n =
    ap₂ (contents_fault t) x y
    ∙ checks-contents b.layout b.version a.crc t b.bytes.now (sym c.in_ok-version_fault.ensures) (sym c.crc64.ensures ∙ c.if-crc64-crc.false) (sym c.in_ok-extended_fault.ensures)
    (sym (c.in_ok-sizes_fault.ensures ∙ ap (sizes_fault b.layout b.version b.bytes.now) y)) in
    c.contents_check.ensures ∙ body_clean_lem b.layout b.version a.crc t b.bytes.now _ _ n (ap (content_clean deepest t) x)

-- `header::read_header` meets its contract: the law of each case.
use mathlib.Core.Bool.{◌&&◌, true, false}
use mathlib.Core.Path.{◌≡◌, ap, ap₂, sym, ◌∙◌}
use native.Mathlib.Omega.{arith}
use Rattle.fields.specs.Bytes.{part}
use Rattle.fields.specs.Text.{text_ok}
use Rattle.fields.specs.Received.{TextField, field_read}
use Rattle.fields.proofs.Laws.Answer.{fault_some}
use Rattle.fields.proofs.Laws.Checks.{else-second}
use Rattle.fields.proofs.Laws.Tests.{true-false}
use Rattle.header.specs.HeaderReader.{limit_fault, header_fault, header_of}
use Rattle.header.proofs.Laws.Faults.{texts-pass, texts-passed, fault-short, fault-long, fault-texts, refused-with, read-handed}
use Rattle.header.proofs.read_header.Goals as goal
use Rattle.header.proofs.read_header.Goals.{In-Some-read_field}

-- both are text fields: the fault is that of the size
limited : (c : In-Some-read_field) → header_fault c.args.stream.now ≡ limit_fault (header_of c.args.stream.now).body_size
limited c =
    let s = c.args.stream.now in
    let type : true ≡ text_ok (part 12 2 s) = ap (λ (x : TextField). x.ok) c.in-Some.ensures ∙ ap text_ok c.part.ensures in
    let name : true ≡ text_ok (part 20 14 s) = ap (λ (x : TextField). x.ok) c.in-Some-read_field.ensures ∙ ap text_ok c.part-2.ensures in
    fault-long s (omega (arith, c.if-stream-lt-HEADER_SIZE.false)) ∙ else-second _ _ (texts-pass s (sym type) (sym name))

pub returns-then-stream-lt-HEADER_SIZE : goal.returns-then-stream-lt-HEADER_SIZE
returns-then-stream-lt-HEADER_SIZE c =
    let s = c.args.stream.now in
    c.refused.ensures ∙ sym (refused-with s 1 (fault-short s (omega arith)) (λ e. omega arith))

pub returns-in_default : goal.returns-in_default
returns-in_default c =
    let s = c.args.stream.now in
    let e : false ≡ text_ok (part 12 2 s) = ap (λ (x : TextField). x.ok) c.in_default.ensures ∙ ap text_ok c.part.ensures in
    let f = fault-texts s (omega (arith, c.if-stream-lt-HEADER_SIZE.false)) (λ z. true-false _ (texts-passed s z).0 (sym e)) in
    c.refused-in_default.ensures ∙ sym (refused-with s 2 f (λ z. omega (arith, z)))

pub returns-in_default-read_field : goal.returns-in_default-read_field
returns-in_default-read_field c =
    let s = c.args.stream.now in
    let e : false ≡ text_ok (part 20 14 s) = ap (λ (x : TextField). x.ok) c.in_default-read_field.ensures ∙ ap text_ok c.part-2.ensures in
    let f = fault-texts s (omega (arith, c.if-stream-lt-HEADER_SIZE.false)) (λ z. true-false _ (texts-passed s z).1 (sym e)) in
    c.refused-in_default-read_field.ensures ∙ sym (refused-with s 2 f (λ z. omega (arith, z)))

pub returns-in-Err : goal.returns-in-Err
returns-in-Err c =
    let e = limited (goal.at.returns-in-Err c).In-Some-read_field in
    let f = c.number.ensures ∙ c.in-Err.ensures ∙ ap limit_fault c.size_at.ensures ∙ sym e in
    c.refused-in-Err.ensures ∙ sym (refused-with _ _ (sym f) (λ z. fault_some c.in-Err.fault (sym c.number.ensures ∙ z)))

pub returns : goal.returns
returns c =
    let e = limited (goal.at.returns c).In-Some-read_field in
    let s = c.args.stream.now in
    let type = c.in-Some.ensures ∙ ap field_read c.part.ensures in
    let name = c.in-Some-read_field.ensures ∙ ap field_read c.part-2.ensures in
    let mark = ap₂ ◌&&◌ (ap (λ (x : TextField). x.clean) type) (ap (λ (x : TextField). x.clean) name) in
    let passed = e ∙ sym (c.in_default-limit_fault.ensures ∙ ap limit_fault c.size_at.ensures) in
    c.handed.ensures ∙ read-handed s passed (ap (λ (x : TextField). x.len) type) (ap (λ (x : TextField). x.len) name) mark

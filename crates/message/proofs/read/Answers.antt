-- `message::read` meets its contract: the reader's steps in turn.
use Prim.Native.Nat.{ℕ, ◌+◌}
use mathlib.Core.Path.{refl, ap, ◌∙◌}
use Rattle.fields.proofs.Laws.Answer.{fault_some}
use native.Mathlib.Omega.{arith}
use Rattle.message.specs.MessageReader.{refused}
use Rattle.message.proofs.Laws.Read.{says-header, size-limit, says-short, says-body, says-accepted, laid_out}
use Rattle.message.proofs.read.Goals as goal

pub returns-then-number-ne0 : goal.returns-then-number-ne0
returns-then-number-ne0 c = c.refusal.ensures ∙ says-header _ _ _ c.read_header-header.ensures c.if-number-ne0.true

pub overflow_add-size : goal.overflow_add-size
overflow_add-size c = omega (arith, size-limit _ _ c.read_header-header.ensures c.if-number-ne0.false)

pub returns-then-stream-size : goal.returns-then-stream-size
returns-then-stream-size c = c.refusal-then-stream-size.ensures ∙ says-short _ _ _ c.read_header-header.ensures c.if-number-ne0.false (omega (arith, c.if-stream-size.true))

pub accept-requires : goal.accept-requires
accept-requires c =
    (size-limit _ _ c.read_header-header.ensures c.if-number-ne0.false, laid_out _ _ _ c.read_header-header.ensures c.if-number-ne0.false (omega (arith, c.if-stream-size.false)) _ _ c.type_text.ensures c.part.ensures _ c.sections-places.ensures _ c.in-Ok.ensures refl)

pub returns-in-Ok : goal.returns-in-Ok
returns-in-Ok c =
    c.accept.ensures ∙ says-accepted _ _ _ c.read_header-header.ensures c.if-number-ne0.false (omega (arith, c.if-stream-size.false)) _ _ c.type_text.ensures c.part.ensures _ c.sections-places.ensures _ c.in-Ok.ensures refl _ refl

pub returns-in-Err : goal.returns-in-Err
returns-in-Err c =
    c.refusal-in-Err.ensures
    ∙ ap (λ (n : ℕ). refused n (58 + c.read_header-header.result.body_size)) c.number.ensures
    ∙ says-body _ _ _ c.read_header-header.ensures c.if-number-ne0.false (omega (arith, c.if-stream-size.false)) _ _ c.type_text.ensures c.part.ensures _ c.sections-places.ensures _ c.in-Err.ensures (fault_some c.in-Err.fault)

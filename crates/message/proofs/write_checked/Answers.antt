-- `message::write_checked` meets its contract: the laws of a writer's answer and buffer: refused by the room, and not refused.
use Prim.Native.Nat.{◌+◌}
use mathlib.Core.Path.{◌≡◌, refl, sym, ◌∙◌}
use native.Mathlib.Omega.{arith}
use lib.ListN.{length}
use Rattle.std.proofs.Common.{rules}
use Rattle.fields.specs.Answer.{room_fault}
use Rattle.fields.specs.Fault.{number_of}
use Rattle.fields.proofs.Laws.Answer.{room_fits}
use Rattle.message.specs.MessageWriter.{given_of}
use Rattle.message.proofs.Laws.Writer.{writable, length-given, answers-room, answers-written}
use Rattle.message.proofs.write_checked.Goals as goal

pub body_len-size-requires : goal.body_len-size-requires
body_len-size-requires c =
    let a = c.args in
    let p = given_of a.message in
    omega (arith, length-given a.layout p, (writable a.layout p c.requires).short)

pub returns-in_err-room_fault : goal.returns-in_err-room_fault
returns-in_err-room_fault c =
    let a = c.args in
    let p = given_of a.message in
    let n = c.body_len-size.result in
    let e : number_of c.from_residual.result ≡ room_fault (58 + n) (length a.out.now) = search rules in
    answers-room a.layout p a.out.now n _ (c.body_len-size.ensures.value ∙ sym (length-given a.layout p)) c.requires e _ c.from_residual.ensures.0 refl

pub put_message-requires : goal.put_message-requires
put_message-requires c =
    let a = c.args in
    let p = given_of a.message in
    (c.requires, c.body_len-size.ensures.value ∙ sym (length-given a.layout p), room_fits _ _ (sym c.in_ok-room_fault.ensures))

pub overflow_add-result : goal.overflow_add-result
overflow_add-result c = omega (arith, c.body_len-size.ensures.bound)

pub returns : goal.returns
returns c =
    let a = c.args in
    let p = given_of a.message in
    answers-written a.layout p a.out.now c.body_len-size.result 0 (c.body_len-size.ensures.value ∙ sym (length-given a.layout p)) c.requires
    c.in_ok-room_fault.ensures refl c.put_message.new.out c.put_message.ensures

-- `pose::write_position` meets its contract: the laws of a writer's answer and buffer, refused and not.
use Prim.Native.Nat.{◌*◌}
use mathlib.Core.Path.{◌≡◌, sym, ◌∙◌}
use native.Mathlib.Omega.{arith}
use lib.ListN.{length}
use Rattle.std.proofs.Common.{rules}
use Rattle.fields.specs.Answer.{room_fault}
use Rattle.fields.specs.Checks.{or_else}
use Rattle.fields.specs.Fault.{number_of}
use Rattle.fields.proofs.Laws.Checks.{zero-else}
use Rattle.fields.proofs.Laws.Writers.{refuses, stored}
use Rattle.pose.specs.Words.{word_bytes}
use Rattle.pose.specs.PositionReader.{count_fault}
use Rattle.pose.proofs.Laws.{length-word_bytes, count-few, position-room}
use Rattle.pose.proofs.write_position.Goals as goal

pub returns-in_err-write_fault : goal.returns-in_err-write_fault
returns-in_err-write_fault c =
    let a = c.args in
    let ws = a.words.now in
    let e : number_of c.from_residual.result ≡ or_else (count_fault (length ws)) (room_fault (4 * length ws) (length a.out.now)) = search rules in
    refuses (count_fault (length ws)) (word_bytes ws) a.out.now _ c.from_residual.ensures.0 (e ∙ position-room ws (length a.out.now))

pub put_words-requires : goal.put_words-requires
put_words-requires c =
    let a = c.args in
    let k = zero-else (count_fault (length a.words.now)) (room_fault (4 * length a.words.now) (length a.out.now)) (sym c.in_ok-write_fault.ensures) in
    omega (arith, count-few (length a.words.now) k.0)

pub returns : goal.returns
returns c =
    let a = c.args in
    let ws = a.words.now in
    stored (count_fault (length ws)) (word_bytes ws) a.out.now _ _
    (sym (c.in_ok-write_fault.ensures ∙ position-room ws (length a.out.now)))
    (sym (length-word_bytes ws)) c.put_words.ensures

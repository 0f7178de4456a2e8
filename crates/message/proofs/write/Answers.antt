-- `message::write` meets its contract: the law of a writer's answer and buffer where a check refuses, or what the rest of it gives.
use mathlib.Core.Path.{◌≡◌, sym}
use Rattle.std.proofs.Common.{rules}
use Rattle.fields.specs.Fault.{number_of}
use Rattle.message.specs.MessageWriter.{given_of, given_fault}
use Rattle.message.proofs.Laws.Writer.{answers-checks}
use Rattle.message.proofs.write.Goals as goal

pub returns-in_err-given_fault : goal.returns-in_err-given_fault
returns-in_err-given_fault c =
    let a = c.args in
    let e : number_of c.from_residual.result ≡ given_fault a.layout (given_of a.message) = search rules in
    answers-checks a.layout (given_of a.message) a.out.now _ c.from_residual.ensures.0 e

pub write_checked-requires : goal.write_checked-requires
write_checked-requires c = sym c.in_ok-given_fault.ensures

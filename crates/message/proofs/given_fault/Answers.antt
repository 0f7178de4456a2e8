-- `message::given_fault` meets its contract: the checks in turn.
use mathlib.Core.Path.{◌≡◌, sym, ◌∙◌}
use Rattle.std.proofs.Common.{rules}
use Rattle.fields.specs.Fault.{number_of}
use Rattle.fields.proofs.Laws.Answer.{err_number}
use Rattle.header.specs.HeaderWriter.{names_fault}
use Rattle.message.specs.MessageWriter.{given_of}
use Rattle.message.proofs.Laws.Writer.{write-names, write-limit, write-rest, long-body, short-body}
use Rattle.message.proofs.given_fault.Goals as goal

pub returns-in_err-names_fault : goal.returns-in_err-names_fault
returns-in_err-names_fault c =
    let a = c.args in
    let e : number_of c.from_residual.result ≡ names_fault a.message.type_text.now a.message.device_name.now = search rules in
    write-names a.layout (given_of a.message) _ e (err_number _ c.from_residual.ensures.0)

pub returns-then-not-within_limit : goal.returns-then-not-within_limit
returns-then-not-within_limit c =
    let a = c.args in
    let p = given_of a.message in
    write-limit a.layout p (sym c.in_ok-names_fault.ensures) (long-body a.layout p (sym c.within_limit.ensures ∙ c.if-not-within_limit.true))

pub returns : goal.returns
returns c =
    let a = c.args in
    let p = given_of a.message in
    c.given_sections_fault.ensures ∙ write-rest a.layout p (sym c.in_ok-names_fault.ensures) (short-body a.layout p (sym c.within_limit.ensures ∙ c.if-not-within_limit.false))

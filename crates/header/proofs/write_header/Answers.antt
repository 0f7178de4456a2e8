-- `header::write_header` meets its contract: the fault, or the stores of the fields.
use mathlib.Core.Path.{◌≡◌, sym, ◌∙◌}
use lib.ListN.{length}
use Rattle.std.proofs.Common.{rules}
use Rattle.fields.specs.Answer.{room_fault}
use Rattle.fields.specs.Checks.{or_else}
use Rattle.fields.specs.Fault.{number_of}
use Rattle.fields.proofs.Laws.Writers.{refuses, stored}
use Rattle.header.specs.Header.{encode_header}
use Rattle.header.specs.HeaderReader.{limit_fault}
use Rattle.header.specs.HeaderWriter.{names_fault, given, given_fault}
use Rattle.header.proofs.Laws.Layout.{length-header}
use Rattle.header.proofs.Laws.Writer.{header-room, stores-given}
use Rattle.header.proofs.write_header.Goals as goal

pub returns-in_err-write_fault : goal.returns-in_err-write_fault
returns-in_err-write_fault c =
    let a = c.args in
    let h = given a.header a.type_text.now a.device_name.now in
    let e : number_of c.from_residual.result
    ≡ or_else (names_fault a.type_text.now a.device_name.now) (or_else (limit_fault a.header.body_size) (room_fault 58 (length a.out.now))) =
    search rules in
    refuses (given_fault h) (encode_header h) a.out.now _ c.from_residual.ensures.0 (e ∙ header-room h (length a.out.now))

pub returns : goal.returns
returns c =
    let a = c.args in
    let h = given a.header a.type_text.now a.device_name.now in
    stored (given_fault h) (encode_header h) a.out.now _ 58 (sym (c.in_ok-write_fault.ensures ∙ header-room h (length a.out.now))) (sym (length-header h))
    (c.put_header.ensures ∙ stores-given a.header a.type_text.now a.device_name.now a.out.now)

-- `message::contents_fault` meets its contract: the number of the answer with the mark.
use mathlib.Core.Path.{ap, ◌∙◌}
use Rattle.std.specs.Prelude.{Ok, Err}
use Rattle.fields.specs.Fault.{number_of}
use Rattle.fields.proofs.Laws.Answer.{passed_on, number_is, checked-number}
use Rattle.message.proofs.contents_fault.Goals as goal

pub returns-in_err-contents_check : goal.returns-in_err-contents_check
returns-in_err-contents_check c =
    let f = c.in_err-contents_check.field-0.0 in
    ap number_of (passed_on f c.from_residual.result c.from_residual.ensures.1) ∙ number_is (Err f) c.in_err-contents_check.ensures ∙ checked-number _ _

pub returns : goal.returns
returns c = number_is (Ok c.in_ok-contents_check.field-0) c.in_ok-contents_check.ensures ∙ checked-number _ _

-- `feed::open_feed` meets its contract: fewer than 58 bytes, or a feed that keeps none.
use mathlib.Core.Path.{refl, ap, ◌∙◌}
use Rattle.std.specs.Prelude.{Err}
use Rattle.std.proofs.lemmas.Result.{err_from_is_err_and}
use Rattle.fields.specs.Fault.{fault_number}
use Rattle.fields.proofs.Laws.Answer.{fault_some}
use Rattle.feed.specs.Opening.{opened_as}
use Rattle.feed.proofs.Laws.Code.{opens_not, opens-so}
use Rattle.feed.proofs.open_feed.Goals as goal

pub returns-in_err-room_fault : goal.returns-in_err-room_fault
returns-in_err-room_fault c =
    let f = c.in_err-room_fault.field-0.0 in
    let p = err_from_is_err_and c.from_residual.result c.from_residual.ensures.1 in
    ap opened_as (p.1 ∙ ap Err p.2) ∙ opens_not _ _ (fault_number f) c.in_err-room_fault.ensures (fault_some f)

pub returns : goal.returns
returns c = opens-so _ _ 0 c.in_ok-room_fault.ensures refl

-- `exports::kudireppa_answer_at` meets its contract: four stores are one.
use mathlib.Core.Path.{ap, ◌∙◌}
use lib.Seq.{sets}
use Rattle.replay.specs.Records.{Answered, answered_in}
use Rattle.exports.specs.Exports.{answered_bytes}
use Rattle.exports.proofs.Laws.{answered-stored}
use Rattle.exports.proofs.kudireppa_answer_at.Goals as goal

pub returns : goal.returns
returns c =
    let answer = c.answer_at in
    let out = c.args.out.now in
    c.put_answered.ensures
    ∙ answered-stored out (answered_in answer.result)
    ∙ ap (λ (r : Answered). sets out 0 (answered_bytes r)) answer.ensures.equal

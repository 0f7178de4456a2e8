-- `exports::kudireppa_look_after` meets its contract: four stores are one.
use mathlib.Core.Path.{ap, ◌∙◌}
use lib.Seq.{sets}
use Rattle.replay.specs.Records.{Answered, answered_of}
use Rattle.exports.specs.Exports.{answered_bytes}
use Rattle.exports.proofs.Laws.{answered-stored}
use Rattle.exports.proofs.kudireppa_look_after.Goals as goal

pub returns : goal.returns
returns c =
    let answer = c.look_after in
    let out = c.args.out.now in
    c.put_answered.ensures
    ∙ answered-stored out (answered_of answer.result)
    ∙ ap (λ (r : Answered). sets out 0 (answered_bytes r)) answer.ensures.equal

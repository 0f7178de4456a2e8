-- `exports::put_pushed` meets its contract: seventeen stores are one.
use Prim.Native.Nat.{ℕ}
use mathlib.Core.Path.{ap, ◌∙◌}
use mathlib.Core.List.{List}
use lib.Seq.{sets}
use Rattle.fields.specs.Numbers.{be_bytes}
use Rattle.message.specs.declared.Answer.{Answer}
use Rattle.feed.specs.Feed.{answer_of, taken_of}
use Rattle.exports.specs.Exports.{answer_bytes}
use Rattle.exports.proofs.Laws.{pushed-stored}
use Rattle.exports.proofs.put_pushed.Goals as goal

pub returns : goal.returns
returns c =
    let a = c.args in
    let read = c.push_read.ensures in
    let answer = c.put_answer.ensures in
    let code = c.push_code.ensures in
    let taken = c.taken.ensures in
    c.put-3.ensures
    ∙ ap (λ (o : List ℕ). sets o 128 (be_bytes 8 a.kept))
    (c.put-2.ensures
    ∙ (λ i.
    sets
    ((c.put.ensures
    ∙ (λ j. sets ((answer ∙ ap (λ (x : Answer). sets a.out.now 0 (answer_bytes x)) read) j) 112 (be_bytes 8 (code j)))) i)
    120 (be_bytes 8 (taken i))))
    ∙ pushed-stored a.out.now (answer_of a.push) (taken_of a.push) a.kept

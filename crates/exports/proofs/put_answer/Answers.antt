-- `exports::put_answer` meets its contract: fourteen stores are one.
use mathlib.Core.Path.{ap, ◌∙◌}
use mathlib.Core.List.{List}
use Prim.Native.Nat.{ℕ}
use lib.ListN.{replicate}
use lib.Seq.{sets}
use Rattle.fields.specs.Numbers.{be_bytes}
use Rattle.fields.specs.Layout.{stores, number_fields}
use Rattle.message.specs.declared.Answer.{Answer}
use Rattle.exports.specs.Exports.{field_numbers, part_numbers}
use Rattle.exports.proofs.Laws.{answer-stored}
use Rattle.exports.proofs.put_answer.Goals as goal

pub returns : goal.returns
returns c =
    let a : Answer = c.args.answer in
    let out : List ℕ = c.args.out.now in
    c.put-2.ensures
    ∙ (λ i.
    sets
    ((c.put_parts.ensures
    ∙ ap (λ (o : List ℕ). stores o 56 (number_fields (replicate 6 8) (part_numbers a)) (replicate 6 8))
    (c.put_fields.ensures
    ∙ ap (λ (o : List ℕ). stores o 8 (number_fields (replicate 6 8) (field_numbers a)) (replicate 6 8)) c.put.ensures)) i)
    104 (be_bytes 8 (c.mark_number.ensures i)))
    ∙ answer-stored out a

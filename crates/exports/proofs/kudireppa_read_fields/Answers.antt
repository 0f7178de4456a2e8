-- `exports::kudireppa_read_fields` meets its contract: what is stored is the reader's answer in the layout of the number.
use mathlib.Core.Path.{ap, ◌∙◌}
use lib.Seq.{sets}
use Rattle.message.specs.declared.Layout.{Layout}
use Rattle.message.specs.declared.Answer.{Answer}
use Rattle.message.specs.MessageReader.{read_of}
use Rattle.exports.specs.Exports.{answer_bytes}
use Rattle.exports.proofs.kudireppa_read_fields.Goals as goal

pub returns : goal.returns
returns c =
    let a = c.args in
    c.put_answer.ensures
    ∙ ap (λ (x : Answer). sets a.out.now 0 (answer_bytes x))
    (c.read.ensures ∙ ap (λ (l : Layout). read_of l a.stream.now) c.layout_of-named.ensures)

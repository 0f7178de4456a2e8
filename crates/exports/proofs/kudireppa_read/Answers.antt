-- `exports::kudireppa_read` meets its contract: two fields of the answer in the layout of the number.
use mathlib.Core.Path.{ap, ◌∙◌}
use Rattle.message.specs.declared.Layout.{Layout}
use Rattle.message.specs.declared.Answer.{Answer}
use Rattle.message.specs.MessageReader.{read_of}
use Rattle.exports.proofs.kudireppa_read.Goals as goal

pub returns : goal.returns
returns c =
    let s = c.args.stream.now in
    let e = c.read-answer.ensures ∙ ap (λ (l : Layout). read_of l s) c.layout_of-named.ensures in
    record {
      step = ap (λ (a : Answer). a.step) e;
      number = ap (λ (a : Answer). a.number) e;
    }

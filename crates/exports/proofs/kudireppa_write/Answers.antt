-- `exports::kudireppa_write` meets its contract: the writer's answer in the layout of the number, by its number and its count.
use mathlib.Core.Path.{sym, ap, ◌∙◌}
use lib.ListN.{length}
use Rattle.fields.specs.Answer.{written_number, written_count}
use Rattle.fields.proofs.Laws.Answer.{written-number, written-count}
use Rattle.message.specs.declared.Layout.{Layout}
use Rattle.message.specs.MessageWriter.{message_written, message_out}
use Rattle.exports.specs.Exports.{message_given}
use Rattle.exports.proofs.kudireppa_write.Goals as goal

pub returns : goal.returns
returns c =
    let a = c.args in
    let p = message_given a.version a.time_stamp a.id a.type_text.now a.device_name.now a.further.now a.content.now a.metadata.now in
    let named = c.layout_of-named.ensures in
    let written = c.write-written.ensures.written ∙ ap (λ (l : Layout). message_written l p (length a.out.now)) named in
    record {
      count = c.unwrap_or.ensures ∙ sym (written-count c.write-written.result) ∙ ap written_count written;
      number = c.number_of.ensures ∙ sym (written-number c.write-written.result) ∙ ap written_number written;
      bytes = c.write-written.ensures.buffer ∙ ap (λ (l : Layout). message_out l p a.out.now) named;
    }

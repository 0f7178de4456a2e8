-- `exports::kudireppa_feed` meets its contract: the pushes, or the opening's refusal.
use mathlib.Core.Path.{sym, ap, ◌∙◌}
use lib.ListN.{length}
use lib.Seq.{sets}
use Rattle.message.specs.declared.Layout.{Layout}
use Rattle.feed.specs.Push.{open_of}
use Rattle.exports.proofs.Laws.{total-opened, buffer-opened, bytes-opened, total-refused, buffer-refused, bytes-refused}
use Rattle.exports.proofs.kudireppa_feed.Goals as goal

pub returns-in-Ok : goal.returns-in-Ok
returns-in-Ok c =
    let a = c.args in
    let e = sym (c.in-Ok.ensures ∙ ap (λ (l : Layout). open_of l (length a.buffer.now)) c.layout_of-named.ensures) in
    let f = c.push_all-fed.ensures in record {
      total = total-opened a.lengths.now a.stream.now a.buffer.now _ _ e _ f.result;
      bytes = buffer-opened a.lengths.now a.stream.now a.buffer.now _ _ e _ f.result _ f.bytes;
      out = c.put_pushed.ensures ∙ ap (sets a.out.now 0) (bytes-opened a.lengths.now a.stream.now a.buffer.now _ _ e _ f.result _ c.kept_len.ensures);
    }

pub returns-in-Err : goal.returns-in-Err
returns-in-Err c =
    let a = c.args in
    let e = sym (c.in-Err.ensures ∙ ap (λ (l : Layout). open_of l (length a.buffer.now)) c.layout_of-named.ensures) in record {
      total = total-refused a.lengths.now a.stream.now a.buffer.now _ _ e;
      bytes = buffer-refused a.lengths.now a.stream.now a.buffer.now _ _ e;
      out = c.put_pushed-in-Err.ensures ∙ ap (sets a.out.now 0) (bytes-refused a.lengths.now a.stream.now a.buffer.now _ _ e);
    }

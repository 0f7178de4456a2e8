-- `exports::kudireppa_next_child` meets its contract: what is stored is the cursor after the one in the bytes.
use mathlib.Core.Path.{ap, ◌∙◌}
use lib.Seq.{sets}
use Rattle.bind_cursor.specs.declared.Cursor.{Cursor}
use Rattle.bind_cursor.specs.Cursor.{next_of}
use Rattle.exports.specs.Exports.{cursor_bytes}
use Rattle.exports.proofs.kudireppa_next_child.Goals as goal

pub returns : goal.returns
returns c =
    let a = c.args in
    c.put_cursor.ensures
    ∙ ap (λ (x : Cursor). sets a.out.now 0 (cursor_bytes x))
    (c.next_child.ensures ∙ ap (next_of a.content.now) c.cursor_at.ensures)

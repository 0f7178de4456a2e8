-- `exports::kudireppa_first_child` meets its contract: what is stored is the cursor at the first child.
use mathlib.Core.Path.{ap, ◌∙◌}
use lib.Seq.{sets}
use Rattle.bind_cursor.specs.declared.Cursor.{Cursor}
use Rattle.exports.specs.Exports.{cursor_bytes}
use Rattle.exports.proofs.kudireppa_first_child.Goals as goal

pub returns : goal.returns
returns c =
    let a = c.args in
    c.put_cursor.ensures ∙ ap (λ (x : Cursor). sets a.out.now 0 (cursor_bytes x)) c.first_child.ensures

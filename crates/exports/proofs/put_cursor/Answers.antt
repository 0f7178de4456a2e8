-- `exports::put_cursor` meets its contract: nine stores are one.
use mathlib.Core.Path.{◌∙◌}
use Rattle.exports.proofs.Laws.{cursor-stored}
use Rattle.exports.proofs.put_cursor.Goals as goal

pub returns : goal.returns
returns c =
    let a = c.args in
    c.put_places.ensures ∙ cursor-stored a.out.now a.cursor c.mark_number.result c.mark_number.ensures

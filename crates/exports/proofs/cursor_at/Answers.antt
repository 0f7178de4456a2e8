-- `exports::cursor_at` meets its contract: nine reads.
use Rattle.exports.proofs.cursor_at.Goals as goal

pub returns : goal.returns
returns c = cc

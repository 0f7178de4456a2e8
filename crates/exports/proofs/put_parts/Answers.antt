-- `exports::put_parts` meets its contract: six stores.
use Rattle.exports.proofs.put_parts.Goals as goal

pub returns : goal.returns
returns c = cc

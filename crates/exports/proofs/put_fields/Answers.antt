-- `exports::put_fields` meets its contract: six stores.
use Rattle.exports.proofs.put_fields.Goals as goal

pub returns : goal.returns
returns c = cc

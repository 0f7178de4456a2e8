-- `exports::put_places` meets its contract: nine stores.
use Rattle.exports.proofs.put_places.Goals as goal

pub returns : goal.returns
returns c = cc

-- `image::put_halves` meets its contract: three stores.
use Rattle.image.proofs.put_halves.Goals as goal

pub returns : goal.returns
returns c = cc

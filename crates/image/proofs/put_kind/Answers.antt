-- `image::put_kind` meets its contract: five stores.
use Rattle.image.proofs.put_kind.Goals as goal

pub returns : goal.returns
returns c = cc

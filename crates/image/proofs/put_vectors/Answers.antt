-- `image::put_vectors` meets its contract: twelve stores.
use Rattle.image.proofs.put_vectors.Goals as goal

pub returns : goal.returns
returns c = cc

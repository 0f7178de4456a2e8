-- `image::put_header` meets its contract: the stores of its parts.
use Rattle.image.proofs.put_header.Goals as goal

pub returns : goal.returns
returns c = cc

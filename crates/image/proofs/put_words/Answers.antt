-- `image::put_words` meets its contract: three stores.
use Rattle.image.proofs.put_words.Goals as goal

pub returns : goal.returns
returns c = cc

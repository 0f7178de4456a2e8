-- `header::size_at` meets its contract: the number at 42.
use Rattle.header.specs.HeaderReader.{header_of}
use Rattle.header.proofs.size_at.Goals as goal

pub returns : goal.returns
unfolding header_of
returns c = c.read.ensures

-- `header::handed` meets its contract: field by field.
use Rattle.header.specs.HeaderReader.{header_of}
use Rattle.header.proofs.handed.Goals as goal

pub returns : goal.returns
unfolding header_of
returns c = cc

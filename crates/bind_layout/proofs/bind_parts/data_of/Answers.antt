-- `bind_layout::bind_parts::data_of` meets its contract.
use Rattle.bind_layout.proofs.bind_parts.data_of.Goals as goal

pub returns : goal.returns
returns c = simp (c.rest.ensures, c.read.ensures, c.after_headers-after.ensures)

-- `bind_layout::bind_parts::table_of` meets its contract.
use Rattle.bind_layout.proofs.bind_parts.table_of.Goals as goal

pub returns : goal.returns
returns c = simp (c.part.ensures, c.read.ensures, c.after_headers-after.ensures)

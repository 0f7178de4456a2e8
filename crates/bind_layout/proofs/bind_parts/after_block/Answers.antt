-- `bind_layout::bind_parts::after_block` meets its contract.
use Rattle.bind_layout.proofs.bind_parts.after_block.Goals as goal

pub returns : goal.returns
returns c = simp (c.rest-2.ensures, c.rest.ensures)

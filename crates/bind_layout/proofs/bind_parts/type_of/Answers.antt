-- `bind_layout::bind_parts::type_of` meets its contract.
use Rattle.bind_layout.proofs.bind_parts.type_of.Goals as goal

pub returns : goal.returns
returns c = simp (c.text_of.ensures, c.first.ensures)

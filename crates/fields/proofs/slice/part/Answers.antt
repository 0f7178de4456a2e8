-- `fields::slice::part` meets its contract.
use mathlib.Core.Path.{ap, ◌∙◌}
use lib.ListN.{take}
use Rattle.fields.proofs.slice.part.Goals as goal

pub returns : goal.returns
returns c = c.first.ensures ∙ ap (take c.args.n) c.rest.ensures

use mathlib.Core.Path.{◌∙◌}
use Rattle.fields.proofs.Laws.Stores.{sets-zeros}
use Rattle.fields.proofs.store.array.Goals as goal

pub returns : goal.returns
returns g c = c.put.ensures ∙ sets-zeros g.row.N c.args.s.now

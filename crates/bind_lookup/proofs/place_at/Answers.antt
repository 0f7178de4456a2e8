-- `bind_lookup::place_at` meets its contract.
use Rattle.bind_lookup.specs.ChildLookup.{placed}
use Rattle.bind_lookup.proofs.Laws.Lookup.{left-inside}
use Rattle.bind_lookup.proofs.place_at.Goals as goal

pub overflow_sub-result : goal.overflow_sub-result
overflow_sub-result c = left-inside c.args.content.now _ c.data_from.ensures

pub returns : goal.returns
unfolding placed
returns c = cc

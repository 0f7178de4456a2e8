-- `panel::free_place` meets its contract: what the search answers.
use Rattle.std.proofs.Common.{rules, tests}
use Rattle.std.specs.Prelude.{is_none}
use Rattle.std.proofs.lemmas.Iterator.{YieldsList-from_slice}
use Rattle.std.proofs.lemmas.Iterator.Search.{position_from_yields_List}
use Rattle.panel.proofs.Laws.Table.{free-placed}
use Rattle.panel.proofs.free_place.Goals as goal

pub returns-clause-place : goal.returns-clause-place
returns-clause-place c =
    let xs = c.args.tiles in
    free-placed xs c.well_formed.0.1.0.1 c.position.result
    (position_from_yields_List is_none _ _ _ c.position.ensures.ran (YieldsList-from_slice xs cc) (λ x b q k. search (rules, tests)))

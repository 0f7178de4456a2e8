-- `panel::has` meets its contract: what the search answers.
use mathlib.Core.Path.{◌∙◌}
use Rattle.std.proofs.Common.{rules, tests}
use Rattle.std.proofs.lemmas.Iterator.{YieldsList-from_slice}
use Rattle.std.proofs.lemmas.Iterator.Search.{any_from_yields_List}
use Rattle.panel.specs.Tiles.{tile_of, is_tile}
use Rattle.panel.proofs.Laws.Table.{any-listed}
use Rattle.panel.proofs.has.Goals as goal

pub returns : goal.returns
returns c =
    let xs = c.args.tiles in
    any_from_yields_List (λ x. is_tile c.args.label (tile_of x)) _ _ _ c.any.ensures.ran (YieldsList-from_slice xs cc) (λ x b q k. search (rules, tests))
    ∙ any-listed (is_tile c.args.label) xs

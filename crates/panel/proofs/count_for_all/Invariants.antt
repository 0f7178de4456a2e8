-- `panel::count_for_all` meets its contract. The loop's invariant: the first tiles are changed, and whether the message is for one of
-- them is known.
use Rattle.std.specs.Prelude.{map}
use Rattle.panel.specs.Tiles.{tile_of, is_tile, counted_tile}
use Rattle.panel.proofs.Laws.Table.{Walking}
use Rattle.panel.proofs.count_for_all.Given as goal

abbrev pub invariant-loop-place : goal.invariant-loop-place
invariant-loop-place l =
    Walking (is_tile l.label) (λ x. counted_tile x l.clock l.value) (map tile_of l.initial.tiles) l.place-index (map tile_of l.tiles) l.counts

-- `panel::relink_all` meets its contract. The loop's invariant: the first tiles are changed.
use Rattle.std.specs.Prelude.{◌≡◌, map}
use Rattle.panel.specs.Tiles.{tile_of, relinked}
use Rattle.panel.proofs.Laws.Table.{changed}
use Rattle.panel.proofs.relink_all.Given as goal

abbrev pub invariant-loop-place : goal.invariant-loop-place
invariant-loop-place l = map tile_of l.tiles ≡ changed relinked l.place-index (map tile_of l.initial.tiles)

use mathlib.Core.Path.{sym, ap, ◌∙◌}
use native.Mathlib.Omega.{arith}
use Rattle.std.specs.Prelude.{◌≡◌, None, map, set, length}
use Rattle.fields.proofs.Laws.Checks.{and_split}
use Rattle.panel.specs.Records.{Tile}
use Rattle.panel.specs.Tiles.{tile_of, is_tile, counted_tile}
use Rattle.panel.proofs.Laws.Table.{length-tiles, get-tile, set_tile, walking-long, walking-hit, walking-miss, walking-passed, walking-changed}
use Rattle.panel.proofs.count_for_all.Goals as goal
use Rattle.panel.proofs.count_for_all.Goals.{then-is_tile, else-is_tile}

pub loop-place-preserved : goal.loop-place-preserved
loop-place-preserved c =
    let a = c.args in
    let l = c.loop-place in
    let g : Tile → Tile = λ x. counted_tile x a.clock a.value in
    let long = walking-long (is_tile a.label) (λ x. counted_tile x a.clock a.value) (map tile_of a.tiles.now) l.place-index (map tile_of l.tiles) l.counts l.invariant in
    let same : length l.tiles ≡ length a.tiles.now = sym (length-tiles l.tiles) ∙ long ∙ length-tiles a.tiles.now in
    let here = get-tile l.tiles l.place-index None (omega (arith, same)) in
    elim c.if-is_tile.branch [
      | then-is_tile w ↦
          let e = sym c.is_tile.ensures ∙ w.if-is_tile.true in
          walking-hit (is_tile a.label) (λ x. counted_tile x a.clock a.value) (map tile_of a.tiles.now) l.place-index _ _ l.invariant
          (omega (arith, length-tiles a.tiles.now))
          (ap (map tile_of) w.tiles-is ∙ set_tile l.tiles l.place-index _) w.counts-is (ap (is_tile a.label) here ∙ e)
          (w.count.ensures (and_split _ _ e).0 ∙ ap g (sym here))
      | else-is_tile w ↦
          let e = sym c.is_tile.ensures ∙ w.if-is_tile.false in
          walking-miss (is_tile a.label) (λ x. counted_tile x a.clock a.value) (map tile_of a.tiles.now) l.place-index _ _ l.invariant
          (omega (arith, length-tiles a.tiles.now))
          (ap (map tile_of) w.tiles-is ∙ set_tile l.tiles l.place-index _ ∙ ap (set (map tile_of l.tiles) l.place-index) (sym here))
          w.counts-is (ap (is_tile a.label) here ∙ e)
    ]

pub returns-clause-tiles : goal.returns-clause-tiles
returns-clause-tiles c =
    let a = c.args in
    walking-changed (is_tile a.label) (λ x. counted_tile x a.clock a.value) (map tile_of a.tiles.now) c.loop-place.place-index _ _ c.loop-place.invariant
    (omega (arith, length-tiles a.tiles.now))

pub returns-clause-counts : goal.returns-clause-counts
returns-clause-counts c =
    let a = c.args in
    walking-passed (is_tile a.label) (λ x. counted_tile x a.clock a.value) (map tile_of a.tiles.now) c.loop-place.place-index _ _ c.loop-place.invariant
    (omega (arith, length-tiles a.tiles.now))

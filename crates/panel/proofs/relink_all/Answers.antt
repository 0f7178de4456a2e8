use mathlib.Core.Path.{sym, ap, ◌∙◌}
use native.Mathlib.Omega.{arith}
use Rattle.std.specs.Prelude.{◌≡◌, None, map, length}
use Rattle.panel.specs.Tiles.{tile_of, relinked}
use Rattle.panel.proofs.Laws.Table.{length-tiles, get-tile, set_tile, length-changed, change-step, change-all}
use Rattle.panel.proofs.relink_all.Goals as goal

pub loop-place-preserved : goal.loop-place-preserved
loop-place-preserved c =
    let a = c.args in
    let l = c.loop-place in
    let i = l.place-index in
    let old = map tile_of a.tiles.now in
    let long = ap length l.invariant ∙ length-changed relinked i old in
    let same : length l.tiles ≡ length a.tiles.now = sym (length-tiles l.tiles) ∙ long ∙ length-tiles a.tiles.now in
    let here = get-tile l.tiles i None (omega (arith, same)) in
    set_tile l.tiles i _
    ∙ change-step relinked i old l.invariant (omega (arith, length-tiles a.tiles.now)) (c.relink.ensures ∙ ap relinked (sym here))

pub returns : goal.returns
returns c =
    let a = c.args in
    let l = c.loop-place in
    l.invariant ∙ change-all relinked l.place-index (map tile_of a.tiles.now) (omega (arith, length-tiles a.tiles.now))

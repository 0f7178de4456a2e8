-- `panel::Panel::tile_at` meets its contract: the laws of its checks in turn.
use mathlib.Core.Path.{refl, ap, ◌∙◌}
use native.Mathlib.Omega.{arith}
use Rattle.std.proofs.Common.{rules}
use Rattle.std.specs.Prelude.{◌≡◌, Some, None}
use Rattle.fields.specs.Fault.{number_of}
use Rattle.history.specs.Summary.{clock_fault}
use Rattle.panel.specs.Tiles.{tile_of}
use Rattle.panel.specs.Calls.{panel_of}
use Rattle.panel.proofs.Laws.Table.{get-tile}
use Rattle.panel.proofs.Laws.Calls.{look-past, look-at}
use Rattle.panel.proofs.Panel.tile_at.Goals as goal

pub returns-then-tile-ge-TILES-clause-number : goal.returns-then-tile-ge-TILES-clause-number
returns-then-tile-ge-TILES-clause-number c = look-past (panel_of c.args.self) c.args.tile c.args.clock c.if-tile-ge-TILES.true

pub returns-in-None-clause-number : goal.returns-in-None-clause-number
returns-in-None-clause-number c =
    let a = c.args in
    look-at (panel_of a.self) a.tile a.clock c.if-tile-ge-TILES.false (tile_of None)
    (get-tile a.self.tiles a.tile None (omega arith) ∙ ap tile_of c.in-None.is) _ refl

pub returns-in_err-clock_fault-in-Some-clause-number : goal.returns-in_err-clock_fault-in-Some-clause-number
returns-in_err-clock_fault-in-Some-clause-number c =
    let a = c.args in
    let e : number_of c.from_residual.result ≡ clock_fault a.self.link.clock a.clock = search rules in
    e ∙ look-at (panel_of a.self) a.tile a.clock c.if-tile-ge-TILES.false (tile_of (Some c.in-Some.found))
    (get-tile a.self.tiles a.tile None (omega arith) ∙ ap tile_of c.in-Some.is) _ refl

pub returns-in_ok-clock_fault-in-Some-clause-number : goal.returns-in_ok-clock_fault-in-Some-clause-number
returns-in_ok-clock_fault-in-Some-clause-number c =
    let a = c.args in
    look-at (panel_of a.self) a.tile a.clock c.if-tile-ge-TILES.false (tile_of (Some c.in-Some.found))
    (get-tile a.self.tiles a.tile None (omega arith) ∙ ap tile_of c.in-Some.is) 0 c.in_ok-clock_fault-in-Some.ensures

-- `panel::Panel::enter` meets its contract: the laws of its checks in turn, and of a tile that enters.
use native.Mathlib.Omega.{arith}
use mathlib.Core.Path.{refl, ap, sym, ◌∙◌}
use Rattle.std.specs.Prelude.{List, Some, None}
use Rattle.panel.specs.Records.{Tile, Added}
use Rattle.panel.specs.Calls.{panel_of}
use Rattle.panel.proofs.Laws.Table.{set_tile}
use Rattle.panel.proofs.Laws.Calls.{add-barred, add-taken, add-full, add_done}
use Rattle.panel.proofs.Panel.enter.Goals as goal

pub returns-then-not-is_allowed : goal.returns-then-not-is_allowed
returns-then-not-is_allowed c =
    let a = c.args in
    add-barred (panel_of a.self.now) a.type_text.now a.name.now a.hold_time (sym c.is_allowed.ensures ∙ c.if-not-is_allowed.true)

pub returns-then-has : goal.returns-then-has
returns-then-has c =
    let a = c.args in
    add-taken (panel_of a.self.now) a.type_text.now a.name.now a.hold_time
    (sym c.is_allowed.ensures ∙ c.if-not-is_allowed.false) _ c.label_of-label.ensures
    (sym c.has.ensures ∙ c.if-has.true)

pub returns-in_default : goal.returns-in_default
returns-in_default c =
    let a = c.args in
    add-full (panel_of a.self.now) a.type_text.now a.name.now a.hold_time
    (sym c.is_allowed.ensures ∙ c.if-not-is_allowed.false) _ c.label_of-label.ensures
    (sym c.has.ensures ∙ c.if-has.false) 16 c.in_default.ensures.place (omega arith)

pub returns : goal.returns
returns c =
    let a = c.args in
    let p = panel_of a.self.now in
    ap (λ (ts : List Tile). record { panel = record { tiles = ts; link = p.link }; answer = Added c.in-Some.place })
    (set_tile a.self.now.tiles c.in-Some.place (Some (record { label = c.label_of-label.result; hold_time = a.hold_time; last = None })))
    ∙ add_done p a.type_text.now a.name.now a.hold_time
    (sym c.is_allowed.ensures ∙ c.if-not-is_allowed.false) _ c.label_of-label.ensures
    (sym c.has.ensures ∙ c.if-has.false) _ c.in-Some.ensures.place c.in-Some.ensures.inside _ refl

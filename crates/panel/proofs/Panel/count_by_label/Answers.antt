-- `panel::Panel::count_by_label` meets its contract: the laws of a pose that no tile is for, and of one that counts.
use mathlib.Core.Path.{sym, ap, ap₂, ◌∙◌}
use Rattle.std.specs.Prelude.{List}
use Rattle.panel.specs.Records.{Tile}
use Rattle.panel.specs.Tiles.{label_of, value_of, is_tile, counted_tile}
use Rattle.panel.specs.Calls.{panel_of, refused_call}
use Rattle.panel.proofs.Laws.Table.{none-passed}
use Rattle.panel.proofs.Laws.Calls.{label-unknown, label-done}
use Rattle.panel.proofs.Panel.count_by_label.Goals as goal

pub returns-then-not-count_for_all : goal.returns-then-not-count_for_all
returns-then-not-count_for_all c =
    let a = c.args in
    let p = panel_of a.self.now in
    let none = sym c.count_for_all.ensures.counts ∙ c.if-not-count_for_all.true in
    ap (λ (ts : List Tile). refused_call (record { tiles = ts; link = a.self.now.link }) 13)
    (c.count_for_all.ensures.tiles ∙ none-passed (is_tile c.label_of-label.result) (λ x. counted_tile x a.clock c.value_of-value.result) p.tiles none)
    ∙ label-unknown p a.clock a.bytes.now a.read
    _ (c.label_of-label.ensures ∙ ap₂ label_of c.type_text.ensures c.device_name.ensures) none

pub returns : goal.returns
returns c =
    let a = c.args in
    label-done (panel_of a.self.now) a.clock a.bytes.now a.read
    _ (c.label_of-label.ensures ∙ ap₂ label_of c.type_text.ensures c.device_name.ensures)
    (sym c.count_for_all.ensures.counts ∙ c.if-not-count_for_all.false)
    _ (c.value_of-value.ensures ∙ ap value_of c.content.ensures) _ c.count_for_all.ensures.tiles

-- `panel::Panel::look` meets its contract: the laws of its checks in turn, and of a tile that is shown.
use mathlib.Core.Path.{refl, sym, ap, ◌∙◌}
use Rattle.std.specs.Prelude.{Some}
use Rattle.panel.specs.declared.Value.{Value}
use Rattle.panel.specs.declared.LookAnswer.TheVariants.{Refused}
use Rattle.panel.specs.Tiles.{tile_of}
use Rattle.panel.specs.Calls.{panel_of}
use Rattle.fields.proofs.Laws.Answer.{fault_some}
use Rattle.panel.proofs.Laws.Calls.{look_words, look-refused, look-shown}
use Rattle.panel.proofs.Panel.look.Goals as goal

pub returns-in-Ok : goal.returns-in-Ok
returns-in-Ok c =
    let a = c.args in
    let s = c.show-looked in
    let e = look-shown (panel_of a.self) a.tile a.clock (tile_of (Some c.in-Ok.shown)) c.in-Ok.ensures.tile s.result s.ensures.answer s.ensures.value
    (sym c.in-Ok.ensures.number) in
    record { equal = e; words = ap look_words e; same = refl }

pub returns-in-Err : goal.returns-in-Err
returns-in-Err c =
    let a = c.args in
    let f = c.number.ensures ∙ c.in-Err.ensures.number in
    let e =
    ap (λ (v : Value). record { panel = panel_of a.self; answer = Refused c.number.result; value = v }) c.no_value.ensures
    ∙ look-refused (panel_of a.self) a.tile a.clock c.number.result (sym f) (λ z. fault_some c.in-Err.fault (sym c.number.ensures ∙ z)) in
    record { equal = e; words = ap look_words e; same = refl }

-- `panel::same_label` meets its contract: the texts, byte by byte.
use mathlib.Core.Path.{ap₂, ◌∙◌}
use mathlib.Core.Bool.{Bool, ◌&&◌}
use Rattle.panel.proofs.Laws.Labels.{same-bytes}
use Rattle.panel.proofs.same_label.Goals as goal

pub returns : goal.returns
returns c =
    let a = c.args.a in
    let b = c.args.b in
    c.eq.ensures ∙ ap₂ (λ (t n : Bool). t && n) (same-bytes a.type_text b.type_text) (same-bytes a.name b.name)

-- `fields::text::text_of` meets its contract.
use Prim.Native.Nat.{ℕ}
use mathlib.Core.Path.{ap, sym, ◌∙◌}
use lib.ListN.{take}
use Rattle.fields.proofs.Laws.Text.{text-take}
use Rattle.fields.proofs.text.text_of.Goals as goal

pub returns : goal.returns
returns c =
    let s = c.args.s.now in
    c.first.ensures ∙ ap (λ (n : ℕ). take n s) c.text_len-n.ensures ∙ sym (text-take s)

-- `fields::text::past_text` meets its contract.
use Prim.Native.Nat.{ℕ, ◌+◌}
use mathlib.Core.Path.{ap, sym, ◌∙◌}
use native.Mathlib.Omega.{arith}
use lib.ListN.{drop}
use Rattle.fields.proofs.Laws.Text.{past-drop, length-text_of}
use Rattle.fields.proofs.text.past_text.Goals as goal

pub overflow_add-n : goal.overflow_add-n
overflow_add-n c = omega (arith, length-text_of c.args.s.now)

pub returns : goal.returns
returns c =
    let s = c.args.s.now in
    c.rest.ensures ∙ ap (λ (n : ℕ). drop (n + 1) s) c.text_len-n.ensures ∙ sym (past-drop s)

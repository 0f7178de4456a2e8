-- `bind_writer::put_header` meets its contract: two runs of bytes are one.
use Prim.Native.Nat.{ℕ, ◌+◌}
use mathlib.Core.Path.{ap, sym, ◌∙◌}
use mathlib.Core.List.{List}
use lib.Seq.{sets}
use Rattle.fields.specs.Text.{text_bytes}
use Rattle.fields.specs.Numbers.{be_bytes}
use Rattle.fields.proofs.Laws.Stores.{sets-append}
use Rattle.fields.proofs.Laws.Text.{length-text_bytes, text_bytes-sized}
use Rattle.bind_writer.proofs.put_header.Goals as goal

pub returns : goal.returns
returns c =
    let a = c.args in
    let x = text_bytes 12 a.type_text.now in
    let y = be_bytes 8 a.size in
    c.put-2.ensures
    ∙ ap (λ (l : List ℕ). sets l (a.at + 12) y) (c.put.ensures ∙ ap (sets a.out.now a.at) (c.array.ensures ∙ sym (text_bytes-sized 12 a.type_text.now)))
    ∙ ap (λ (n : ℕ). sets (sets a.out.now a.at x) (a.at + n) y) (sym (length-text_bytes 12 a.type_text.now))
    ∙ sym (sets-append a.out.now a.at x y)

-- `bind_writer::put_pad` meets its contract: one byte, or none.
use Prim.Native.Nat.{ℕ}
use mathlib.Core.Path.{ap, sym, ◌∙◌}
use lib.ListN.{replicate}
use lib.Seq.{sets}
use Rattle.fields.specs.Numbers.{be_bytes}
use Rattle.bind_writer.proofs.put_pad.Goals as goal

pub returns-then-n-eq1 : goal.returns-then-n-eq1
unfolding be_bytes
returns-then-n-eq1 c =
    let a = c.args in
    c.put.ensures ∙ ap (λ (m : ℕ). sets a.out.now a.at (replicate m 0)) (sym c.if-n-eq1.true)

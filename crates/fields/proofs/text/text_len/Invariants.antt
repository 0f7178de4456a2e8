-- `fields::text::text_len` meets its contract. The loop's invariant: the length is `i` and that of the text from `i` on.
use Prim.Native.Nat.{◌+◌}
use mathlib.Core.Path.{◌≡◌}
use lib.ListN.{length, drop}
use Rattle.fields.specs.Text.{text_of}
use Rattle.fields.proofs.text.text_len.Given as goal

abbrev pub invariant-loop-i : goal.invariant-loop-i
invariant-loop-i l = length (text_of l.s) ≡ l.i + length (text_of (drop l.i l.s))

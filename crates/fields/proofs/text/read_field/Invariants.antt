-- `fields::text::read_field` meets its contract. The loop's invariant: the answer is that for the bytes from `i` on.
use mathlib.Core.Path.{◌≡◌}
use lib.ListN.{drop}
use Rattle.fields.specs.Received.{field_read}
use Rattle.fields.proofs.Laws.Received.{field_from}
use Rattle.fields.proofs.text.read_field.Given as goal

abbrev pub invariant-loop-i : goal.invariant-loop-i
invariant-loop-i l = field_read l.f ≡ field_from l.i (drop l.i l.f)

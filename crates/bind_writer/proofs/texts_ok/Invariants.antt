-- `bind_writer::texts_ok` meets its contract. The loop's invariant: the test of all children is that of those from place `i` on.
use Prim.Native.Nat.{◌≤◌}
use mathlib.Core.Path.{◌≡◌}
use mathlib.Core.List.{map}
use lib.ListN.{length, drop}
use Rattle.fields.specs.Lists.{all_of}
use Rattle.bind_writer.specs.ChildLists.{WithNames}
use Rattle.bind_writer.specs.BindWriter.{texts_ok}
use Rattle.bind_writer.proofs.texts_ok.Given as goal

abbrev pub invariant-loop-i : goal.invariant-loop-i
invariant-loop-i l = (l.i ≤ length l.types) × WithNames (map (λ x. x.now) l.types) (map (λ x. x.now) l.names) (λ cs. all_of texts_ok cs ≡ all_of texts_ok (drop l.i cs))

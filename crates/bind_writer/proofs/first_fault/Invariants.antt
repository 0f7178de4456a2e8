-- `bind_writer::first_fault` meets its contract. The loop's invariant: the first fault of all children is that of those from place `i` on.
use Prim.Native.Nat.{◌≤◌}
use mathlib.Core.Path.{◌≡◌}
use mathlib.Core.List.{map}
use lib.ListN.{length, drop}
use Rattle.content.specs.ContentTheorems.{first_fault}
use Rattle.bind_writer.specs.ChildLists.{WithContents}
use Rattle.bind_writer.specs.BindWriter.{child_fault}
use Rattle.bind_writer.proofs.first_fault.Given as goal

abbrev pub invariant-loop-i : goal.invariant-loop-i
invariant-loop-i l = (l.i ≤ length l.types) × WithContents (map (λ x. x.now) l.types) (map (λ x. x.now) l.contents) (λ cs. first_fault child_fault cs ≡ first_fault child_fault (drop l.i cs))

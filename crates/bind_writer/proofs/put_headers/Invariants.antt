-- `bind_writer::put_headers` meets its contract. The loop's invariant: the headers of the first `i` children are written.
use Prim.Native.Nat.{◌≤◌}
use mathlib.Core.Path.{◌≡◌}
use mathlib.Core.List.{map}
use lib.ListN.{length, take}
use lib.Seq.{sets}
use Rattle.fields.specs.Lists.{flat}
use Rattle.bind_writer.specs.BindWriter.{plain_header}
use Rattle.bind_writer.specs.ChildLists.{WithContents}
use Rattle.bind_writer.proofs.put_headers.Given as goal

abbrev pub invariant-loop-i : goal.invariant-loop-i
invariant-loop-i l = (l.i ≤ length l.types)
    × (length l.out ≡ length l.initial.out)
    × WithContents (map (λ x. x.now) l.types) (map (λ x. x.now) l.contents) (λ cs. l.out ≡ sets l.initial.out 2 (flat plain_header (take l.i cs)))

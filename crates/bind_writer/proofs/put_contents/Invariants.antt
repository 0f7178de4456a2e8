-- `bind_writer::put_contents` meets its contract. The loop's invariant: the first `i` contents are written, up to place `to`.
use Prim.Native.Nat.{◌+◌, ◌≤◌}
use mathlib.Core.Path.{◌≡◌}
use mathlib.Core.List.{map}
use lib.ListN.{length, take}
use lib.Seq.{sets}
use Rattle.fields.specs.Lists.{flat}
use Rattle.bind_layout.specs.Children.{padded}
use Rattle.bind_writer.specs.ChildLists.{WithContents}
use Rattle.bind_writer.specs.BindWriter.{clean_data}
use Rattle.bind_writer.proofs.put_contents.Given as goal

abbrev pub invariant-loop-i : goal.invariant-loop-i
invariant-loop-i l = (l.i ≤ length l.contents)
    × (length l.out ≡ length l.initial.out)
    × (l.to ≡ l.at + length (flat padded (take l.i (map (λ x. x.now) l.contents))))
    × WithContents (map (λ x. x.now) l.types) (map (λ x. x.now) l.contents) (λ cs. l.out ≡ sets l.initial.out l.at (flat clean_data (take l.i cs)))

-- `bind_writer::put_names` meets its contract. The loop's invariant: the first `i` names are written, up to place `to`.
use Prim.Native.Nat.{◌+◌, ◌≤◌}
use mathlib.Core.Path.{◌≡◌}
use mathlib.Core.List.{map}
use lib.ListN.{length, take}
use lib.Seq.{sets}
use Rattle.fields.specs.Lists.{flat}
use Rattle.bind_layout.specs.Children.{ended}
use Rattle.bind_writer.proofs.put_names.Given as goal

abbrev pub invariant-loop-name : goal.invariant-loop-name
invariant-loop-name l = (l.name-index ≤ length l.names)
    × (length l.out ≡ length l.initial.out)
    × (l.to ≡ l.at + length (flat ended (take l.name-index (map (λ x. x.now) l.names))))
    × (l.out ≡ sets l.initial.out l.at (flat ended (take l.name-index (map (λ x. x.now) l.names))))

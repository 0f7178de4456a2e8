-- `bind_writer::names_len` meets its contract. The loop's invariant: `sum` is the length of the first `i` names, and at most 65,535.
use Prim.Native.Nat.{◌≤◌}
use mathlib.Core.Path.{◌≡◌}
use mathlib.Core.List.{map}
use lib.ListN.{length, take}
use Rattle.fields.specs.Lists.{flat}
use Rattle.bind_layout.specs.Children.{ended}
use Rattle.bind_writer.proofs.names_len.Given as goal

abbrev pub invariant-loop-name : goal.invariant-loop-name
invariant-loop-name l = (l.name-index ≤ length l.names) × (l.sum ≡ length (flat ended (take l.name-index (map (λ x. x.now) l.names)))) × (l.sum ≤ 65535)

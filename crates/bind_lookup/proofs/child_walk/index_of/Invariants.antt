-- `bind_lookup::child_walk::index_of` meets its contract. The loop's invariant: the number is `i` and that of the names from name `i` on.
use Prim.Native.Nat.{◌+◌, ◌-◌}
use mathlib.Core.Path.{◌≡◌}
use Rattle.bind_lookup.specs.ChildLookup.{index_in, index_of}
use Rattle.bind_lookup.proofs.child_walk.index_of.Given as goal

abbrev pub invariant-loop-i : goal.invariant-loop-i
invariant-loop-i l = index_of l.content l.name ≡ l.i + index_in (l.i-end - l.i) l.names l.name

-- `bind_lookup::child_walk::names_from` meets its contract. The loop's invariant: the names are those of what is left of the table.
use mathlib.Core.Path.{◌≡◌}
use Prim.Native.Nat.{◌-◌}
use Rattle.bind_lookup.specs.ChildLookup.{names_from}
use Rattle.bind_lookup.proofs.child_walk.names_from.Given as goal

abbrev pub invariant-loop : goal.invariant-loop
invariant-loop l = names_from l.i l.table ≡ names_from (l.i - l.counter) l.names

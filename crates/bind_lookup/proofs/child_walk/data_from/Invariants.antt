-- `bind_lookup::child_walk::data_from` meets its contract. The loop's invariant: the data are those of what is left of the headers and of the data.
use mathlib.Core.Path.{◌≡◌}
use Prim.Native.Nat.{◌-◌}
use Rattle.bind_layout.specs.BindLayout.{headers, data_of}
use Rattle.bind_lookup.specs.ChildLookup.{data_from}
use Rattle.bind_lookup.proofs.child_walk.data_from.Given as goal

abbrev pub invariant-loop : goal.invariant-loop
invariant-loop l = data_from l.i (headers l.content) (data_of l.content) ≡ data_from (l.i - l.counter) l.headers l.blocks

-- `metadata::entry_walk::entries_ok` meets its contract. The loop's invariant: the answer is that for the entries left.
use mathlib.Core.Path.{◌≡◌}
use Prim.Native.Nat.{◌-◌}
use Rattle.metadata.specs.MetadataCheck.{entries_ok}
use Rattle.metadata.proofs.entry_walk.entries_ok.Given as goal

abbrev pub invariant-loop : goal.invariant-loop
invariant-loop l = entries_ok l.n l.all.headers.now l.all.data.now ≡ entries_ok (l.n - l.counter) l.entries.headers.now l.entries.data.now

-- `metadata::entry_walk::search` meets its contract. The loop's invariant: the data left are no longer than the section, and the answer is that for
-- the entries left.
use Prim.Native.Nat.{◌≤◌, ◌-◌}
use mathlib.Core.Path.{◌≡◌}
use lib.ListN.{length}
use Rattle.metadata.specs.ValueLookup.{place_in, searched}
use Rattle.metadata.proofs.entry_walk.search.Given as goal

abbrev pub invariant-loop : goal.invariant-loop
invariant-loop l =
    (length l.entries.data.now ≤ length l.section)
    × (searched l.section l.key ≡ place_in (length l.section) (l.end - l.counter) l.entries.headers.now l.entries.data.now l.key)

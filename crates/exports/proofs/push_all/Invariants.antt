-- `exports::push_all` meets its contract. The loop's invariant: the pushes that are left make of the feed and the buffer what all of them
-- make of those at the start.
use Prim.Native.Nat.{◌≤◌}
use mathlib.Core.Path.{◌≡◌}
use lib.ListN.{length}
use Rattle.feed.specs.Feed.{push_answered}
use Rattle.exports.specs.Exports.{fed_by}
use Rattle.exports.proofs.push_all.Given as goal

abbrev pub invariant-loop-length : goal.invariant-loop-length
invariant-loop-length l =
    (length l.buffer ≡ length l.initial.buffer)
    × (l.total ≤ length l.stream)
    × (l.length-iterator.size ≡ 4)
    × (fed_by l.lengths l.stream (record { last = push_answered l.initial.feed l.initial.last; total = l.initial.total }) l.initial.buffer
    ≡ fed_by l.length-iterator.rest.now l.stream (record { last = push_answered l.feed l.last; total = l.total }) l.buffer)

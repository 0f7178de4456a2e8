-- `feed_streams::push_whole` is safe and ends. The measure is the number of bytes that are left: a push has taken some of them each time.
use Rattle.std.proofs.Common.{◌≡◌, length}
use Rattle.feed_streams.proofs.push_whole.Given as goal

abbrev pub invariant-loop-taken : goal.invariant-loop-taken
invariant-loop-taken g l = length l.buffer ≡ length l.initial.buffer

abbrev pub decreases-loop-taken : goal.decreases-loop-taken
decreases-loop-taken g l = length l.left

-- `vector_messages::streams::print_steps_in` is safe and ends. The loop's invariant: the step does not lead past the stream's end. The
-- measure is the number of bytes that are left.
use Rattle.std.proofs.Common.{◌+◌, ◌-◌, ◌≤◌, length}
use Rattle.vector_messages.proofs.streams.print_steps_in.Given as goal

abbrev pub invariant-loop-step : goal.invariant-loop-step
invariant-loop-step g l = l.at + l.step ≤ length l.stream

abbrev pub decreases-loop-step : goal.decreases-loop-step
decreases-loop-step g l = length l.initial.stream - l.at

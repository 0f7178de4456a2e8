-- `panel_scripts::print_calls` is safe: no more tiles are counted than calls.
use Rattle.std.proofs.Common.{◌≤◌}
use Rattle.panel_scripts.proofs.print_calls.Given as goal

abbrev pub invariant-loop-place : goal.invariant-loop-place
invariant-loop-place g l = l.tiles ≤ l.place-counter

-- `vectors::cursors::print_walk` is safe and ends. The loop's invariant: a cursor with a child left is not refused. The measure is the number
-- of children that are left.
use Rattle.std.proofs.Common.{◌≡◌, ◌<◌}
use Rattle.vectors.proofs.cursors.print_walk.Given as goal

abbrev pub invariant-loop-cursor : goal.invariant-loop-cursor
invariant-loop-cursor g l = 0 < l.cursor.left → l.cursor.number ≡ 0

abbrev pub decreases-loop-cursor : goal.decreases-loop-cursor
decreases-loop-cursor g l = l.cursor.left

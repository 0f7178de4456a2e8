-- `replay::run` meets its contract: the loop keeps the panel that the calls left give, and shortens what is left.
use mathlib.Core.Path.{◌≡◌}
use lib.ListN.{length}
use Rattle.panel.specs.Demand3.{panel_after}
use Rattle.panel.specs.Calls.{panel_of}
use Rattle.replay.specs.Script.{calls_in}
use Rattle.replay.proofs.Laws.Replay.{ran_on}
use Rattle.replay.proofs.run.Given as goal

abbrev pub invariant-loop-left : goal.invariant-loop-left
invariant-loop-left l = panel_after (calls_in l.script) ≡ ran_on (panel_of l.panel) l.left

abbrev pub decreases-loop-left : goal.decreases-loop-left
decreases-loop-left l = length l.left

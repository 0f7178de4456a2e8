-- `replay::answer_at` meets its contract: the loop keeps the answer among the calls left, and shortens what is left; then `Demand3`.
use mathlib.Core.Path.{◌≡◌}
use lib.ListN.{length}
use Rattle.panel.specs.Calls.{panel_of}
use Rattle.replay.specs.Script.{calls_in}
use Rattle.replay.specs.Replay.{answer_among, answer_at}
use Rattle.replay.proofs.answer_at.Given as goal

abbrev pub invariant-loop-left : goal.invariant-loop-left
invariant-loop-left l = answer_at l.script l.place ≡ answer_among l.before (panel_of l.panel) (calls_in l.left)

abbrev pub decreases-loop-left : goal.decreases-loop-left
decreases-loop-left l = length l.left

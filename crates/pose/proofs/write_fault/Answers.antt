-- `pose::write_fault` meets its contract: check 8, then check 20.
use mathlib.Core.Path.{sym}
use native.Mathlib.Omega.{arith}
use Rattle.pose.proofs.Laws.{count-few}
use Rattle.pose.proofs.write_fault.Goals as goal

pub overflow_mul-n : goal.overflow_mul-n
overflow_mul-n c = omega (arith, count-few c.args.n (sym c.in_ok-count_fault.ensures))

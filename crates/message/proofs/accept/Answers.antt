-- `message::accept` meets its contract: the places lie within the body, so that they fit once 58 is added.
use native.Mathlib.Omega.{arith}
use Rattle.message.proofs.accept.Goals as goal

pub overflow_add-result-2 : goal.overflow_add-result-2
overflow_add-result-2 c = omega (arith, c.requires.0, c.requires.1.further)

pub overflow_add-result-3 : goal.overflow_add-result-3
overflow_add-result-3 c = omega (arith, c.requires.0, c.requires.1.content)

pub overflow_add-result-4 : goal.overflow_add-result-4
overflow_add-result-4 c = omega (arith, c.requires.0, c.requires.1.metadata)

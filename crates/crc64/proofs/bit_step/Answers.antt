-- `crc64::bit_step` meets its contract: the law of each of the test's two cases.
use mathlib.Core.Path.{sym}
use Rattle.crc64.proofs.Laws.{step_same, step_other}
use Rattle.crc64.proofs.bit_step.Goals as goal

pub returns-then-register-bit : goal.returns-then-register-bit
returns-then-register-bit c = sym (step_same c.args.register c.args.bit c.if-register-bit.true)

pub returns-else-register-bit : goal.returns-else-register-bit
returns-else-register-bit c = sym (step_other c.args.register c.args.bit c.if-register-bit.false)

-- `crc64::byte_step` meets its contract. The loop's invariant: the register has taken the first `i` bits of the byte.
use mathlib.Core.Path.{◌≡◌}
use lib.ListN.{take}
use Rattle.crc64.specs.Crc.{run, bits_of}
use Rattle.crc64.proofs.byte_step.Given as goal

abbrev pub invariant-loop-i : goal.invariant-loop-i
invariant-loop-i l = l.register ≡ run l.start (take l.i (bits_of l.byte))

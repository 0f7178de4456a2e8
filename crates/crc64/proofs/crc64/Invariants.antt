-- `crc64::crc64` meets its contract. The loop's invariant: the register is the CRC of the bytes so far.
use mathlib.Core.Path.{◌≡◌}
use lib.ListN.{take}
use Rattle.crc64.specs.Crc.{crc_of}
use Rattle.crc64.proofs.crc64.Given as goal

abbrev pub invariant-loop-byte : goal.invariant-loop-byte
invariant-loop-byte l = l.register ≡ crc_of (take l.byte-index l.bytes)

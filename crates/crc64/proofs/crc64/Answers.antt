use mathlib.Core.Path.{refl}
use Rattle.crc64.specs.Crc.{run, bits, crc_of}
use Rattle.crc64.proofs.Laws.{crc-take-suc}
use Rattle.crc64.proofs.crc64.Goals as goal

pub loop-byte-init : goal.loop-byte-init
unfolding run bits crc_of
loop-byte-init c = refl

pub loop-byte-preserved : goal.loop-byte-preserved
loop-byte-preserved c = let more = crc-take-suc _ c.loop-byte.byte-index c.loop-byte-test.true in cc

-- `fields::number::be` meets its contract. The loop's invariant: `v` is the number of the bytes before the index, below 256 to the power of the index.
use Prim.Native.Nat.{◌≤◌, ◌<◌, ◌^◌}
use mathlib.Core.Path.{◌≡◌}
use lib.ListN.{length, take}
use Rattle.fields.specs.Numbers.{be_val}
use Rattle.fields.proofs.number.be.Given as goal

abbrev pub invariant-loop-b : goal.invariant-loop-b
invariant-loop-b l = (l.v ≡ be_val (take l.b-index l.t)) × (l.v < 256 ^ l.b-index) × (length l.t ≤ 8)

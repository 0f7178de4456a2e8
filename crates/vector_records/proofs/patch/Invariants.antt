-- `vector_records::patch` meets its contract. The loop's invariant: what is left of the patches makes of the buffer what all of
-- them made of it.
use Rattle.std.proofs.Common.{◌≡◌, length}
use Rattle.vector_records.specs.Records.{patched}
use Rattle.vector_records.proofs.patch.Given as goal

abbrev pub invariant-loop-patch : goal.invariant-loop-patch
invariant-loop-patch l =
    (l.patch-iterator.size ≡ 6)
    × (length l.out ≡ length l.fn.out)
    × (patched l.patches l.fn.out ≡ patched l.patch-iterator.rest.now l.out)

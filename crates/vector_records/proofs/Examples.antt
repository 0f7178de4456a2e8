-- The examples, by computation.
use mathlib.Core.Path.{refl}
use Rattle.fields.specs.Numbers.{be_val}
use Rattle.vector_records.specs.Records.{patched_by}
use Rattle.vector_records.specs.Examples.{Examples}

pub examples : Examples
unfolding be_val patched_by
examples = record { field = refl; after = refl; whole = refl; cut_short = refl; wide = refl; patches = refl }

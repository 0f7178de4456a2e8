-- The writer of a transform into a buffer: 20 is its only refusal.
use Rattle.std.specs.Prelude.{ℕ, List}
use Rattle.fields.specs.Writers.{written_by, out_by, WriterPromise}
use Rattle.fields.specs.Answer.{Written}
use Rattle.pose.specs.declared.Transform.{Transform}
use Rattle.pose.specs.Transform.{transform_bytes}

-- its answer for a buffer of this length
abbrev pub transform_written : Transform → ℕ → Written
transform_written t room = written_by 0 (transform_bytes t) room

-- the buffer that it leaves
abbrev pub transform_out : Transform → List ℕ → List ℕ
transform_out t out = out_by 0 (transform_bytes t) out

-- what it promises of its answer and of the buffer left
abbrev pub TransformPromise : Transform → List ℕ → Written → List ℕ → Type 0
TransformPromise t out answer left = WriterPromise 0 (transform_bytes t) out answer left

-- The writer of words into a buffer: check 8, then 20.
use Rattle.std.specs.Prelude.{ℕ, List, length}
use Rattle.fields.specs.Writers.{written_by, out_by, WriterPromise}
use Rattle.fields.specs.Answer.{Written}
use Rattle.pose.specs.Words.{word_bytes}
use Rattle.pose.specs.PositionReader.{count_fault}

-- its answer for a buffer of this length
abbrev pub position_written : List ℕ → ℕ → Written
position_written ws room = written_by (count_fault (length ws)) (word_bytes ws) room

-- the buffer that it leaves
abbrev pub position_out : List ℕ → List ℕ → List ℕ
position_out ws out = out_by (count_fault (length ws)) (word_bytes ws) out

-- what it promises of its answer and of the buffer left
abbrev pub PositionPromise : List ℕ → List ℕ → Written → List ℕ → Type 0
PositionPromise ws out answer left = WriterPromise (count_fault (length ws)) (word_bytes ws) out answer left

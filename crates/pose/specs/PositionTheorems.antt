-- What is proved of POSITION.
use Rattle.std.specs.Prelude.{ℕ, ◌*◌, ◌-◌, ◌≤◌, ◌≡◌, List, ◌++◌, length, take, drop, replicate}
use Rattle.fields.specs.Bytes.{Bytes}
use Rattle.fields.specs.Formats.{TwoWay}
use Rattle.fields.specs.Answer.{Written, Wrote, written_number}
use Rattle.fields.specs.Writers.{writer_fault}
use Rattle.pose.specs.Words.{word_bytes}
use Rattle.pose.specs.Position.{WellPosition}
use Rattle.pose.specs.PositionReader.{position_fault, position_of, position_words}
use Rattle.pose.specs.PositionWriter.{position_written, position_out, PositionPromise}

pub record PositionTheorems : Type 0 where
  -- bytes are accepted exactly when they are those of some well formed words, and of only one such list; else they are 8
  pub two_way : TwoWay WellPosition word_bytes position_fault (λ n. n ≡ 8)
  -- the reader's answer carries the check's number, for any bytes
  pub answered : (c : List ℕ) → (position_of c).number ≡ position_fault c
  -- the reader hands out those words, and zeros past them
  pub read : (ws : List ℕ) → WellPosition ws → position_words (position_of (word_bytes ws)) ≡ ws
  pub handed : (c : List ℕ) → Bytes c → position_fault c ≡ 0 → word_bytes (position_words (position_of c)) ≡ c
  pub zeros : (c : List ℕ) → drop (position_of c).count (position_of c).words ≡ replicate (7 - (position_of c).count) 0
  -- a refused content hands out no words
  pub no_words : (c : List ℕ) → (position_fault c ≡ 0 → ⊥)
      → position_of c ≡ record { number = position_fault c; count = 0; words = replicate 7 0 }
  -- the writer, given what was read and room for it, writes the same bytes and keeps those beyond
  pub written_back : (c out : List ℕ) → Bytes c → position_fault c ≡ 0 → length c ≤ length out
      → (position_written (position_words (position_of c)) (length out) ≡ Wrote (length c))
      × (position_out (position_words (position_of c)) out ≡ c ++ drop (length c) out)
  -- what the writer writes is accepted, and read as what was given
  pub read_back : (ws out : List ℕ) → WellPosition ws → 4 * length ws ≤ length out
      → (position_fault (take (4 * length ws) (position_out ws out)) ≡ 0)
      × (position_words (position_of (take (4 * length ws) (position_out ws out))) ≡ ws)
  -- the writer's number is the reader's for the bytes that it would write, then 20
  pub number : (ws : List ℕ) (room : ℕ)
      → written_number (position_written ws room) ≡ writer_fault (position_fault (word_bytes ws)) (word_bytes ws) room
  -- what is promised of the writer is this answer and this buffer
  pub promised : (ws out left : List ℕ) (answer : Written) → PositionPromise ws out answer left
      → (answer ≡ position_written ws (length out)) × (left ≡ position_out ws out)
  -- a refusal leaves the buffer as it was
  pub untouched : (ws out : List ℕ) → (written_number (position_written ws (length out)) ≡ 0 → ⊥) → position_out ws out ≡ out

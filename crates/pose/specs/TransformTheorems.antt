-- What is proved of TRANSFORM.
use Rattle.std.specs.Prelude.{ℕ, ◌≤◌, ◌≡◌, List, ◌++◌, length, take, drop}
use Rattle.fields.specs.Bytes.{Bytes}
use Rattle.fields.specs.Formats.{TwoWay}
use Rattle.fields.specs.Answer.{Written, Wrote, written_number}
use Rattle.fields.specs.Writers.{writer_fault}
use Rattle.pose.specs.declared.Transform.{Transform}
use Rattle.pose.specs.Words.{Words, word_bytes}
use Rattle.pose.specs.Transform.{WellTransform, transform_words, transform_bytes}
use Rattle.pose.specs.TransformReader.{transform_fault, no_transform, transform_of}
use Rattle.pose.specs.TransformWriter.{transform_written, transform_out, TransformPromise}

-- a transform as the code holds one: three words in each column
pub record ThreeWords (column : List ℕ) : Type 0 where
  pub count : length column ≡ 3
  pub words : Words column

pub record Columns (t : Transform) : Type 0 where
  pub column1 : ThreeWords t.column1
  pub column2 : ThreeWords t.column2
  pub column3 : ThreeWords t.column3
  pub translation : ThreeWords t.translation

pub record TransformTheorems : Type 0 where
  -- bytes are accepted exactly when they are those of some well formed words, and of only one such list; else they are 8
  pub two_way : TwoWay WellTransform word_bytes transform_fault (λ n. n ≡ 8)
  -- the reader's answer carries the check's number, for any bytes
  pub answered : (c : List ℕ) → (transform_of c).number ≡ transform_fault c
  -- the reader hands out those words
  pub read : (ws : List ℕ) → WellTransform ws → transform_words (transform_of (word_bytes ws)).transform ≡ ws
  pub handed : (c : List ℕ) → Bytes c → transform_fault c ≡ 0 → transform_bytes (transform_of c).transform ≡ c
  -- a refused content hands out no words
  pub no_words : (c : List ℕ) → (transform_fault c ≡ 0 → ⊥) → transform_of c ≡ record { number = transform_fault c; transform = no_transform }
  -- the writer has 48 bytes to write
  pub width : (t : Transform) → Columns t → length (transform_bytes t) ≡ 48
  -- given what was read and room for it, it writes the same bytes and keeps those beyond
  pub written_back : (c out : List ℕ) → Bytes c → transform_fault c ≡ 0 → 48 ≤ length out
      → (transform_written (transform_of c).transform (length out) ≡ Wrote 48) × (transform_out (transform_of c).transform out ≡ c ++ drop 48 out)
  -- what it writes is accepted, and read as what was given
  pub read_back : (t : Transform) (out : List ℕ) → Columns t → 48 ≤ length out
      → transform_of (take 48 (transform_out t out)) ≡ record { number = 0; transform = t }
  -- its number is the reader's for the bytes that it would write, then 20
  pub number : (t : Transform) (room : ℕ) → Columns t
      → written_number (transform_written t room) ≡ writer_fault (transform_fault (transform_bytes t)) (transform_bytes t) room
  -- what is promised of the writer is this answer and this buffer
  pub promised : (t : Transform) (out left : List ℕ) (answer : Written) → TransformPromise t out answer left
      → (answer ≡ transform_written t (length out)) × (left ≡ transform_out t out)
  -- a refusal leaves the buffer as it was
  pub untouched : (t : Transform) (out : List ℕ) → (written_number (transform_written t (length out)) ≡ 0 → ⊥) → transform_out t out ≡ out

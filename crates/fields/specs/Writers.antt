-- A writer of bytes. It has the fault of what it is given, 0 for none, then 20 where the buffer is too short for the bytes (rule 5.8). Where there
-- is no fault it writes the bytes to the front of the buffer. Every writer of the crates above is one of these.
use Rattle.std.specs.Prelude.{ℕ, ◌≤◌, ◌≡◌, cond, List, ◌++◌, eqb, length, take, drop}
use Rattle.fields.specs.Checks.{or_else}
use Rattle.fields.specs.Answer.{Written, Wrote, Refused, written_number, written_count, room_fault}

-- the first fault, for a buffer of this length
abbrev pub writer_fault : ℕ → List ℕ → ℕ → ℕ
writer_fault fault bytes room = or_else fault (room_fault (length bytes) room)

-- how many bytes are written: all, or none with a refusal
unfoldable pub written_count_by : ℕ → List ℕ → ℕ → ℕ
written_count_by fault bytes room = cond (eqb (writer_fault fault bytes room) 0) (length bytes) 0

-- the answer
unfoldable pub written_by : ℕ → List ℕ → ℕ → Written
written_by fault bytes room = cond (eqb (writer_fault fault bytes room) 0) (Wrote (length bytes)) (Refused (writer_fault fault bytes room))

-- the buffer that is left: the bytes and what stood behind them (rule 5.13), or all as it was (rule 1.3)
unfoldable pub out_by : ℕ → List ℕ → List ℕ → List ℕ
out_by fault bytes out = cond (eqb (writer_fault fault bytes (length out)) 0) (bytes ++ drop (length bytes) out) out

-- what a writer promises: its answer, the number and the count of the answer, and the buffer left, for the buffer out that was lent
pub record WriterPromise (fault : ℕ) (bytes out : List ℕ) (answer : Written) (left : List ℕ) : Type 0 where
  pub written : answer ≡ written_by fault bytes (length out)
  pub number : written_number answer ≡ writer_fault fault bytes (length out)
  pub count : written_count answer ≡ written_count_by fault bytes (length out)
  pub buffer : left ≡ out_by fault bytes out

-- ---- what is proved of a writer with this fault and these bytes

pub record WriterTheorems (fault : ℕ) (bytes : List ℕ) : Type 0 where
  -- the number and the count of its answer
  pub number : (room : ℕ) → written_number (written_by fault bytes room) ≡ writer_fault fault bytes room
  pub count : (room : ℕ) → written_count (written_by fault bytes room) ≡ written_count_by fault bytes room
  -- a refusal leaves the buffer as it was
  pub untouched : (out : List ℕ) → (written_number (written_by fault bytes (length out)) ≡ 0 → ⊥) → out_by fault bytes out ≡ out
  -- with no fault and with room it writes all the bytes, and keeps those beyond
  pub wrote : (room : ℕ) → fault ≡ 0 → length bytes ≤ room → written_by fault bytes room ≡ Wrote (length bytes)
  pub buffer : (out : List ℕ) → fault ≡ 0 → length bytes ≤ length out → out_by fault bytes out ≡ bytes ++ drop (length bytes) out
  -- what it says that it wrote is the bytes
  pub front : (out : List ℕ) → written_number (written_by fault bytes (length out)) ≡ 0
      → take (written_count (written_by fault bytes (length out))) (out_by fault bytes out) ≡ bytes
  -- and the bytes beyond are as they were
  pub beyond : (out : List ℕ)
      → drop (written_count (written_by fault bytes (length out))) (out_by fault bytes out) ≡ drop (written_count (written_by fault bytes (length out))) out

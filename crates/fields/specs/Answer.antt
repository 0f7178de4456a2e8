-- The answer of a check, with its mark. The answer of a writer, by its number and its count, and the check of its room.
use Rattle.std.specs.Prelude.{ℕ, Bool, false, Result, Ok, Err, cond, ◌&&◌, eqb, leb}
use Rattle.fields.specs.declared.fault.Fault.{Fault}
use Rattle.fields.specs.Fault.{fault_number}

-- the answer of a check: the number (rule 5.1), 0 for none, and the mark (rule 13.2), which says whether all texts checked are clean
pub record Checked : Type 0 where
  pub number : ℕ
  pub clean : Bool

-- a check hands out the mark, or why it refuses; the mark of a refusal is false (rule 13.3)
abbrev pub checked_of : Result Bool Fault → Checked
checked_of (Ok mark) = record { number = 0; clean = mark }
checked_of (Err f) = record { number = fault_number f; clean = false }

-- the number of a check, and its mark where nothing is refused (rule 13.3)
unfoldable pub checked : ℕ → Bool → Checked
checked n mark = record { number = n; clean = eqb n 0 && mark }

-- the answer of a writer: how many bytes it wrote, or the number of the refusal
pub data Written : Type 0 where
  Wrote : ℕ → Written
  Refused : ℕ → Written

-- as the code gives it
abbrev pub written_of : Result ℕ Fault → Written
written_of (Ok n) = Wrote n
written_of (Err f) = Refused (fault_number f)

-- the number of each answer (rule 5.1)
abbrev pub written_number : Written → ℕ
written_number (Wrote n) = 0
written_number (Refused k) = k

-- how many bytes were written
abbrev pub written_count : Written → ℕ
written_count (Wrote n) = n
written_count (Refused k) = 0

-- check 20: a buffer of this length is too short for n bytes
unfoldable pub room_fault : ℕ → ℕ → ℕ
room_fault n room = cond (leb n room) 0 20

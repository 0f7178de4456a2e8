-- What is proved of the writer of a BIND: what it refuses, what it writes, and that every BIND can be written with it.
use Rattle.std.specs.Prelude.{ℕ, ◌≤◌, ◌≡◌, true, List, ◌++◌, length, take, drop}
use Rattle.fields.specs.Bytes.{Bytes}
use Rattle.fields.specs.Lists.{Each}
use Rattle.fields.specs.Checks.{or_else}
use Rattle.fields.specs.Answer.{Written, Wrote, written_number, written_count, room_fault}
use Rattle.bind_layout.specs.Children.{Child, encode_children, WellBundle}
use Rattle.content.specs.Tree.{Children, bind, encode, child_list, WellFormed, cleaned}
use Rattle.content.specs.ContentCheck.{bind_fault, bind_checked, deepest}
use Rattle.bind_writer.specs.ChildLists.{children, types_of, names_of, contents_of, SameCount, SizesFit}
use Rattle.bind_writer.specs.BindWriter.{lists_ok, written, bind_bytes, bind_written, bind_out, BindPromise}

-- the lists give children that can be written
pub record Writable (ts ns ds : List (List ℕ)) : Type 0 where
  pub count : SameCount ts ns ds
  pub well : WellBundle (children ts ns ds)

-- how many bytes the writer says that it wrote, and what then stands there
abbrev pub count_of : (ts ns ds : List (List ℕ)) → List ℕ → ℕ
count_of ts ns ds out = written_count (bind_written ts ns ds (length out))

abbrev pub bytes_of : (ts ns ds : List (List ℕ)) → List ℕ → List ℕ
bytes_of ts ns ds out = take (count_of ts ns ds out) (bind_out ts ns ds out)

-- what it wrote is the encoding of these children, their contents cleaned (rule 13.6), and the bytes beyond are as they were; the reader
-- accepts what was written and marks it clean, and no other children have these bytes
pub record ReadBack (ts ns ds : List (List ℕ)) (out : List ℕ) : Type 0 where
  pub count : count_of ts ns ds out ≡ length (encode_children (children ts ns ds))
  pub bytes : bytes_of ts ns ds out ≡ bind_bytes ts ns ds
  pub beyond : drop (count_of ts ns ds out) (bind_out ts ns ds out) ≡ drop (count_of ts ns ds out) out
  pub accepted : bind_fault deepest (bytes_of ts ns ds out) ≡ 0
  pub clean : (bind_checked deepest (bytes_of ts ns ds out)).clean ≡ true
  pub only : (cs : List Child) → WellBundle cs → encode_children cs ≡ bytes_of ts ns ds out → cs ≡ written ts ns ds

pub record BindWriterTheorems : Type 0 where
  -- the check of the lists passes exactly where they can be written; else the answer is 10, whatever the contents and the room
  pub passed : (ts ns ds : List (List ℕ)) → SizesFit ds → lists_ok ts ns ds ≡ true → Writable ts ns ds
  pub passes : (ts ns ds : List (List ℕ)) → Writable ts ns ds → lists_ok ts ns ds ≡ true
  pub refused : (ts ns ds : List (List ℕ)) (room : ℕ) → SizesFit ds → (Writable ts ns ds → ⊥) → written_number (bind_written ts ns ds room) ≡ 10
  -- of what can be written, the number is the reader's for the children's bytes with their contents as given, then 20
  pub as_reader : (ts ns ds : List (List ℕ)) (room : ℕ) → Writable ts ns ds
      → written_number (bind_written ts ns ds room)
      ≡ or_else (bind_fault deepest (encode_children (children ts ns ds))) (room_fault (length (encode_children (children ts ns ds))) room)
  -- what is promised of the writer is this answer and this buffer
  pub promised : (ts ns ds : List (List ℕ)) (out left : List ℕ) (answer : Written) → BindPromise ts ns ds out answer left
      → (answer ≡ bind_written ts ns ds (length out)) × (left ≡ bind_out ts ns ds out)
  -- with any number but 0 the buffer is as it was; with 0 it is read back
  pub untouched : (ts ns ds : List (List ℕ)) (out : List ℕ) → (written_number (bind_written ts ns ds (length out)) ≡ 0 → ⊥) → bind_out ts ns ds out ≡ out
  pub read_back : (ts ns ds : List (List ℕ)) (out : List ℕ) → SizesFit ds → Each Bytes ds → written_number (bind_written ts ns ds (length out)) ≡ 0 → ReadBack ts ns ds out
  -- every well formed BIND is written, cleaned, where there is room for it
  pub writes : (cs : Children) (out : List ℕ) → WellFormed (bind cs) deepest → length (encode (bind cs)) ≤ length out
      → (bind_written (types_of (child_list cs)) (names_of (child_list cs)) (contents_of (child_list cs)) (length out) ≡ Wrote (length (encode (bind cs))))
      × (bind_out (types_of (child_list cs)) (names_of (child_list cs)) (contents_of (child_list cs)) out ≡ encode (cleaned (bind cs)) ++ drop (length (encode (bind cs))) out)

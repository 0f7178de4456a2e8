-- Answers as bytes, each number in eight; and a stream pushed in pieces of given lengths.
use Rattle.std.specs.Prelude.{ℕ, zero, suc, ◌+◌, ◌/◌, ◌≡◌, Bool, true, false, not, List, [], ◌∷◌, ◌++◌, eqb, length, replicate, drop}
use Rattle.fields.specs.Bytes.{part}
use Rattle.fields.specs.Numbers.{be_at}
use Rattle.fields.specs.Layout.{join, number_fields}
use Rattle.fields.specs.Answer.{written_number, written_count}
use Rattle.bind_cursor.specs.declared.Cursor.{Cursor}
use Rattle.message.specs.declared.Layout.{Layout}
use Rattle.message.specs.declared.Answer.{Answer}
use Rattle.message.specs.Message.{Parts}
use Rattle.message.specs.MessageWriter.{given, message_written, message_out}
use Rattle.message.specs.MessageReader as message
use Rattle.feed.specs.Feed.{Feed, PushAnswer, Nothing, Read, PushResult, push_answered}
use Rattle.feed.specs.Opening.{OpenAnswer}
use Rattle.feed.specs.Opening as opening
use Rattle.feed.specs.Feed as pushing
use Rattle.feed.specs.Push.{pushed, kept_len, push_of, buffer_of}
use Rattle.feed.specs.declared.Feed as code
use Rattle.exports.specs.declared.Fed as given
use Rattle.replay.specs.Records.{CallAnswer, Accepted, Added, Empty, Green, Grey, Refused, NoCall, Answered}

-- ---- messages

-- the step, and the message's fields
abbrev pub field_numbers : Answer → List ℕ
field_numbers a = a.step ∷ a.version ∷ a.type_len ∷ a.name_len ∷ a.time_stamp ∷ a.id ∷ []

-- the places and lengths of its parts
abbrev pub part_numbers : Answer → List ℕ
part_numbers a = a.further_at ∷ a.further_len ∷ a.content_at ∷ a.content_len ∷ a.metadata_at ∷ a.metadata_len ∷ []

-- a mark as a number
abbrev pub mark_number : Bool → ℕ
mark_number true = 1
mark_number false = 0

-- the number, then those, and the mark
abbrev pub answer_numbers : Answer → List ℕ
answer_numbers a = a.number ∷ (field_numbers a ++ (part_numbers a ++ (mark_number a.clean ∷ [])))

abbrev pub answer_bytes : Answer → List ℕ
answer_bytes a = join (number_fields (replicate 14 8) (answer_numbers a))

-- the message that the writer is given
abbrev pub message_given : ℕ → ℕ → ℕ → List ℕ → List ℕ → List ℕ → List ℕ → List ℕ → Parts
message_given version stamp id t n further content metadata =
    given (record { version = version; time_stamp = stamp; id = id }) t n further content metadata

-- what the writer gives for the message p: the count of bytes and the number of its answer, and the buffer that it leaves
pub record WrittenAs (l : Layout) (p : Parts) (out : List ℕ) (r n : ℕ) (left : List ℕ) : Type 0 where
  pub count : r ≡ written_count (message_written l p (length out))
  pub number : n ≡ written_number (message_written l p (length out))
  pub bytes : left ≡ message_out l p out

-- ---- feeds

-- which answer, and the reader's answer that goes with it; of a refusal only the number
abbrev pub push_code : PushAnswer → ℕ
push_code Nothing = 0
push_code (Read a) = 1
push_code (pushing.Refused n) = 2

abbrev pub push_read : PushAnswer → Answer
push_read Nothing = message.refused 0 0
push_read (Read a) = a
push_read (pushing.Refused n) = message.refused n 0

-- the fourteen numbers, which answer, how many bytes the push took, and how many are kept
abbrev pub pushed_bytes : PushAnswer → ℕ → ℕ → List ℕ
pushed_bytes a taken kept = answer_bytes (push_read a) ++ join (number_fields (replicate 3 8) (push_code a ∷ taken ∷ kept ∷ []))

-- what the last push gave, and how many bytes all of them took
pub record Fed : Type 0 where
  pub last : PushResult
  pub total : ℕ

-- as the code gives it, with the feed that the pushes leave
abbrev pub fed_as : code.Feed → given.Fed → Fed
fed_as f r = record { last = push_answered f r.last; total = r.total }

-- before the first push
abbrev pub started : Feed → Fed
started f = record { last = pushed Nothing f 0; total = 0 }

-- a push that is offered n bytes of the stream s, from the first one that was not taken yet; and the buffer after it
abbrev pub fed_once : ℕ → List ℕ → Fed → List ℕ → Fed × List ℕ
fed_once n s r buf =
    let piece : List ℕ = part n r.total s in
    let p : PushResult = push_of r.last.feed piece buf in
    (record { last = p; total = r.total + p.taken }, buffer_of r.last.feed piece buf)

-- k pushes, each offered as many bytes as the next four bytes of `lengths` say
unfoldable pub fed_for : ℕ → List ℕ → List ℕ → Fed → List ℕ → Fed × List ℕ
fed_for zero lengths s r buf = (r, buf)
fed_for (suc k) lengths s r buf = let x = fed_once (be_at 4 0 lengths) s r buf in fed_for k (drop 4 lengths) s x.0 x.1

-- as many pushes as `lengths` has four bytes
abbrev pub fed_by : List ℕ → List ℕ → Fed → List ℕ → Fed × List ℕ
fed_by lengths s r buf = fed_for (length lengths / 4) lengths s r buf

-- from an opening: how many bytes are taken in all, the buffer afterwards, and what the last push gave as bytes; or the opening's refusal
abbrev pub fed_total : OpenAnswer → List ℕ → List ℕ → List ℕ → ℕ
fed_total (opening.Opened f) lengths s buf = (fed_by lengths s (started f) buf).0.total
fed_total (opening.Refused n) lengths s buf = 0

abbrev pub fed_buffer : OpenAnswer → List ℕ → List ℕ → List ℕ → List ℕ
fed_buffer (opening.Opened f) lengths s buf = (fed_by lengths s (started f) buf).1
fed_buffer (opening.Refused n) lengths s buf = buf

abbrev pub fed_bytes : OpenAnswer → List ℕ → List ℕ → List ℕ → List ℕ
fed_bytes (opening.Opened f) lengths s buf =
    let p : PushResult = (fed_by lengths s (started f) buf).0.last in pushed_bytes p.answer p.taken (kept_len p.feed)
fed_bytes (opening.Refused n) lengths s buf = pushed_bytes (pushing.Refused n) 0 0

-- ---- scripts

-- which answer
abbrev pub answer_code : CallAnswer → ℕ
answer_code Accepted = 0
answer_code (Added i) = 1
answer_code Empty = 2
answer_code (Green a) = 3
answer_code (Grey a) = 4
answer_code (Refused n) = 5
answer_code NoCall = 6

-- the number that goes with it: a tile's, an age, or that of a refusal (rule 5.1)
abbrev pub carried_number : CallAnswer → ℕ
carried_number Accepted = 0
carried_number (Added i) = i
carried_number Empty = 0
carried_number (Green a) = a
carried_number (Grey a) = a
carried_number (Refused n) = n
carried_number NoCall = 0

-- which answer, its number, and the length of its value; then the value
abbrev pub answered_fields : Answered → List (List ℕ)
answered_fields r = number_fields (replicate 3 8) (answer_code r.answer ∷ carried_number r.answer ∷ r.value.len ∷ []) ++ (r.value.bytes ∷ [])

abbrev pub answered_bytes : Answered → List ℕ
answered_bytes r = join (answered_fields r)

-- ---- walks

-- the nine numbers of a cursor with this number for its mark, and their bytes
abbrev pub cursor_numbers : Cursor → ℕ → List ℕ
cursor_numbers x mark =
    x.number ∷ x.left ∷ x.type_at ∷ x.type_len ∷ x.name_at ∷ x.name_len ∷ x.at ∷ x.len ∷ mark ∷ []

abbrev pub cursor_bytes : Cursor → List ℕ
cursor_bytes x = join (number_fields (replicate 9 8) (cursor_numbers x (mark_number x.clean)))

-- the cursor of such bytes, and of any others: the number and the mark by their last byte
abbrev pub cursor_at : List ℕ → Cursor
cursor_at s =
    record {
      number = be_at 1 7 s;
      left = be_at 8 8 s;
      type_at = be_at 8 16 s;
      type_len = be_at 8 24 s;
      name_at = be_at 8 32 s;
      name_len = be_at 8 40 s;
      at = be_at 8 48 s;
      len = be_at 8 56 s;
      clean = not (eqb (be_at 1 71 s) 0);
    }

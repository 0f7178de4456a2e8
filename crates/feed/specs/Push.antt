-- What an opening and a push give back, and what a push leaves in the buffer: for any feed, fragment and buffer.
use Rattle.std.specs.Prelude.{ℕ, ◌-◌, Bool, true, false, cond, ◌&&◌, List, ◌++◌, eqb, leb, ltb, length, take}
use Rattle.std.proofs.lemmas.List.Edits.{sets}
use Rattle.fields.specs.Answer.{room_fault}
use Rattle.header.specs.Header.{header_size}
use Rattle.header.specs.HeaderReader.{header_fault}
use Rattle.message.specs.declared.Layout.{Layout}
use Rattle.message.specs.MessageReader.{read_of, refused}
use Rattle.feed.specs.Reading.{end_of}
use Rattle.feed.specs.Feed.{Feed, PushAnswer, Nothing, Read, Refused, PushResult}
use Rattle.feed.specs.Opening.{OpenAnswer}
use Rattle.feed.specs.Opening as opening

-- ---- feeds

abbrev pub state_of : Layout → ℕ → ℕ → ℕ → ℕ → Bool → Feed
state_of l room kept step left stopped = record { layout = l; room = room; kept = kept; step = step; left = left; stopped = stopped }

-- one that reads in this layout and keeps so many bytes at the front of a buffer of so many
abbrev pub keeping : Layout → ℕ → ℕ → Feed
keeping l room kept = state_of l room kept 0 0 false

-- one that passes over a message of step bytes, of which so many are left
abbrev pub passing : Layout → ℕ → ℕ → ℕ → Feed
passing l room step left = state_of l room 0 step left false

-- one that has answered 2 or 3 (rule 12.9)
abbrev pub stopped_feed : Layout → ℕ → Feed
stopped_feed l room = state_of l room 0 0 0 true

-- in this layout, over a buffer of so many bytes; 20 for fewer than 58 (rule 12.2)
unfoldable pub open_of : Layout → ℕ → OpenAnswer
open_of l room =
    cond (eqb (room_fault header_size room) 0) (opening.Opened (keeping l room 0)) (opening.Refused (room_fault header_size room))

-- ---- a push

abbrev pub pushed : PushAnswer → Feed → ℕ → PushResult
pushed a f n = record { feed = f; answer = a; taken = n }

-- 21, then 20 for a buffer of another length, or of fewer bytes than 58 (rule 12.2)
unfoldable pub push_fault : Feed → ℕ → ℕ
push_fault f room = cond f.stopped 21 (cond (eqb room f.room) (room_fault header_size room) 20)

-- how many bytes are kept, and which: those at the buffer's front (rule 12.8)
abbrev pub kept_len : Feed → ℕ
kept_len f = f.kept

abbrev pub kept_in : Feed → List ℕ → List ℕ
kept_in f buf = take (kept_len f) buf

-- a fragment of n bytes, where a message of step bytes is passed over and so many are left (rule 12.7)
unfoldable pub passed_of : Layout → ℕ → ℕ → ℕ → ℕ → PushResult
passed_of l room step left n =
    cond (ltb n left) (pushed Nothing (passing l room step (left - n)) n) (pushed (Read (refused 20 step)) (keeping l room 0) left)

-- u is what was kept, k bytes, and then the fragment, n bytes. The message at its front, of e bytes, fits the buffer: it is not whole, or it is read
unfoldable pub fitting_of : Layout → ℕ → ℕ → ℕ → List ℕ → ℕ → PushResult
fitting_of l room k n u e =
    cond (ltb (length u) e) (pushed Nothing (keeping l room (length u)) n) (pushed (Read (read_of l (take e u))) (keeping l room 0) (e - k))

-- the same u: its header is not whole, or it is refused, or its message fits the buffer, or it exceeds it (12.3, 12.4)
unfoldable pub taken_in : Layout → ℕ → ℕ → ℕ → List ℕ → PushResult
taken_in l room k n u =
    cond (ltb (length u) header_size) (pushed Nothing (keeping l room (length u)) n)
    (cond (eqb (header_fault u) 0)
    (cond (leb (end_of u) room) (fitting_of l room k n u (end_of u)) (passed_of l room (end_of u) (end_of u - k) n))
    (pushed (Read (refused (header_fault u) 0)) (stopped_feed l room) (header_size - k)))

unfoldable pub push_of : Feed → List ℕ → List ℕ → PushResult
push_of f s buf =
    cond (eqb (push_fault f (length buf)) 0)
    (cond (eqb f.left 0) (taken_in f.layout (length buf) (length (kept_in f buf)) (length s) (kept_in f buf ++ s)) (passed_of f.layout (length buf) f.step f.left (length s)))
    (pushed (Refused (push_fault f (length buf))) f 0)

-- ---- the buffer

-- up to which of its bytes the message at the front of u goes to the buffer: to the header's end, or to its own where it fits (12.5, 12.7)
unfoldable pub stored_to : ℕ → List ℕ → ℕ
stored_to room u = cond (eqb (header_fault u) 0 && leb (end_of u) room) (end_of u) header_size

-- the fragment s behind the bytes kept, up to this byte of the message
abbrev pub stored_in : Feed → List ℕ → List ℕ → ℕ → List ℕ
stored_in f s buf to = sets buf (length (kept_in f buf)) (take (to - length (kept_in f buf)) s)

unfoldable pub buffer_of : Feed → List ℕ → List ℕ → List ℕ
buffer_of f s buf =
    cond (eqb (push_fault f (length buf)) 0 && eqb f.left 0) (stored_in f s buf (stored_to (length buf) (kept_in f buf ++ s))) buf

-- What is proved of feeds that are opened in a layout: however a stream is cut into fragments, the answers and the bytes kept are those of
-- reading it from its front in that layout; what a push takes, what it writes, and when it is refused.
use Rattle.std.specs.Prelude.{ℕ, ◌+◌, ◌≤◌, ◌<◌, ◌≡◌, true, false, List, [], ◌++◌, map, eqb, length, take, get_or}
use Rattle.fields.specs.Lists.{Each, flat}
use Rattle.header.specs.HeaderReader.{header_fault}
use Rattle.message.specs.declared.Layout.{Layout}
use Rattle.message.specs.declared.Answer.{Answer}
use Rattle.message.specs.Message.{WellFormed, Message, encode}
use Rattle.message.specs.MessageReader.{read_of, refused}
use Rattle.feed.specs.Feed.{Feed, Nothing, Read, Refused}
use Rattle.feed.specs.Opening as opening
use Rattle.feed.specs.Push.{open_of, kept_len, kept_in, push_of, buffer_of, pushed}
use Rattle.feed.specs.Reading.{end_of, reading_of}
use Rattle.feed.specs.Runs.{after, opened, run, read_by}

-- of an opening, and of a run of pushes from it (rules 12.2, 12.3, 12.6 to 12.9)
pub record Cuts (l : Layout) : Type 0 where
  pub too_short : (buf : List ℕ) → length buf < 58 → open_of l (length buf) ≡ opening.Refused 20
  pub opens : (buf : List ℕ) → 58 ≤ length buf → open_of l (length buf) ≡ opening.Opened (opened l buf).feed
  -- the answers, the bytes kept and whether the feed has stopped are those of reading the bytes taken
  pub joined : (buf : List ℕ) (ss : List (List ℕ)) → 58 ≤ length buf → read_by (run l buf ss) ≡ reading_of l (length buf) (run l buf ss).taken
  pub counted : (buf : List ℕ) (ss : List (List ℕ)) → 58 ≤ length buf → kept_len (run l buf ss).feed ≡ length (read_by (run l buf ss)).kept
  -- the buffer's length, and the length that the feed asks for, stay those of the opening
  pub same_room : (buf : List ℕ) (ss : List (List ℕ)) → 58 ≤ length buf
      → (length (run l buf ss).buffer ≡ length buf) × ((run l buf ss).feed.room ≡ length buf)
  -- so does the layout that the feed reads in (rule 12.11)
  pub same_layout : (buf : List ℕ) (ss : List (List ℕ)) → 58 ≤ length buf → (run l buf ss).feed.layout ≡ l
  -- a push takes something of a fragment that is not empty, as long as no answer was 2 or 3
  pub progress : (buf : List ℕ) (ss : List (List ℕ)) (s : List ℕ) → 58 ≤ length buf → (run l buf ss).feed.stopped ≡ false → 0 < length s
      → 0 < (push_of (run l buf ss).feed s (run l buf ss).buffer).taken
  -- two runs that took the same bytes
  pub any_cut : (a b : List ℕ) (ss ts : List (List ℕ)) → 58 ≤ length a → length a ≡ length b → (run l a ss).taken ≡ (run l b ts).taken
      → read_by (run l a ss) ≡ read_by (run l b ts)

-- messages that fit the buffer, sent one after the other: when their bytes have been taken, each was answered as it is by itself, which is
-- accepted (`Demand2`, begun), and nothing is kept
abbrev pub Sent : Layout → Type 0
Sent l =
    (buf : List ℕ) (ss : List (List ℕ)) (ms : List Message) → 58 ≤ length buf → Each (λ m. WellFormed l m × (length (encode l m) ≤ length buf)) ms
    → (run l buf ss).taken ≡ flat (encode l) ms
    → read_by (run l buf ss) ≡ record { answers = map (λ m. read_of l (encode l m)) ms; kept = []; stopped = false }

-- a push of a run gave the answer a, and left this feed and this buffer. Where a's step is not above the buffer's length, a is the reader's
-- answer to the buffer. Otherwise it is 20 with the length of a message that exceeds the buffer; its header is at the buffer's front and
-- passes checks 2 and 3. A step of 0 stops the feed, and no other does. Nothing is kept (rules 12.6 to 12.9)
pub record Answers (l : Layout) (f : Feed) (buf : List ℕ) (a : Answer) : Type 0 where
  pub fits : a.step ≤ length buf → read_of l buf ≡ a
  pub exceeds : length buf < a.step → (header_fault buf ≡ 0) × (a ≡ refused 20 (end_of buf))
  pub stops : f.stopped ≡ eqb a.step 0
  pub none_kept : kept_len f ≡ 0

-- what a push takes, for every feed and buffer: at most the fragment; all of it where there is no answer; and an answer comes with the last
-- byte taken, since fewer give none (rule 12.3)
pub record Takes (f : Feed) (s buf : List ℕ) : Type 0 where
  pub most : (push_of f s buf).taken ≤ length s
  pub all : (push_of f s buf).answer ≡ Nothing → (push_of f s buf).taken ≡ length s
  pub no_sooner : (n : ℕ) → n < (push_of f s buf).taken → (push_of f (take n s) buf).answer ≡ Nothing

-- what it writes: only bytes that it takes, behind those kept; none past the header of a message that exceeds the buffer; none of one that
-- is passed over. A header that is whole lies at the buffer's front, and so does a message, unless the answer is 20. Any other
-- answer is the reader's answer to the buffer in the feed's layout (rules 12.5, 12.7 and 12.10)
pub record Writes (f : Feed) (s buf : List ℕ) : Type 0 where
  pub same_length : length (buffer_of f s buf) ≡ length buf
  pub before : (i : ℕ) → i < length (kept_in f buf) → get_or (buffer_of f s buf) i 0 ≡ get_or buf i 0
  pub beyond : (i : ℕ) → length (kept_in f buf) + (push_of f s buf).taken ≤ i → get_or (buffer_of f s buf) i 0 ≡ get_or buf i 0
  pub exceeding : (i : ℕ) → length buf < end_of (kept_in f buf ++ s) → 58 ≤ i → get_or (buffer_of f s buf) i 0 ≡ get_or buf i 0
  pub passed_over : 0 < f.left → buffer_of f s buf ≡ buf
  pub header : f.stopped ≡ false → length buf ≡ f.room → 58 ≤ length buf → f.left ≡ 0 → 58 ≤ length (kept_in f buf ++ s)
      → take 58 (buffer_of f s buf) ≡ take 58 (kept_in f buf ++ s)
  pub message : (a : Answer) → (push_of f s buf).answer ≡ Read a → (a.number ≡ 20 → ⊥)
      → take a.step (buffer_of f s buf) ≡ take a.step (kept_in f buf ++ s)
  pub in_front : (a : Answer) → (push_of f s buf).answer ≡ Read a → (a.number ≡ 20 → ⊥) → read_of f.layout (buffer_of f s buf) ≡ a

-- when it is refused; and then it changes nothing and takes nothing (rules 1.3 and 12.2)
pub record Refuses (f : Feed) (s buf : List ℕ) : Type 0 where
  pub stopped_first : f.stopped ≡ true → (push_of f s buf).answer ≡ Refused 21
  pub other_length : f.stopped ≡ false → (length buf ≡ f.room → ⊥) → (push_of f s buf).answer ≡ Refused 20
  pub no_other : f.stopped ≡ false → length buf ≡ f.room → 58 ≤ length buf → (n : ℕ) → (push_of f s buf).answer ≡ Refused n → ⊥
  pub untouched : (n : ℕ) → (push_of f s buf).answer ≡ Refused n → (push_of f s buf ≡ pushed (Refused n) f 0) × (buffer_of f s buf ≡ buf)

pub record FeedTheorems (l : Layout) : Type 0 where
  pub cuts : Cuts l
  pub sent : Sent l
  pub answers : (buf : List ℕ) (ss : List (List ℕ)) (s : List ℕ) (a : Answer) → 58 ≤ length buf
      → (push_of (run l buf ss).feed s (run l buf ss).buffer).answer ≡ Read a → Answers l (after (run l buf ss) s).feed (after (run l buf ss) s).buffer a
  pub takes : (f : Feed) (s buf : List ℕ) → Takes f s buf
  pub writes : (f : Feed) (s buf : List ℕ) → Writes f s buf
  pub refuses : (f : Feed) (s buf : List ℕ) → Refuses f s buf

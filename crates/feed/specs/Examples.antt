-- Runs of pushes with a few messages whose bytes are known. They fix the numbers, the steps, what is taken, what is kept and what is written,
-- and the layout that is read in.
use Rattle.std.specs.Prelude.{ℕ, ◌-◌, ◌≤◌, ◌≡◌, Bool, true, false, List, [], ◌∷◌, ◌++◌, map, length, take, drop, replicate}
use Rattle.fields.specs.Lists.{Each, flat}
use Rattle.message.specs.declared.Layout.{Layout}
use Rattle.message.specs.declared.Layout.TheVariants.{New, Old}
use Rattle.message.specs.declared.Answer.{Answer}
use Rattle.message.specs.MessageReader.{refused}
use Rattle.message.specs.Message.{WellFormed, encode}
use Rattle.message.specs.Samples.{arm_message, arm_bytes, arm_answer, answer_of1, probe_bytes, probe_answer}
use Rattle.message.specs.ReceivedSamples.{unclean, tracker_bytes}
use Rattle.feed.specs.Feed.{Feed, Read, Refused}
use Rattle.feed.specs.Opening as opening
use Rattle.feed.specs.Push.{open_of, pushed, kept_len, push_of, buffer_of}
use Rattle.feed.specs.Runs.{Run, run}

-- a header of version 3 with these last four bytes of BODY_SIZE, and the CRC 0: its message is answered 4, unless it exceeds the buffer
abbrev pub header : List ℕ → List ℕ
header size = 0 ∷ 3 ∷ (drop 2 (take 46 arm_bytes) ++ (size ++ replicate 8 0))

-- messages of 58 bytes and of 59; the front of one of 158
abbrev pub no_body : List ℕ
no_body = header (0 ∷ 0 ∷ 0 ∷ 0 ∷ [])

abbrev pub one_byte : List ℕ
one_byte = header (0 ∷ 0 ∷ 0 ∷ 1 ∷ []) ++ (1 ∷ [])

abbrev pub long : List ℕ
long = header (0 ∷ 0 ∷ 0 ∷ 100 ∷ [])

-- the byte 0x80 at the front of TYPE, without a body and with one
abbrev pub broken : List ℕ
broken = 0 ∷ 3 ∷ 0x80 ∷ drop 3 no_body

abbrev pub broken_long : List ℕ
broken_long = 0 ∷ 3 ∷ 0x80 ∷ drop 3 long

-- a message that is accepted, without its last byte; and with another one
abbrev pub cut_short : List ℕ
cut_short = take (length arm_bytes - 1) arm_bytes

abbrev pub damaged : List ℕ
damaged = cut_short ++ (0 ∷ [])

-- a message whose TYPE and DEVICE_NAME are not clean
abbrev pub uncleared : List ℕ
uncleared = tracker_bytes (0 ∷ 0xFF ∷ 0x80 ∷ []) (0 ∷ replicate 16 0x99)

-- a buffer before the first push
abbrev pub filled : ℕ → List ℕ
filled n = replicate n 0xee

-- a feed: its layout, the length of its buffer, the bytes kept; of a message that is passed over the length and the bytes left; has it stopped?
abbrev pub state : Layout → ℕ → ℕ → ℕ → ℕ → Bool → Feed
state l room kept step left stopped = record { layout = l; room = room; kept = kept; step = step; left = left; stopped = stopped }

-- the answers of a run, its feed, the bytes taken and the buffer
pub record Said (r : Run) (xs : List Answer) (f : Feed) (s buf : List ℕ) : Type 0 where
  pub answers : r.answers ≡ xs
  pub feed : r.feed ≡ f
  pub taken : r.taken ≡ s
  pub buffer : r.buffer ≡ buf

-- a message in two fragments, cut within the twelve bytes of its extended header, and once more in one
abbrev pub sent_twice : List ℕ → List (List ℕ)
sent_twice s = take 64 s ∷ drop 64 s ∷ s ∷ []

-- in either layout
pub record Common (l : Layout) : Type 0 where
  pub too_short : open_of l 57 ≡ opening.Refused 20
  pub opens : open_of l 58 ≡ opening.Opened (state l 58 0 0 0 false)
  -- a fragment that ends before a message does, and one that goes on past its end
  pub part : Said (run l (filled 58) (take 57 no_body ∷ [])) [] (state l 58 57 0 0 false) (take 57 no_body) (take 57 no_body ++ (0xee ∷ []))
  pub whole : Said (run l (filled 58) (take 57 no_body ∷ (drop 57 no_body ++ one_byte) ∷ [])) (refused 4 58 ∷ []) (state l 58 0 0 0 false) no_body no_body
  -- an empty fragment, at a message's front and within it
  pub empty : Said (run l (filled 60) ([] ∷ take 30 no_body ∷ [] ∷ [])) [] (state l 60 30 0 0 false) (take 30 no_body) (take 30 no_body ++ filled 30)
  -- three messages, byte by byte
  pub bytes : Said (run l (filled 59) (map (λ b. b ∷ []) (no_body ++ (one_byte ++ no_body)))) (refused 4 58 ∷ refused 4 59 ∷ refused 4 58 ∷ []) (state l 59 0 0 0 false)
      (no_body ++ (one_byte ++ no_body)) (no_body ++ (1 ∷ []))
  -- 59 bytes exceed a buffer of 58; one of 59 is enough, and what is beyond them stays
  pub exceeds : Said (run l (filled 58) (one_byte ∷ [])) (refused 20 59 ∷ []) (state l 58 0 0 0 false) one_byte (take 58 one_byte)
  pub exact : Said (run l (filled 59) (one_byte ∷ [])) (refused 4 59 ∷ []) (state l 59 0 0 0 false) one_byte one_byte
  pub fits : Said (run l (filled 64) (no_body ∷ one_byte ∷ [])) (refused 4 58 ∷ refused 4 59 ∷ []) (state l 64 0 0 0 false) (no_body ++ one_byte) (one_byte ++ filled 5)
  -- a body that is passed over: its header and a part of it, then 9 bytes, none, and the last
  pub passes : Said (run l (filled 60) ((long ++ replicate 90 5) ∷ replicate 9 6 ∷ [] ∷ [])) [] (state l 60 0 158 1 false) (long ++ (replicate 90 5 ++ replicate 9 6))
      (long ++ filled 2)
  pub passed : Said (run l (filled 60) ((long ++ replicate 90 5) ∷ replicate 9 6 ∷ [] ∷ (7 ∷ 8 ∷ []) ∷ [])) (refused 20 158 ∷ []) (state l 60 0 0 0 false)
      (long ++ (replicate 90 5 ++ (replicate 9 6 ++ (7 ∷ [])))) (long ++ filled 2)
  -- a body that begins like a header, in a fragment that ends with the body; then two messages of version 1, the first with a wrong CRC
  pub unread : Said (run l (filled 60) (long ∷ (no_body ++ replicate 42 5) ∷ [])) (refused 20 158 ∷ []) (state l 60 0 0 0 false) (long ++ (no_body ++ replicate 42 5))
      (long ++ filled 2)
  pub crc_unread : Said (run l (filled 60) (damaged ∷ arm_bytes ∷ [])) (refused 20 106 ∷ refused 20 106 ∷ []) (state l 60 0 0 0 false) (damaged ++ arm_bytes)
      (take 58 arm_bytes ++ filled 2)
  -- the largest body is passed over, to its last byte; a larger one, like a wrong text, stops the feed, and no byte behind such a header is taken
  pub largest : Said (run l (filled 58) (header (1 ∷ 0 ∷ 0 ∷ 0 ∷ []) ∷ [])) [] (state l 58 0 16777274 16777216 false) (header (1 ∷ 0 ∷ 0 ∷ 0 ∷ [])) (header (1 ∷ 0 ∷ 0 ∷ 0 ∷ []))
  pub largest_ends : push_of (state l 58 0 16777274 1 false) (7 ∷ 8 ∷ []) (filled 58) ≡ pushed (Read (refused 20 16777274)) (state l 58 0 0 0 false) 1
  pub too_long : Said (run l (filled 58) ((header (1 ∷ 0 ∷ 0 ∷ 1 ∷ []) ++ replicate 10 5) ∷ [])) (refused 3 0 ∷ []) (state l 58 0 0 0 true) (header (1 ∷ 0 ∷ 0 ∷ 1 ∷ []))
      (header (1 ∷ 0 ∷ 0 ∷ 1 ∷ []))
  pub stops : Said (run l (filled 60) ((broken ++ replicate 10 5) ∷ no_body ∷ [])) (refused 2 0 ∷ []) (state l 60 0 0 0 true) broken (broken ++ filled 2)
  -- check 2 comes before the length of the buffer
  pub stops_long : Said (run l (filled 60) ((broken_long ++ replicate 10 5) ∷ [])) (refused 2 0 ∷ []) (state l 60 0 0 0 true) broken_long (broken_long ++ filled 2)
  -- a message that is refused, and one that is accepted and comes in three fragments
  pub accepts : Said (run l (filled 108) (damaged ∷ take 57 arm_bytes ∷ take 48 (drop 57 arm_bytes) ∷ (drop 105 arm_bytes ++ (7 ∷ [])) ∷ []))
      (refused 5 106 ∷ arm_answer ∷ []) (state l 108 0 0 0 false) (damaged ++ arm_bytes) (arm_bytes ++ filled 2)
  -- one that is not clean, cut within the rest of TYPE and within that of DEVICE_NAME (rule 13.2); it is kept as it was received
  pub not_clean : Said (run l (filled 108) (take 13 uncleared ∷ take 12 (drop 13 uncleared) ∷ drop 25 uncleared ∷ []))
      (unclean (answer_of1 9 3 0 48) ∷ []) (state l 108 0 0 0 false) uncleared (uncleared ++ filled 2)
  -- two messages in one fragment after the other: what `FeedTheorems` (sent) asks for is there
  pub sent : Each (λ m. WellFormed l m × (length (encode l m) ≤ 108)) (arm_message ∷ arm_message ∷ [])
  pub sent_taken : (run l (filled 108) (arm_bytes ∷ arm_bytes ∷ [])).taken ≡ flat (encode l) (arm_message ∷ arm_message ∷ [])
  -- 21 before 20 for another length; a length under 58, of a feed that no opening gives
  pub stopped : push_of (state l 58 0 0 0 true) no_body (filled 10) ≡ pushed (Refused 21) (state l 58 0 0 0 true) 0
  pub longer : push_of (state l 58 7 0 0 false) no_body (filled 59) ≡ pushed (Refused 20) (state l 58 7 0 0 false) 0
  pub shorter : push_of (state l 59 0 158 1 false) no_body (filled 58) ≡ pushed (Refused 20) (state l 59 0 158 1 false) 0
  pub under_58 : push_of (state l 57 0 0 0 false) no_body (filled 57) ≡ pushed (Refused 20) (state l 57 0 0 0 false) 0
  pub unwritten : buffer_of (state l 58 7 0 0 false) no_body (filled 59) ≡ filled 59
  pub kept-len : kept_len (state l 60 7 158 1 false) ≡ 7

-- a message of V 2 with the bytes s, sent twice to a feed that is opened in the layout l, is answered a each time
abbrev pub Twice : Layout → List ℕ → Answer → Type 0
Twice l s a = Said (run l (filled 88) (sent_twice s)) (a ∷ a ∷ []) (state l 88 0 0 0 false) (s ++ s) s

pub record Examples : Type 0 where
  pub common : (l : Layout) → Common l
  -- in the layout that it is written in, and in the other (rule 12.11)
  pub new_as_new : Twice New (probe_bytes New) probe_answer
  pub new_as_old : Twice Old (probe_bytes New) (refused 6 88)
  pub old_as_old : Twice Old (probe_bytes Old) probe_answer
  pub old_as_new : Twice New (probe_bytes Old) (refused 6 88)

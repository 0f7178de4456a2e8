-- Reading a stream from its front, message after message, in a layout and with a buffer of so many bytes (rules 12.6 to 12.9). No feed and no
-- push is mentioned.
use Rattle.std.specs.Prelude.{ℕ, zero, suc, ◌+◌, Bool, true, false, cond, ◌&&◌, List, [], ◌∷◌, ◌++◌, eqb, leb, ltb, length, drop}
use Rattle.header.specs.Header.{header_size}
use Rattle.header.specs.HeaderReader.{header_of, header_fault}
use Rattle.message.specs.declared.Layout.{Layout}
use Rattle.message.specs.declared.Answer.{Answer}
use Rattle.message.specs.MessageReader.{read_of, refused}

pub record Reading : Type 0 where
  pub answers : List Answer
  -- the bytes kept: of a message that is not whole
  pub kept : List ℕ
  -- an answer was 2 or 3, and it was the last
  pub stopped : Bool

-- how many bytes the message at the front of s has, by its header
abbrev pub end_of : List ℕ → ℕ
end_of s = header_size + (header_of s).body_size

-- the reader's answer, but 20 for a message that exceeds the buffer (rule 12.7)
abbrev pub answer_for : ℕ → Answer → Answer
answer_for room a = cond (leb a.step room) a (refused 20 a.step)

-- a message that is not whole is kept, unless it exceeds the buffer
abbrev pub tail_kept : ℕ → List ℕ → List ℕ
tail_kept room s = cond (eqb (header_fault s) 0 && ltb room (end_of s)) [] s

-- r, with these answers before its own
abbrev pub behind : List Answer → Reading → Reading
behind xs r = record { answers = xs ++ r.answers; kept = r.kept; stopped = r.stopped }

-- at most n messages: the next one begins at the step. Where the step is 0, a message that is not whole (1) has no answer yet, and nothing
-- follows 2 or 3
unfoldable pub reading_within : Layout → ℕ → ℕ → List ℕ → Reading
reading_within l room zero s = record { answers = []; kept = s; stopped = false }
reading_within l room (suc n) s =
    cond (eqb (read_of l s).step 0)
    (cond (eqb (read_of l s).number 1) (record { answers = []; kept = tail_kept room s; stopped = false }) (record { answers = read_of l s ∷ []; kept = []; stopped = true }))
    (behind (answer_for room (read_of l s) ∷ []) (reading_within l room n (drop (read_of l s).step s)))

-- a message has at least 58 bytes, so there are no more messages than bytes
abbrev pub reading_of : Layout → ℕ → List ℕ → Reading
reading_of l room s = reading_within l room (suc (length s)) s

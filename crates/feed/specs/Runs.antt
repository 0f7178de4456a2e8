-- A run of pushes: each gets the feed and the buffer that the last one left. What a push does not take of its fragment is not pushed again, unless
-- a later fragment has it.
use Rattle.std.specs.Prelude.{ℕ, List, [], ◌∷◌, ◌++◌, length, take}
use Rattle.message.specs.declared.Layout.{Layout}
use Rattle.message.specs.declared.Answer.{Answer}
use Rattle.feed.specs.Feed.{Feed, PushAnswer, Nothing, Read, Refused}
use Rattle.feed.specs.Reading.{Reading}
use Rattle.feed.specs.Push.{keeping, kept_in, push_of, buffer_of}

pub record Run : Type 0 where
  pub feed : Feed
  pub buffer : List ℕ
  pub answers : List Answer
  -- the bytes taken, joined
  pub taken : List ℕ

abbrev pub answered : PushAnswer → List Answer
answered Nothing = []
answered (Read a) = a ∷ []
answered (Refused n) = []

abbrev pub after : Run → List ℕ → Run
after r s =
    record {
      feed = (push_of r.feed s r.buffer).feed;
      buffer = buffer_of r.feed s r.buffer;
      answers = r.answers ++ answered (push_of r.feed s r.buffer).answer;
      taken = r.taken ++ take (push_of r.feed s r.buffer).taken s;
    }

unfoldable pub run_on : Run → List (List ℕ) → Run
run_on r [] = r
run_on r (s ∷ ss) = run_on (after r s) ss

-- before the first push, in this layout and over this buffer
abbrev pub opened : Layout → List ℕ → Run
opened l buf = record { feed = keeping l (length buf) 0; buffer = buf; answers = []; taken = [] }

-- from an opening in this layout over this buffer, with these fragments
abbrev pub run : Layout → List ℕ → List (List ℕ) → Run
run l buf ss = run_on (opened l buf) ss

-- what was read by a run
abbrev pub read_by : Run → Reading
read_by r = record { answers = r.answers; kept = kept_in r.feed r.buffer; stopped = r.feed.stopped }

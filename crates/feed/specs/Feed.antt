-- A feed, and what a push gives.
use Rattle.std.specs.Prelude.{ℕ, Bool, true, false, Option, Some, None, Result, Ok, Err}
use Rattle.std.specs.NonZero.{non_zero_usize_get}
use Rattle.fields.specs.declared.fault.Fault.{Fault}
use Rattle.fields.specs.Fault.{fault_number}
use Rattle.message.specs.declared.Layout.{Layout}
use Rattle.message.specs.declared.Answer.{Answer}
use Rattle.feed.specs.declared.Feed as code
use Rattle.feed.specs.declared.State.{State}
use Rattle.feed.specs.declared.State.TheVariants.{Keeping, Passing, Stopped}
use Rattle.feed.specs.declared.Pushed.{Pushed}

-- The layout that messages are read in, the length of the buffer, and how many bytes of an unfinished message stand at its front. Of a message
-- that exceeds the buffer and is passed over: its length, and how many of its bytes are left; otherwise both are 0. And whether an answer was 2
-- or 3
pub record Feed : Type 0 where
  pub layout : Layout
  pub room : ℕ
  pub kept : ℕ
  pub step : ℕ
  pub left : ℕ
  pub stopped : Bool

-- of a push: no answer yet, or the answer to a message or to a header that is refused, or the push itself is refused
pub data PushAnswer : Type 0 where
  Nothing : PushAnswer
  Read : Answer → PushAnswer
  Refused : ℕ → PushAnswer

-- the feed for the next push, the answer, and how many bytes of the fragment were taken
pub record PushResult : Type 0 where
  pub feed : Feed
  pub answer : PushAnswer
  pub taken : ℕ

-- ---- as the code gives them

abbrev pub kept_in_state : State → ℕ
kept_in_state (Keeping kept) = kept
kept_in_state (Passing step left) = 0
kept_in_state Stopped = 0

abbrev pub step_in_state : State → ℕ
step_in_state (Keeping kept) = 0
step_in_state (Passing step left) = step
step_in_state Stopped = 0

abbrev pub left_in_state : State → ℕ
left_in_state (Keeping kept) = 0
left_in_state (Passing step left) = non_zero_usize_get left
left_in_state Stopped = 0

abbrev pub is_stopped : State → Bool
is_stopped (Keeping kept) = false
is_stopped (Passing step left) = false
is_stopped Stopped = true

abbrev pub feed_of : code.Feed → Feed
feed_of f =
    record {
      layout = f.layout;
      room = f.room;
      kept = kept_in_state f.state;
      step = step_in_state f.state;
      left = left_in_state f.state;
      stopped = is_stopped f.state;
    }

abbrev pub read_as : Option Answer → PushAnswer
read_as None = Nothing
read_as (Some a) = Read a

-- a push that is not refused, with the feed that it leaves
abbrev pub pushed_as : code.Feed → Pushed → PushResult
pushed_as f p = record { feed = feed_of f; answer = read_as p.read; taken = p.taken }

-- any push: its answer, how many bytes of the fragment were taken, and both with the feed that it leaves
abbrev pub answer_of : Result Pushed Fault → PushAnswer
answer_of (Ok p) = read_as p.read
answer_of (Err e) = Refused (fault_number e)

abbrev pub taken_of : Result Pushed Fault → ℕ
taken_of (Ok p) = p.taken
taken_of (Err e) = 0

abbrev pub push_answered : code.Feed → Result Pushed Fault → PushResult
push_answered f r = record { feed = feed_of f; answer = answer_of r; taken = taken_of r }

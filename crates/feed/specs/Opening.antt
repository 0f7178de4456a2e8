-- The answer to an opening: a feed, or the number of the refusal (rule 5.1).
use Rattle.std.specs.Prelude.{ℕ, Result, Ok, Err}
use Rattle.fields.specs.declared.fault.Fault.{Fault}
use Rattle.fields.specs.Fault.{fault_number}
use Rattle.feed.specs.declared.Feed as code
use Rattle.feed.specs.Feed.{Feed, feed_of}

pub data OpenAnswer : Type 0 where
  Opened : Feed → OpenAnswer
  Refused : ℕ → OpenAnswer

-- as the code gives it
abbrev pub opened_as : Result code.Feed Fault → OpenAnswer
opened_as (Ok f) = Opened (feed_of f)
opened_as (Err e) = Refused (fault_number e)

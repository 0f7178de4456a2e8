-- The check of a POSITION, and what its reader hands out.
use Rattle.std.specs.Prelude.{ℕ, ◌/◌, ◌%◌, Bool, Result, Ok, Err, cond, ◌||◌, List, [], ◌∷◌, eqb, length, take, replicate}
use Rattle.fields.specs.Numbers.{be_at}
use Rattle.fields.specs.declared.fault.Fault.{Fault}
use Rattle.fields.specs.Fault.{fault_number}
use Rattle.pose.specs.declared.Position.{Position}
use Rattle.pose.specs.Words.{word_size}
use Rattle.pose.specs.Position.{most_words}

-- is it a count that a POSITION may have?
abbrev pub is_count : ℕ → Bool
is_count n = eqb n 3 || (eqb n 6 || eqb n 7)

-- check 8, of a number of words: the writer's
unfoldable pub count_fault : ℕ → ℕ
count_fault n = cond (is_count n) 0 8

-- and of bytes: the reader's. They are whole words
unfoldable pub position_fault : List ℕ → ℕ
position_fault content = cond (eqb (length content % word_size) 0) (count_fault (length content / word_size)) 8

-- the words where they stand. Past the end of the content they are 0
abbrev pub position_at : List ℕ → List ℕ
position_at content =
    be_at 4 0 content
    ∷ be_at 4 4 content
    ∷ be_at 4 8 content
    ∷ be_at 4 12 content
    ∷ be_at 4 16 content
    ∷ be_at 4 20 content
    ∷ be_at 4 24 content
    ∷ []

-- the number (rule 5.1), and 3, 6 or 7 words, with zeros past them
pub record PositionRead : Type 0 where
  pub number : ℕ
  pub count : ℕ
  pub words : List ℕ

-- what is handed out: the words, and how many of them there are
abbrev pub some_position : List ℕ → PositionRead
some_position content = record { number = 0; count = length content / word_size; words = position_at content }

-- with a refusal no words, and zeros in their places
abbrev pub no_position : ℕ → PositionRead
no_position n = record { number = n; count = 0; words = replicate most_words 0 }

-- the code's answer
abbrev pub position_read : Result Position Fault → PositionRead
position_read (Ok p) = record { number = 0; count = p.count; words = p.words }
position_read (Err f) = no_position (fault_number f)

-- the reader's answer
unfoldable pub position_of : List ℕ → PositionRead
position_of content = cond (eqb (position_fault content) 0) (some_position content) (no_position (position_fault content))

-- the words that it hands out: as many as there are, and none filled in
abbrev pub position_words : PositionRead → List ℕ
position_words r = take r.count r.words

-- POSITION (rule 4.3): 3, 6 or 7 words. What a position is, without any check; its bytes are those of its words.
use Rattle.std.specs.Prelude.{ℕ, List, length}
use Rattle.pose.specs.Words.{Words}

-- how many words a POSITION may have
pub data PositionCount : ℕ → Type 0 where
  three : PositionCount 3
  six : PositionCount 6
  seven : PositionCount 7

-- the most of these
abbrev pub most_words : ℕ
most_words = 7

-- the words of a POSITION
pub record WellPosition (ws : List ℕ) : Type 0 where
  pub count : PositionCount (length ws)
  pub words : Words ws

-- TRANSFORM (rule 4.2): the nine words of the rotation, column after column, and the three of the translation. What a transform is and how it
-- is written as bytes, without any check.
use Rattle.std.specs.Prelude.{ℕ, ◌≡◌, List, ◌++◌, length}
use Rattle.pose.specs.declared.Transform.{Transform}
use Rattle.pose.specs.Words.{Words, word_bytes}

-- the bytes of a TRANSFORM
abbrev pub transform_size : ℕ
transform_size = 48

-- the words of a TRANSFORM: twelve
pub record WellTransform (ws : List ℕ) : Type 0 where
  pub count : length ws ≡ 12
  pub words : Words ws

-- the words in the order in which they are written
abbrev pub transform_words : Transform → List ℕ
transform_words t = t.column1 ++ (t.column2 ++ (t.column3 ++ t.translation))

abbrev pub transform_bytes : Transform → List ℕ
transform_bytes t = word_bytes (transform_words t)

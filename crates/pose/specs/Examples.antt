-- Contents given byte by byte, and the words in them: the order of the words is fixed here, the lengths, and what a refusal hands out.
use Rattle.std.specs.Prelude.{ℕ, ◌≡◌, List, [], ◌∷◌, ◌++◌, map, take, replicate}
use Rattle.fields.specs.Answer.{Wrote, Refused}
use Rattle.pose.specs.declared.Transform.{Transform}
use Rattle.pose.specs.TransformReader.{transform_fault, transform_of}
use Rattle.pose.specs.TransformWriter.{transform_written, transform_out}
use Rattle.pose.specs.TransformTheorems.{Columns}
use Rattle.pose.specs.PositionReader.{position_fault, position_of}
use Rattle.pose.specs.PositionWriter.{position_written, position_out}

-- the bytes of the words 1 to 12
abbrev pub twelve_words : List ℕ
twelve_words =
    0 ∷ 0 ∷ 0 ∷ 1 ∷ 0 ∷ 0 ∷ 0 ∷ 2 ∷ 0 ∷ 0 ∷ 0 ∷ 3
    ∷ 0 ∷ 0 ∷ 0 ∷ 4 ∷ 0 ∷ 0 ∷ 0 ∷ 5 ∷ 0 ∷ 0 ∷ 0 ∷ 6
    ∷ 0 ∷ 0 ∷ 0 ∷ 7 ∷ 0 ∷ 0 ∷ 0 ∷ 8 ∷ 0 ∷ 0 ∷ 0 ∷ 9
    ∷ 0 ∷ 0 ∷ 0 ∷ 10 ∷ 0 ∷ 0 ∷ 0 ∷ 11 ∷ 0 ∷ 0 ∷ 0 ∷ 12
    ∷ []

-- the rotation in columns, and the translation
abbrev pub in_columns : Transform
in_columns =
    record { column1 = 1 ∷ 2 ∷ 3 ∷ []; column2 = 4 ∷ 5 ∷ 6 ∷ []; column3 = 7 ∷ 8 ∷ 9 ∷ []; translation = 10 ∷ 11 ∷ 12 ∷ [] }

-- twelve zeros
abbrev pub zeros : Transform
zeros =
    record { column1 = 0 ∷ 0 ∷ 0 ∷ []; column2 = 0 ∷ 0 ∷ 0 ∷ []; column3 = 0 ∷ 0 ∷ 0 ∷ []; translation = 0 ∷ 0 ∷ 0 ∷ [] }

-- minus zero, a NaN, and all bits set
abbrev pub any_bits : List ℕ
any_bits = 0x80 ∷ 0 ∷ 0 ∷ 0 ∷ 0x7F ∷ 0xC0 ∷ 0 ∷ 1 ∷ 0xFF ∷ 0xFF ∷ 0xFF ∷ 0xFF ∷ []

pub record Examples : Type 0 where
  -- a transform of which the statements speak
  pub columns : Columns in_columns
  -- a TRANSFORM: read, written, with one byte less, with one more, with all bits set, into one byte less
  pub read : transform_of twelve_words ≡ record { number = 0; transform = in_columns }
  pub wrote : transform_written in_columns 50 ≡ Wrote 48
  pub written : transform_out in_columns (replicate 50 5) ≡ twelve_words ++ (5 ∷ 5 ∷ [])
  pub short : transform_of (take 47 twelve_words) ≡ record { number = 8; transform = zeros }
  pub long : transform_of (twelve_words ++ (0 ∷ [])) ≡ record { number = 8; transform = zeros }
  pub all_bits : transform_of (replicate 48 255)
      ≡ record {
        number = 0;
        transform =
            record {
              column1 = replicate 3 0xFFFFFFFF;
              column2 = replicate 3 0xFFFFFFFF;
              column3 = replicate 3 0xFFFFFFFF;
              translation = replicate 3 0xFFFFFFFF;
            };
      }
  pub no_room : transform_written in_columns 47 ≡ Refused 20
  -- a POSITION of 12, 24 and 28 bytes, and of 13
  pub position_12 : position_of any_bits ≡ record { number = 0; count = 3; words = 0x80000000 ∷ 0x7FC00001 ∷ 0xFFFFFFFF ∷ 0 ∷ 0 ∷ 0 ∷ 0 ∷ [] }
  pub position_24 : position_of (take 24 twelve_words) ≡ record { number = 0; count = 6; words = 1 ∷ 2 ∷ 3 ∷ 4 ∷ 5 ∷ 6 ∷ 0 ∷ [] }
  pub position_28 : position_of (take 28 twelve_words) ≡ record { number = 0; count = 7; words = 1 ∷ 2 ∷ 3 ∷ 4 ∷ 5 ∷ 6 ∷ 7 ∷ [] }
  pub position_13 : position_of (take 13 twelve_words) ≡ record { number = 8; count = 0; words = replicate 7 0 }
  -- three words written, and four
  pub position-written : position_out (0x80000000 ∷ 0x7FC00001 ∷ 0xFFFFFFFF ∷ []) (replicate 13 5) ≡ any_bits ++ (5 ∷ [])
  pub four_words : position_written (1 ∷ 2 ∷ 3 ∷ 4 ∷ []) 50 ≡ Refused 8
  -- by the length: one float less, one byte less, one byte more
  pub transform_lengths : map (λ n. transform_fault (replicate n 0)) (0 ∷ 44 ∷ 47 ∷ 48 ∷ 49 ∷ []) ≡ 8 ∷ 8 ∷ 8 ∷ 0 ∷ 8 ∷ []
  pub position_lengths : map (λ n. position_fault (replicate n 0)) (0 ∷ 8 ∷ 11 ∷ 12 ∷ 13 ∷ 16 ∷ 20 ∷ 23 ∷ 24 ∷ 25 ∷ 27 ∷ 28 ∷ 29 ∷ 32 ∷ [])
      ≡ 8 ∷ 8 ∷ 8 ∷ 0 ∷ 8 ∷ 8 ∷ 8 ∷ 8 ∷ 0 ∷ 8 ∷ 8 ∷ 0 ∷ 8 ∷ 8 ∷ []
  -- the writer by the number of words, with room; into one byte less than they take; 8 before 20
  pub word_counts : map (λ n. position_written (replicate n 0) 50) (0 ∷ 2 ∷ 3 ∷ 5 ∷ 6 ∷ 7 ∷ 8 ∷ [])
      ≡ Refused 8 ∷ Refused 8 ∷ Wrote 12 ∷ Refused 8 ∷ Wrote 24 ∷ Wrote 28 ∷ Refused 8 ∷ []
  pub position_no_room : map (λ n. position_written (replicate 7 0) n) (27 ∷ 28 ∷ []) ≡ Refused 20 ∷ Wrote 28 ∷ []
  pub eight_first : position_written (1 ∷ 2 ∷ 3 ∷ 4 ∷ []) 0 ≡ Refused 8

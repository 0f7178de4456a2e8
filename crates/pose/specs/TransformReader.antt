-- The check of a TRANSFORM, and what its reader hands out.
use Rattle.std.specs.Prelude.{ℕ, Result, Ok, Err, cond, List, [], ◌∷◌, eqb, length}
use Rattle.fields.specs.Numbers.{be_at}
use Rattle.fields.specs.declared.fault.Fault.{Fault}
use Rattle.fields.specs.Fault.{fault_number}
use Rattle.pose.specs.declared.Transform.{Transform}
use Rattle.pose.specs.Transform.{transform_size}

-- check 8
unfoldable pub transform_fault : List ℕ → ℕ
transform_fault content = cond (eqb (length content) transform_size) 0 8

-- the entries where they stand: column by column, each from its first row to its third, and the translation last
abbrev pub transform_at : List ℕ → Transform
transform_at content =
    record {
      column1 = be_at 4 0 content ∷ be_at 4 4 content ∷ be_at 4 8 content ∷ [];
      column2 = be_at 4 12 content ∷ be_at 4 16 content ∷ be_at 4 20 content ∷ [];
      column3 = be_at 4 24 content ∷ be_at 4 28 content ∷ be_at 4 32 content ∷ [];
      translation = be_at 4 36 content ∷ be_at 4 40 content ∷ be_at 4 44 content ∷ [];
    }

-- what is handed out with a refusal
abbrev pub no_transform : Transform
no_transform =
    record { column1 = 0 ∷ 0 ∷ 0 ∷ []; column2 = 0 ∷ 0 ∷ 0 ∷ []; column3 = 0 ∷ 0 ∷ 0 ∷ []; translation = 0 ∷ 0 ∷ 0 ∷ [] }

-- the number (rule 5.1), and the transform
pub record TransformRead : Type 0 where
  pub number : ℕ
  pub transform : Transform

-- the code's answer
abbrev pub transform_read : Result Transform Fault → TransformRead
transform_read (Ok t) = record { number = 0; transform = t }
transform_read (Err f) = record { number = fault_number f; transform = no_transform }

-- the reader's answer
unfoldable pub transform_of : List ℕ → TransformRead
transform_of content =
    cond (eqb (transform_fault content) 0)
    (record { number = 0; transform = transform_at content })
    (record { number = transform_fault content; transform = no_transform })

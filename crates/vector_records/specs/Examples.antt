-- Records byte by byte: a field and what follows it, one that is cut short, and two patches.
use Rattle.std.specs.Prelude.{◌≡◌, true, false, [], ◌∷◌, replicate}
use Rattle.vector_records.specs.Records.{field_of, after_field, is_whole, patched}

pub record Examples : Type 0 where
  pub field : field_of (0 ∷ 2 ∷ 7 ∷ 8 ∷ 9 ∷ []) ≡ 7 ∷ 8 ∷ []
  pub after : after_field (0 ∷ 2 ∷ 7 ∷ 8 ∷ 9 ∷ []) ≡ 9 ∷ []
  pub whole : is_whole (0 ∷ 2 ∷ 7 ∷ 8 ∷ []) ≡ true
  pub cut_short : is_whole (0 ∷ 2 ∷ 7 ∷ []) ≡ false
  pub wide : is_whole (1 ∷ 0 ∷ replicate 255 0) ≡ false
  -- 07 08 at place 1, then 09 0A at place 2; a patch of five bytes is none
  pub patches : patched (0 ∷ 0 ∷ 0 ∷ 1 ∷ 7 ∷ 8 ∷ 0 ∷ 0 ∷ 0 ∷ 2 ∷ 9 ∷ 10 ∷ 0 ∷ 0 ∷ 0 ∷ 0 ∷ 6 ∷ []) (1 ∷ 2 ∷ 3 ∷ 4 ∷ 5 ∷ [])
      ≡ 1 ∷ 7 ∷ 9 ∷ 10 ∷ 5 ∷ []

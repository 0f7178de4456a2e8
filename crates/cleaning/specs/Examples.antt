-- Contents byte by byte, cleaned: what is zeroed, and what is not.
use Rattle.std.specs.Prelude.{ℕ, ◌≡◌, List, [], ◌∷◌, ◌++◌, replicate}
use Rattle.content.specs.Kinds.{bind_text}
use Rattle.content.specs.Examples.{spelled, within, inner, outer, inner_rest, outer_rest}
use Rattle.cleaning.specs.CleanBytes.{clean_bytes, clean_put}

-- so many levels, of a BIND
abbrev pub clean_at : ℕ → List ℕ → List ℕ
clean_at levels s = clean_bytes levels bind_text s

pub record Examples : Type 0 where
  -- from the first 0 of a CTYPE to the field's end, at both levels, and nothing else; bytes that are clean stay
  pub both : clean_at 4 (outer outer_rest (inner inner_rest)) ≡ outer (replicate 8 0) (inner (replicate 3 0))
  pub one : clean_at 4 (inner (0 ∷ 0 ∷ 1 ∷ [])) ≡ inner (0 ∷ 0 ∷ 0 ∷ [])
  pub full : clean_at 4 (inner (0x58 ∷ 0x59 ∷ 0x5A ∷ [])) ≡ inner (0x58 ∷ 0x59 ∷ 0x5A ∷ [])
  pub clean : clean_at 4 (outer (replicate 8 0) (inner (replicate 3 0))) ≡ outer (replicate 8 0) (inner (replicate 3 0))
  -- as many levels as are said
  pub deepest : clean_at 4 (within (within (within (inner inner_rest)))) ≡ within (within (within (inner (replicate 3 0))))
  pub no_deeper : clean_at 3 (within (within (within (inner inner_rest)))) ≡ within (within (within (inner inner_rest)))
  -- bytes of another type, and bytes that are no BIND, stay
  pub opaque : clean_bytes 4 (spelled "BINDX") (outer outer_rest (inner inner_rest)) ≡ outer outer_rest (inner inner_rest)
  pub no-bind : clean_at 4 (outer outer_rest (inner inner_rest) ++ (0 ∷ [])) ≡ outer outer_rest (inner inner_rest) ++ (0 ∷ [])
  -- written at a place, with the bytes around kept; a buffer that is one byte too short stays
  pub put : clean_put 4 bind_text (inner inner_rest) 1 (replicate 76 9) ≡ 9 ∷ inner (replicate 3 0) ++ (9 ∷ [])
  -- more levels than four are four
  pub most : clean_put 4294967295 bind_text (within (within (within (within (inner inner_rest))))) 0 (replicate 178 9)
      ≡ within (within (within (within (inner inner_rest))))
  pub short : clean_put 4 bind_text (inner inner_rest) 2 (replicate 75 9) ≡ replicate 75 9

-- What is proved of cleaning: the cleaned bytes of a well formed content are the bytes of the content with its rests zeroed, and cleaning keeps
-- the length of any bytes. Where they fit they are written, and the bytes around them stay; where they do not, the buffer stays.
use Rattle.std.specs.Prelude.{ℕ, ◌+◌, ◌≤◌, ◌<◌, ◌≡◌, List, ◌++◌, length, take, drop}
use Rattle.content.specs.Kinds.{bind_text}
use Rattle.content.specs.Tree.{Content, type_text, encode, WellFormed, cleaned}
use Rattle.cleaning.specs.CleanBytes.{clean_bytes, bounded_levels, clean_put}

pub record CleaningTheorems : Type 0 where
  pub cleaned_bytes : (levels : ℕ) (x : Content) → WellFormed x levels → clean_bytes levels (type_text x) (encode x) ≡ encode (cleaned x)
  -- a content of another type than BIND stays as it is
  pub others : (levels : ℕ) (t s : List ℕ) → (t ≡ bind_text → ⊥) → clean_bytes levels t s ≡ s
  pub length_kept : (levels : ℕ) (t s : List ℕ) → length (clean_bytes levels t s) ≡ length s
  pub written : (levels : ℕ) (t s : List ℕ) (at : ℕ) (out : List ℕ) → at + length s ≤ length out
      → clean_put levels t s at out ≡ take at out ++ (clean_bytes (bounded_levels levels) t s ++ drop (at + length s) out)
  pub untouched : (levels : ℕ) (t s : List ℕ) (at : ℕ) (out : List ℕ) → length out < at + length s → clean_put levels t s at out ≡ out

-- The records of the vector program: fields of bytes, each after its length in two bytes.
use Rattle.std.specs.Prelude.{◌≡◌, ℕ, zero, suc, ◌+◌, ◌/◌, Bool, true, false, List, Option, None, Some, leb, length, drop}
use denote.Ref.{Bor}
use Rattle.std.proofs.lemmas.List.Edits.{sets}
use Rattle.fields.specs.Bytes.{part}
use Rattle.fields.specs.Numbers.{be_at}

-- the bytes of the field at the front
abbrev pub field_of : List ℕ → List ℕ
field_of s = part (be_at 2 0 s) 2 s

-- what follows it
abbrev pub after_field : List ℕ → List ℕ
after_field s = drop (2 + be_at 2 0 s) s

-- are all its bytes there?
abbrev pub is_whole : List ℕ → Bool
is_whole s = leb (2 + be_at 2 0 s) (length s)

-- one step of the walk through a run: the field at the front is given and what follows it is left, or none where it is cut short
abbrev pub GivesField : List ℕ → Option (Bor (List ℕ)) → List ℕ → Type 0
GivesField s None left = (is_whole s ≡ false) × (left ≡ s)
GivesField s (Some field) left = (is_whole s ≡ true) × (field.now ≡ field_of s) × (left ≡ after_field s)

-- out after the first k patches: each is a place in four bytes, and the two bytes that are stored there
unfoldable pub patched_by : ℕ → List ℕ → List ℕ → List ℕ
patched_by zero patches out = out
patched_by (suc k) patches out = patched_by k (drop 6 patches) (sets out (be_at 4 0 patches) (part 2 4 patches))

-- out after all whole patches
abbrev pub patched : List ℕ → List ℕ → List ℕ
patched patches out = patched_by (length patches / 6) patches out

-- Layouts: fields of given widths, one after the other, cut from bytes and joined to bytes. A table of fields in a protocol is such a list.
use Rattle.std.specs.Prelude.{ℕ, ◌+◌, ◌^◌, ◌<◌, ◌≡◌, List, [], ◌∷◌, ◌++◌, map, length}
use Rattle.std.proofs.lemmas.List.Edits.{sets}
use Rattle.fields.specs.Bytes.{part}
use Rattle.fields.specs.Numbers.{be_val, be_bytes}

-- the sum of the widths
abbrev pub total : List ℕ → ℕ
total [] = 0
total (w ∷ ws) = w + total ws

-- the fields, one after the other
abbrev pub join : List (List ℕ) → List ℕ
join [] = []
join (x ∷ xs) = x ++ join xs

-- the fields of s from place at on. At numerals it computes: cut 0 (2 ∷ 12 ∷ []) s is part 2 0 s ∷ part 12 2 s ∷ []
abbrev pub cut : ℕ → List ℕ → List ℕ → List (List ℕ)
cut at [] s = []
cut at (w ∷ ws) s = part w at s ∷ cut (at + w) ws s

-- the fields have these widths
abbrev pub Widths : List (List ℕ) → List ℕ → Type 0
Widths [] [] = Unit {0}
Widths [] (w ∷ ws) = ⊥
Widths (x ∷ xs) [] = ⊥
Widths (x ∷ xs) (w ∷ ws) = (length x ≡ w) × Widths xs ws

-- each field stored where the one before it ends. At numerals for widths it computes to the stores themselves
abbrev pub stores : List ℕ → ℕ → List (List ℕ) → List ℕ → List ℕ
stores out at [] ws = out
stores out at (x ∷ xs) [] = out
stores out at (x ∷ xs) (w ∷ ws) = stores (sets out at x) (at + w) xs ws

-- ---- layouts of numbers alone

-- the numbers of these widths from place at on
abbrev pub numbers_at : ℕ → List ℕ → List ℕ → List ℕ
numbers_at at ws s = map be_val (cut at ws s)

-- numbers as fields of these widths
abbrev pub number_fields : List ℕ → List ℕ → List (List ℕ)
number_fields [] vs = []
number_fields (w ∷ ws) [] = []
number_fields (w ∷ ws) (v ∷ vs) = be_bytes w v ∷ number_fields ws vs

-- there are as many numbers as widths, and each fits its own
abbrev pub NumbersFit : List ℕ → List ℕ → Type 0
NumbersFit [] [] = Unit {0}
NumbersFit [] (v ∷ vs) = ⊥
NumbersFit (w ∷ ws) [] = ⊥
NumbersFit (w ∷ ws) (v ∷ vs) = (v < 256 ^ w) × NumbersFit ws vs

-- ---- what is proved of them, for any number of fields of any widths: joined fields are cut into themselves wherever they stand, cut fields
-- join to the bytes that were cut, and the stores of the fields are one store of the joined bytes

pub record LayoutTheorems : Type 0 where
  pub read_back : (before : List ℕ) (fields : List (List ℕ)) (widths after : List ℕ) → Widths fields widths
      → cut (length before) widths (before ++ (join fields ++ after)) ≡ fields
  pub written_back : (at : ℕ) (widths s : List ℕ) → join (cut at widths s) ≡ part (total widths) at s
  pub stored : (out : List ℕ) (at : ℕ) (fields : List (List ℕ)) (widths : List ℕ) → Widths fields widths
      → stores out at fields widths ≡ sets out at (join fields)

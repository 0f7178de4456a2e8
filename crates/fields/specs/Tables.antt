-- Counted tables: a count of two bytes, headers of the same width one after the other, and the data of the items, each as long as its header says.
use Rattle.std.specs.Prelude.{ℕ, zero, suc, Bool, ◌&&◌, List, ◌++◌, length, drop}
use Rattle.fields.specs.Lists.{flat}
use Rattle.fields.specs.Numbers.{be_bytes}

-- the count of the items and their headers, and then the bytes r
abbrev pub counted : {A : Type 0} → (A → List ℕ) → List A → List ℕ → List ℕ
counted header xs r = be_bytes 2 (length xs) ++ (flat header xs ++ r)

-- k items, by what is left of the headers, w bytes each, and of the data: each of them passes the test `ok`, `after` is what is left of the data
-- behind it, and what is left in the end passes the test `end`
abbrev pub items_ok : ℕ → (List ℕ → List ℕ → List ℕ) → (List ℕ → List ℕ → Bool) → (List ℕ → Bool) → ℕ → List ℕ → List ℕ → Bool
items_ok w after ok end zero h d = end d
items_ok w after ok end (suc k) h d = ok h d && items_ok w after ok end k (drop w h) (after h d)

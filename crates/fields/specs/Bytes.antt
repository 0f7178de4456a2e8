-- Bytes in a list: what a byte is, parts of a list, when two lists are equal.
use Rattle.std.specs.Prelude.{ℕ, ◌-◌, ◌<◌, Bool, true, false, ◌&&◌, List, [], ◌∷◌, ◌++◌, eqb, get_or, take, drop, replicate, length}

-- every element is below 256; past its end a list reads as 0
abbrev pub Bytes : List ℕ → Type 0
Bytes s = (i : ℕ) → get_or s i 0 < 256

-- the n elements from place at on, or as many of them as there are
abbrev pub part : ℕ → ℕ → List ℕ → List ℕ
part n at s = take n (drop at s)

-- do the two lists hold the same elements?
unfoldable pub same : List ℕ → List ℕ → Bool
same [] [] = true
same [] (y ∷ ys) = false
same (x ∷ xs) [] = false
same (x ∷ xs) (y ∷ ys) = eqb x y && same xs ys

-- the first w elements, then zeros up to w of them
unfoldable pub sized : ℕ → List ℕ → List ℕ
sized w s = take w s ++ replicate (w - length s) 0

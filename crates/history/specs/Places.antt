-- Numbered places, some of which may be free. What stands at a place has its number. Every place past the end is free.
use Rattle.std.specs.Prelude.{ℕ, suc, Bool, true, false, List, [], ◌∷◌, get_or}
use Rattle.std.proofs.Math.Option.{Option, none, some}

module _ {A : Type 0} where
  -- what has the number i
  abbrev pub place_at : List (Option A) → ℕ → Option A
  place_at ps i = get_or ps i none

  -- is something there, and does it pass the test?
  abbrev pub passes : (A → Bool) → Option A → Bool
  passes p none = false
  passes p (some x) = p x

  abbrev pub is_there : Option A → Bool
  is_there o = passes (λ x. true) o

  -- the smallest free number
  abbrev pub first_free : List (Option A) → ℕ
  first_free [] = 0
  first_free (none ∷ ps) = 0
  first_free (some x ∷ ps) = suc (first_free ps)

  -- the places once x has that number
  abbrev pub filled : A → List (Option A) → List (Option A)
  filled x [] = some x ∷ []
  filled x (none ∷ ps) = some x ∷ ps
  filled x (some y ∷ ps) = some y ∷ filled x ps

  -- how many are not free
  abbrev pub count_of : List (Option A) → ℕ
  count_of [] = 0
  count_of (none ∷ ps) = count_of ps
  count_of (some x ∷ ps) = suc (count_of ps)

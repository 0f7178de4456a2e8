-- `pose::transform_words` meets its contract: three words of each array.
use mathlib.Core.Path.{◌≡◌, ap, ◌∙◌}
use mathlib.Core.List.{List, ◌∷◌, ◌++◌}
use Prim.Native.Nat.{ℕ}
use native.Mathlib.Omega.{arith}
use lib.ListN.{length, get_or}
use Rattle.fields.proofs.Laws.Lists.{three_back}
use Rattle.pose.proofs.transform_words.Goals as goal

pub returns : goal.returns
returns c =
    let t = c.args.transform in
    let e : (xs : List ℕ) → length xs ≡ 3 → (ys zs : List ℕ) → ys ≡ zs → get_or xs 0 0 ∷ get_or xs 1 0 ∷ get_or xs 2 0 ∷ ys ≡ xs ++ zs =
    λ xs l ys zs h. ap (λ (r : List ℕ). r ++ ys) (three_back xs l) ∙ ap (λ (r : List ℕ). xs ++ r) h in
    e t.column1 (omega arith) _ _ (e t.column2 (omega arith) _ _ (e t.column3 (omega arith) _ _ (three_back t.translation (omega arith))))

-- Lists whose elements are all below a bound, by a test that computes.
use Prim.Native.Nat.{ℕ, ◌<◌}
use mathlib.Core.Path.{◌≡◌}
use mathlib.Core.Bool.{true}
use mathlib.Core.List.{List, [], ◌∷◌}
use lib.Dec.{ltb}
use borrow.Author.Tests.{ltb-true}
use Rattle.fields.specs.Bytes.{Bytes}
use Rattle.fields.specs.Lists.{all_of, Each}
use Rattle.fields.proofs.Laws.Bytes.{bytes-nil, bytes-cons}
use Rattle.fields.proofs.Laws.Checks.{and_split}

pub each_below : (n : ℕ) (s : List ℕ) → all_of (λ b. ltb b n) s ≡ true → Each (λ b. b < n) s
unfolding all_of
each_below n [] h = tt
each_below n (b ∷ s) h =
    let k = and_split (ltb b n) (all_of (λ (x : ℕ). ltb x n) s) h in
    (ltb-true b n k.0, each_below n s k.1)

each-bytes : (s : List ℕ) → Each (λ b. b < 256) s → Bytes s
each-bytes [] h = bytes-nil
each-bytes (b ∷ s) h = bytes-cons b s h.0 (each-bytes s h.1)

pub bytes_below : (s : List ℕ) → all_of (λ b. ltb b 256) s ≡ true → Bytes s
bytes_below s h = each-bytes s (each_below 256 s h)

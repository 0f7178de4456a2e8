-- A walk's answer by the number of steps left, as a loop that counts down meets it.
use mathlib.Core.Path.{◌≡◌, ap}
use Prim.Native.Nat.{ℕ, suc, ◌+◌, ◌-◌, ◌≤◌, ◌<◌}
use native.Mathlib.Omega.{arith}

module _ {A : Type 0} (walk : ℕ → A) where
  -- no step is left
  pub walk_end : (k : ℕ) → k ≤ 0 → walk k ≡ walk 0
  walk_end k h = let e : k ≡ 0 = omega arith in ap walk e

  -- one is, or more
  pub walk_step : (k : ℕ) → 0 < k → walk k ≡ walk (suc (k - 1))
  walk_step k h = let e : k ≡ suc (k - 1) = omega arith in ap walk e

-- ---- the same, as a loop that counts up meets it

module _ {A : Type 0} (walk : ℕ → A) (n i : ℕ) where
  -- no step is left
  pub steps_end : n ≤ i → walk (n - i) ≡ walk 0
  steps_end h = let e : n - i ≡ 0 = omega arith in ap walk e

  -- one is, or more
  pub steps_next : i < n → walk (n - i) ≡ walk (suc (n - (i + 1)))
  steps_next h = let e : n - i ≡ suc (n - (i + 1)) = omega arith in ap walk e

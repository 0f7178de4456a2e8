-- Tests whose outcome is kept, and choices by them.
use Prim.Native.Nat.{ℕ, zero, suc}
use mathlib.Core.Path.{◌≡◌, refl, sym, ap, ◌∙◌}
use mathlib.Core.Bool.{Bool, true, false, cond, false≢true}
use native.Mathlib.Omega.{arith}

-- to keep the outcome of a test in each of its two cases
pub by-test {ℓ} : {C : Type ℓ} (t : Bool) → (t ≡ true → C) → (t ≡ false → C) → C
by-test true f g = f refl
by-test false f g = g refl

-- to keep whether a number is 0
pub by_zero {ℓ} : {C : Type ℓ} (n : ℕ) → (n ≡ 0 → C) → ((n ≡ 0 → ⊥) → C) → C
by_zero zero f g = f refl
by_zero (suc n) f g = g (λ e. omega arith)

-- a test that cannot be true
pub is_false : (t : Bool) → (t ≡ true → ⊥) → t ≡ false
is_false true h = absurd (h refl)
is_false false h = refl

pub true-false {ℓ} : {C : Type ℓ} (t : Bool) → t ≡ true → t ≡ false → C
true-false t e h = absurd (false≢true (sym h ∙ e))

-- a property of both outcomes
pub cond_cases {ℓ κ} : {A : Type ℓ} (P : A → Type κ) (t : Bool) (x y : A) → (t ≡ true → P x) → (t ≡ false → P y) → P (cond t x y)
cond_cases P true x y f g = f refl
cond_cases P false x y f g = g refl

-- a choice whose test is known
pub cond_yes : {A : Type 0} (t : Bool) (x y : A) → t ≡ true → cond t x y ≡ x
cond_yes t x y h = ap (λ (b : Bool). cond b x y) h

pub cond_no : {A : Type 0} (t : Bool) (x y : A) → t ≡ false → cond t x y ≡ y
cond_no t x y h = ap (λ (b : Bool). cond b x y) h

-- Checks in order: what a check that passed tells, and which fault is given.
use Prim.Native.Nat.{ℕ, zero, suc}
use mathlib.Core.Path.{◌≡◌, refl, ap, ◌∙◌}
use mathlib.Core.Logic.{◌⊎◌, inl, inr, ◌↔◌}
use mathlib.Core.Bool.{Bool, true, false, cond, ◌&&◌, ◌||◌, false≢true}
use native.Mathlib.Omega.{arith}
use Rattle.fields.specs.Checks.{or_else}

pub zero-else : (a b : ℕ) → or_else a b ≡ 0 → (a ≡ 0) × (b ≡ 0)
zero-else zero b h = (refl, h)
zero-else (suc a) b h = absurd (let z : ◌≡◌ {A = ℕ} (suc a) 0 = h in omega arith)

pub else-zero : (a b : ℕ) → a ≡ 0 → b ≡ 0 → or_else a b ≡ 0
else-zero a b h k = ap (λ (x : ℕ). or_else x b) h ∙ k

pub else-first : (a b : ℕ) → (a ≡ 0 → ⊥) → or_else a b ≡ a
else-first zero b h = absurd (h refl)
else-first (suc a) b h = refl

-- the same with the first fault's number
pub else-fault : (a b k : ℕ) → a ≡ suc k → or_else a b ≡ suc k
else-fault a b k e = ap (λ (x : ℕ). or_else x b) e

pub else-second : (a b : ℕ) → a ≡ 0 → or_else a b ≡ b
else-second a b h = ap (λ (x : ℕ). or_else x b) h

-- three checks
pub else-else : (a b c : ℕ) → or_else (or_else a b) c ≡ or_else a (or_else b c)
else-else zero b c = refl
else-else (suc a) b c = refl

-- two checks with the same first
pub else_same : (a x y : ℕ) → (a ≡ 0 → x ≡ y) → or_else a x ≡ or_else a y
else_same zero x y h = h refl
else_same (suc a) x y h = refl

-- a test whose truth is a fault
pub cond-fault : (t : Bool) (k n : ℕ) → cond t (suc k) n ≡ 0 → (t ≡ false) × (n ≡ 0)
cond-fault true k n h = absurd (let z : ◌≡◌ {A = ℕ} (suc k) 0 = h in omega arith)
cond-fault false k n h = (refl, h)

-- a test whose failure is a fault
pub cond-pass : (t : Bool) (k n : ℕ) → cond t n (suc k) ≡ 0 → (t ≡ true) × (n ≡ 0)
cond-pass true k n h = (refl, h)
cond-pass false k n h = absurd (let z : ◌≡◌ {A = ℕ} (suc k) 0 = h in omega arith)

-- a check that does not pass gives its number
pub cond-refused : (t : Bool) (n : ℕ) → (cond t 0 n ≡ 0 → ⊥) → cond t 0 n ≡ n
cond-refused true n h = absurd (h refl)
cond-refused false n h = refl

pub cond-faulty : (t : Bool) (n : ℕ) → (cond t n 0 ≡ 0 → ⊥) → cond t n 0 ≡ n
cond-faulty true n h = refl
cond-faulty false n h = absurd (h refl)

pub and_split : (a b : Bool) → (a && b) ≡ true → (a ≡ true) × (b ≡ true)
and_split true b h = (refl, h)
and_split false b h = absurd (false≢true h)

pub and-join : (a b : Bool) → a ≡ true → b ≡ true → (a && b) ≡ true
and-join a b h k = ap (λ (x : Bool). x && b) h ∙ k

-- both hold exactly when what they say does
pub and_both : {A B : Type 0} (a b : Bool) → (a ≡ true) ↔ A → (b ≡ true) ↔ B → ((a && b) ≡ true) ↔ (A × B)
and_both a b f g = ((λ e. let k = and_split a b e in (f.0 k.0, g.0 k.1)), (λ p. and-join a b (f.1 p.0) (g.1 p.1)))

pub or_split : (a b : Bool) → (a || b) ≡ true → (a ≡ true) ⊎ (b ≡ true)
or_split true b h = inl refl
or_split false b h = inr h

pub and_assoc : (a b c : Bool) → ((a && b) && c) ≡ (a && (b && c))
and_assoc true b c = refl
and_assoc false b c = refl

pub and-true : (a : Bool) → (a && true) ≡ a
and-true true = refl
and-true false = refl

pub and-false : (a : Bool) → (a && false) ≡ false
and-false true = refl
and-false false = refl

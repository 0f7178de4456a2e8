-- A format of bytes: which values are well formed, the bytes that each is written as, and the number of the first fault of any bytes.
use Rattle.std.specs.Prelude.{ℕ, ◌≡◌, List}
use Rattle.fields.specs.Bytes.{Bytes}

-- some well formed value is written as these bytes
abbrev pub IsWritten : {A : Type 0} → (A → Type 0) → (A → List ℕ) → List ℕ → Type 0
IsWritten {A} Well encode s = (x : A) × Well x × (encode x ≡ s)

-- ---- what is proved of a format: bytes are accepted exactly when some well formed value is written as them, and only one is. The others are
-- refused, with a number of which Refusal holds

pub record TwoWay {A : Type 0} (Well : A → Type 0) (encode : A → List ℕ) (fault : List ℕ → ℕ) (Refusal : ℕ → Type 0) : Type 0 where
  pub accepted : (s : List ℕ) → Bytes s → fault s ≡ 0 → IsWritten Well encode s
  pub well_accepted : (x : A) → Well x → fault (encode x) ≡ 0
  pub only_one : (x y : A) → Well x → Well y → encode x ≡ encode y → x ≡ y
  pub refused : (s : List ℕ) → Bytes s → (IsWritten Well encode s → ⊥) → Refusal (fault s)

-- Big-endian numbers (rule 2.1), over the width: the number that bytes spell, and the bytes of a number.
use Rattle.std.specs.Prelude.{ℕ, zero, suc, ◌+◌, ◌*◌, ◌/◌, ◌%◌, ◌^◌, ◌<◌, ◌≡◌, List, [], ◌∷◌, length}
use Rattle.fields.specs.Bytes.{Bytes, part}

-- the number that the bytes spell, the most significant byte first
unfoldable pub be_val : List ℕ → ℕ
be_val [] = 0
be_val (b ∷ bs) = b * 256 ^ length bs + be_val bs

-- the last n digits of v to the base 256, the most significant first
unfoldable pub be_bytes : ℕ → ℕ → List ℕ
be_bytes zero v = []
be_bytes (suc n) v = v / 256 ^ n % 256 ∷ be_bytes n v

-- the number of n bytes at a place; bytes past the end are left out, so that of no bytes is 0
abbrev pub be_at : ℕ → ℕ → List ℕ → ℕ
be_at n at s = be_val (part n at s)

-- the largest number of two bytes
abbrev pub size_limit : ℕ
size_limit = 65535

-- ---- what is proved of them, for every width: a number's bytes spell that number and no other, and bytes are those of the number that they spell

pub record BigEndian : Type 0 where
  pub width : (n v : ℕ) → length (be_bytes n v) ≡ n
  pub read_back : (n v : ℕ) → v < 256 ^ n → be_val (be_bytes n v) ≡ v
  pub written_back : (s : List ℕ) → Bytes s → be_bytes (length s) (be_val s) ≡ s

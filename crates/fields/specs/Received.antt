-- A text field as it is received (rule 2.4): the bytes before its first 0 are its text, and what stands from that 0 on is its rest. The field is
-- clean if its rest is zeros.
use Rattle.std.specs.Prelude.{ℕ, ◌+◌, ◌≡◌, ◌⊎◌, ◌↔◌, Bool, true, false, cond, List, Option, Some, None, [], ◌∷◌, ◌++◌, length, drop, replicate}
use Rattle.fields.specs.Bytes.{Bytes, sized}
use Rattle.fields.specs.Text.{Text, text_of, text_ok, field_ok, text_bytes}
use Rattle.fields.specs.declared.text.TextField as declared

-- from the first 0 on; nothing where the text fills the field
abbrev pub rest_of : List ℕ → List ℕ
rest_of f = drop (length (text_of f)) f

-- what a rest can be: nothing, or a 0 and then any bytes
abbrev pub Rest : List ℕ → Type 0
Rest r = (r ≡ []) ⊎ ((x : List ℕ) × (r ≡ 0 ∷ x))

-- the same number of zeros
abbrev pub zeroed : List ℕ → List ℕ
zeroed r = replicate (length r) 0

-- the text t and the rest r in a field of w bytes, cut off where they are longer
unfoldable pub field_bytes : ℕ → List ℕ → List ℕ → List ℕ
field_bytes w t r = sized w (t ++ r)

-- a text and a rest that fill a field of w bytes
pub record Fills (w : ℕ) (t r : List ℕ) : Type 0 where
  pub text : Text t
  pub rest : Rest r
  pub bytes : Bytes r
  pub width : length t + length r ≡ w

-- what the reader of a field says of it: is it a text field, how long is its text, and is it clean? Of one that is not it says neither
pub record TextField : Type 0 where
  pub ok : Bool
  pub len : ℕ
  pub clean : Bool

-- the same, of the reader's answer
abbrev pub field_of : Option declared.TextField → TextField
field_of (Some f) = record { ok = true; len = f.len; clean = f.clean }
field_of None = record { ok = false; len = 0; clean = false }

abbrev pub field_read : List ℕ → TextField
field_read f = record { ok = text_ok f; len = cond (text_ok f) (length (text_of f)) 0; clean = field_ok f }

-- `read_field` accepts a field exactly when it is some text and some rest, and it is so for only one pair. It says how long that text is, and clean
-- exactly if the rest is zeros; of a field that it does not accept it says neither. With these zeros it is the field of rule 2.2 with that text
pub record ReceivedFields : Type 0 where
  pub accepted : (f : List ℕ) → Bytes f → (field_read f).ok ≡ true → Fills (length f) (text_of f) (rest_of f)
  pub parts : (f : List ℕ) → text_of f ++ rest_of f ≡ f
  pub passed : (t r : List ℕ) → Text t → Rest r → (field_read (t ++ r)).ok ≡ true
  pub only : (t r : List ℕ) → Text t → Rest r → (text_of (t ++ r) ≡ t) × (rest_of (t ++ r) ≡ r)
  pub mark : (t r : List ℕ) → Text t → Rest r → ((field_read (t ++ r)).clean ≡ true) ↔ (r ≡ zeroed r)
  pub long : (t r : List ℕ) → Text t → Rest r → (field_read (t ++ r)).len ≡ length t
  pub refused : (f : List ℕ) → (field_read f).ok ≡ false → field_read f ≡ record { ok = false; len = 0; clean = false }
  pub cleaned : (w : ℕ) (t r : List ℕ) → Fills w t r → t ++ zeroed r ≡ text_bytes w t

-- Texts, and the fields that hold them. A text has no byte 0 and none above 127. Behind it a field has only zeros (rule 2.2), or a 0 and then any
-- bytes (rule 2.4).
use Rattle.std.specs.Prelude.{ℕ, ◌<◌, ◌≤◌, ◌≡◌, Bool, true, cond, ◌&&◌, List, [], ◌∷◌, eqb, ltb, leb, length}
use Rattle.fields.specs.Bytes.{sized}
use Rattle.fields.specs.Lists.{all_of, Each}

-- the bytes of a text are below this, and none is 0
abbrev pub text_limit : ℕ
text_limit = 128

-- may the byte stand in a text?
abbrev pub text_byte : ℕ → Bool
text_byte b = ltb 0 b && ltb b text_limit

-- is it a text: bytes 1 to 127 and nothing else? Names and keys are texts
unfoldable pub is_text : List ℕ → Bool
is_text t = all_of text_byte t

-- the rule that this tests
abbrev pub Text : List ℕ → Type 0
Text t = Each (λ b. (0 < b) × (b < 128)) t

-- the bytes before the first 0: the text of a field, the first name of a table
unfoldable pub text_of : List ℕ → List ℕ
text_of [] = []
text_of (b ∷ bs) = cond (eqb b 0) [] (b ∷ text_of bs)

-- the bytes after the first 0: what follows the first name of a table
unfoldable pub past_text : List ℕ → List ℕ
past_text [] = []
past_text (b ∷ bs) = cond (eqb b 0) bs (past_text bs)

-- is the byte 0?
abbrev pub zero_byte : ℕ → Bool
zero_byte b = leb b 0

unfoldable pub all_zero : List ℕ → Bool
all_zero s = all_of zero_byte s

-- rule 2.4: what stands before the first 0 is a text
unfoldable pub text_ok : List ℕ → Bool
text_ok f = is_text (text_of f)

-- what stands behind that 0 is zeros
unfoldable pub text_clean : List ℕ → Bool
text_clean f = all_zero (past_text f)

-- rule 2.2: both
unfoldable pub field_ok : List ℕ → Bool
field_ok f = text_ok f && text_clean f

-- the text t in a field of w bytes, cut off where it is longer
unfoldable pub text_bytes : ℕ → List ℕ → List ℕ
text_bytes w t = sized w t

-- ---- what is proved of text fields: one is a text field exactly when it holds some text, and it holds only one

pub record Holds (f t : List ℕ) : Type 0 where
  pub text : Text t
  pub fits : length t ≤ length f
  pub bytes : text_bytes (length f) t ≡ f

pub record TextFields : Type 0 where
  pub accepted : (f : List ℕ) → field_ok f ≡ true → Holds f (text_of f)
  pub written : (f t : List ℕ) → Holds f t → (field_ok f ≡ true) × (text_of f ≡ t)

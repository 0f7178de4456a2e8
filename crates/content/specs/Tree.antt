-- A content (rules 4.1 to 4.15), a BIND to its innermost children, and the bytes that it is written as. Nothing here reads bytes.
use Rattle.std.specs.Prelude.{ℕ, zero, suc, ◌≡◌, List, [], ◌∷◌}
use Rattle.fields.specs.Bytes.{Bytes}
use Rattle.fields.specs.Received.{zeroed, Fills}
use Rattle.pose.specs.Words.{word_bytes}
use Rattle.pose.specs.Transform.{WellTransform}
use Rattle.pose.specs.Position.{WellPosition}
use Rattle.image.specs.Image.{Image, WellImage, encode_image}
use Rattle.bind_layout.specs.Children.{ctype_size, Child, encode_children, WellBundle}
use Rattle.content.specs.Kinds.{transform_text, position_text, image_text, bind_text}

-- a TRANSFORM or a POSITION is its words, an IMAGE its header and pixels, a BIND its children, each with its name and with the rest of its
-- CTYPE's field; of any other type, the text of the type and the bytes
mutual
  pub data Content : Type 0 where
    transform : List ℕ → Content
    position : List ℕ → Content
    image : Image → Content
    bind : Children → Content
    other : List ℕ → List ℕ → Content

  pub data Children : Type 0 where
    none : Children
    more : (rest name : List ℕ) → Content → Children → Children

-- the text of a content's type
abbrev pub type_text : Content → List ℕ
type_text (transform ws) = transform_text
type_text (position ws) = position_text
type_text (image x) = image_text
type_text (bind cs) = bind_text
type_text (other t s) = t

-- its bytes
unfoldable mutual
  pub encode : Content → List ℕ
  encode (transform ws) = word_bytes ws
  encode (position ws) = word_bytes ws
  encode (image x) = encode_image x
  encode (bind cs) = encode_children (child_list cs)
  encode (other t s) = s

  pub child_list : Children → List Child
  child_list none = []
  child_list (more rest name x cs) = record { type_text = type_text x; rest = rest; name = name; content = encode x } ∷ child_list cs

-- a type that has no rule (rule 4.1)
pub record Opaque (t : List ℕ) : Type 0 where
  pub no-transform : t ≡ transform_text → ⊥
  pub no-position : t ≡ position_text → ⊥
  pub no-image : t ≡ image_text → ⊥
  pub no-bind : t ≡ bind_text → ⊥

-- a content is well formed where so many levels of BIND are left: it keeps the rule of its type, and a BIND takes a level (rule 4.15)
unfoldable mutual
  pub WellFormed : Content → ℕ → Type 0
  WellFormed (transform ws) levels = WellTransform ws
  WellFormed (position ws) levels = WellPosition ws
  WellFormed (image x) levels = WellImage x
  WellFormed (bind cs) zero = ⊥
  WellFormed (bind cs) (suc levels) = WellBundle (child_list cs) × WellChildren cs levels
  WellFormed (other t s) levels = Opaque t × Bytes s

  pub WellChildren : Children → ℕ → Type 0
  WellChildren none levels = Unit {0}
  WellChildren (more rest name x cs) levels = WellFormed x levels × WellChildren cs levels

-- ---- the rests of CTYPEs (rule 2.4)

-- every rest fills its field behind the text
unfoldable mutual
  pub RestsFill : Content → Type 0
  RestsFill (transform ws) = Unit {0}
  RestsFill (position ws) = Unit {0}
  RestsFill (image x) = Unit {0}
  RestsFill (bind cs) = AllFill cs
  RestsFill (other t s) = Unit {0}

  pub AllFill : Children → Type 0
  AllFill none = Unit {0}
  AllFill (more rest name x cs) = Fills ctype_size (type_text x) rest × RestsFill x × AllFill cs

-- the content with every rest zeroed
unfoldable mutual
  pub cleaned : Content → Content
  cleaned (transform ws) = transform ws
  cleaned (position ws) = position ws
  cleaned (image x) = image x
  cleaned (bind cs) = bind (cleaned_children cs)
  cleaned (other t s) = other t s

  pub cleaned_children : Children → Children
  cleaned_children none = none
  cleaned_children (more rest name x cs) = more (zeroed rest) name (cleaned x) (cleaned_children cs)

-- every rest is zeros
unfoldable mutual
  pub IsClean : Content → Type 0
  IsClean (transform ws) = Unit {0}
  IsClean (position ws) = Unit {0}
  IsClean (image x) = Unit {0}
  IsClean (bind cs) = AllClean cs
  IsClean (other t s) = Unit {0}

  pub AllClean : Children → Type 0
  AllClean none = Unit {0}
  AllClean (more rest name x cs) = (rest ≡ zeroed rest) × IsClean x × AllClean cs

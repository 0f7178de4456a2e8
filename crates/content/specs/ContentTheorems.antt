-- What is proved of contents: one is accepted exactly when some well formed content of its type is written as these bytes, only one is,
-- and a BIND's faults come in the order of rule 5.4. It is marked clean exactly when every rest in it is zeros; with its rests zeroed it is
-- well formed and clean, and one that is clean already stays as it is. No rest makes a well formed content another.
use Rattle.std.specs.Prelude.{ℕ, suc, ◌≡◌, ◌↔◌, true, false, List, [], ◌∷◌}
use Rattle.fields.specs.Bytes.{Bytes}
use Rattle.fields.specs.Checks.{or_else}
use Rattle.fields.specs.Formats.{TwoWay}
use Rattle.pose.specs.TransformReader.{transform_fault}
use Rattle.pose.specs.PositionReader.{position_fault}
use Rattle.image.specs.ImageReader.{image_fault}
use Rattle.bind_layout.specs.Children.{Child, encode_children, WellBundle}
use Rattle.bind_layout.specs.BundleTheorems.{IsBundle}
use Rattle.content.specs.Kinds.{transform_text, position_text, image_text, bind_text}
use Rattle.content.specs.Tree.{Content, type_text, encode, WellFormed, Opaque, RestsFill, cleaned, IsClean}
use Rattle.content.specs.ContentCheck.{bind_fault, content_fault, bind_checked, content_checked}

-- a well formed content of the type with this text, with so many levels left
abbrev pub WellOf : ℕ → List ℕ → Content → Type 0
WellOf levels t x = WellFormed x levels × (type_text x ≡ t)

-- the first fault in a list
abbrev pub first_fault : (Child → ℕ) → List Child → ℕ
first_fault fault [] = 0
first_fault fault (c ∷ cs) = or_else (fault c) (first_fault fault cs)

pub record ContentTheorems : Type 0 where
  pub two_way : (levels : ℕ) (t : List ℕ) → TwoWay (WellOf levels t) encode (content_fault levels t) (λ n. n ≡ 0 → ⊥)
  -- also with different numbers of levels left
  pub unique : (l m : ℕ) (x y : Content) → WellFormed x l → WellFormed y m → type_text x ≡ type_text y → encode x ≡ encode y → x ≡ y
  pub mark : (levels : ℕ) (x : Content) → WellFormed x levels → ((content_checked levels (type_text x) (encode x)).clean ≡ true) ↔ IsClean x
  pub no_mark : (levels : ℕ) (t s : List ℕ) → (content_fault levels t s ≡ 0 → ⊥) → (content_checked levels t s).clean ≡ false
  pub cleaned_well : (levels : ℕ) (x : Content) → WellFormed x levels → WellFormed (cleaned x) levels
  pub fills : (levels : ℕ) (x : Content) → WellFormed x levels → RestsFill x
  pub any_rests : (levels : ℕ) (x : Content) → RestsFill x → WellFormed (cleaned x) levels → WellFormed x levels
  pub cleaned_clean : (x : Content) → IsClean (cleaned x)
  pub clean_same : (x : Content) → IsClean x → cleaned x ≡ x

-- by the type: which rule is asked. A BIND below the deepest level is 11 whatever its bytes; else 10 where it is laid out as no children
-- are; else the first fault of its children, in order and each to its end. A BIND that is lent by itself is judged as a content of type BIND is
pub record ContentNumbers : Type 0 where
  pub transform : (levels : ℕ) (s : List ℕ) → content_fault levels transform_text s ≡ transform_fault s
  pub position : (levels : ℕ) (s : List ℕ) → content_fault levels position_text s ≡ position_fault s
  pub image : (levels : ℕ) (s : List ℕ) → content_fault levels image_text s ≡ image_fault s
  pub opaque : (levels : ℕ) (t s : List ℕ) → Opaque t → content_fault levels t s ≡ 0
  pub too-deep : (s : List ℕ) → content_fault 0 bind_text s ≡ 11
  pub layout : (levels : ℕ) (s : List ℕ) → Bytes s → (IsBundle s → ⊥) → content_fault (suc levels) bind_text s ≡ 10
  pub children : (levels : ℕ) (cs : List Child) → WellBundle cs
      → content_fault (suc levels) bind_text (encode_children cs) ≡ first_fault (λ c. content_fault levels c.type_text c.content) cs
  pub lent_bind : (levels : ℕ) (s : List ℕ) → bind_fault levels s ≡ content_fault levels bind_text s
  pub lent_mark : (levels : ℕ) (s : List ℕ) → bind_checked levels s ≡ content_checked levels bind_text s

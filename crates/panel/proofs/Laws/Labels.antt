-- Labels: two tiles' types and names are equal exactly when their text fields are.
use Prim.Native.Nat.{ℕ, ◌≤◌}
use mathlib.Core.Path.{◌≡◌, refl, sym, ap, ap₂, subst, ◌∙◌}
use mathlib.Core.Logic.{◌⊎◌, inl, inr, ⊎_elim}
use mathlib.Core.Bool.{Bool, true, ◌&&◌}
use mathlib.Core.List.{List, [], ◌∷◌}
use native.Mathlib.Omega.{arith}
use lib.Dec.{eqb, leb}
use lib.ListN.{length}
use lib.Pointwise.{pointwise}
use borrow.Author.Tests.{leb-true}
use Rattle.fields.specs.Bytes.{same, sized}
use Rattle.fields.specs.Lists.{all_of}
use Rattle.fields.specs.Text.{Text, is_text, text_bytes}
use Rattle.fields.proofs.Laws.Bytes.{same-eq, same_refl, same-differ, not_same}
use Rattle.fields.proofs.Laws.Checks.{and_split, or_split}
use Rattle.fields.proofs.Laws.Text.{is-text, text-unique, text_bytes-sized}
use Rattle.content.specs.Kinds.{transform_text, position_text}
use Rattle.header.specs.Header.{WellTexts}
use Rattle.history.specs.Calls.{Entry}
use Rattle.history.specs.Summary.{is_of, is_pose, is_tile_name, is_allowed}
use Rattle.panel.specs.declared.Label.{Label}
use Rattle.panel.specs.Tiles.{label_of}
use Rattle.fields.proofs.Laws.Tests.{by-test}

-- ---- an allowed tile

-- the type is one of the two that are allowed
abbrev pub IsPose : List ℕ → Type 0
IsPose t = (t ≡ transform_text) ⊎ (t ≡ position_text)

pub record Allowed (t n : List ℕ) : Type 0 where
  pub pose : IsPose t
  pub name_text : Text n
  pub name_fits : length n ≤ 20

pub allowed : (t n : List ℕ) (h : ℕ) → is_allowed t n h ≡ true → Allowed t n
unfolding is_allowed
allowed t n h e =
    let a = and_split (is_pose t) _ e in
    let b = (and_split (is_tile_name n) _ a.1).0 in
    let c = and_split (leb (length n) 20) _ (and_split (leb 1 (length n)) _ b).1 in
    record {
      pose = ⊎_elim (λ q. inl (same-eq t transform_text q)) (λ q. inr (same-eq t position_text q)) (or_split (same t transform_text) _ a.0);
      name_text = is-text n c.1;
      name_fits = leb-true (length n) 20 c.0;
    }

pose-text : (t : List ℕ) → IsPose t → Text t × (length t ≤ 12)
unfolding is_text all_of
pose-text t p =
    ⊎_elim
    (λ e. (subst Text (sym e) (is-text transform_text refl), omega (arith, ap length e)))
    (λ e. (subst Text (sym e) (is-text position_text refl), omega (arith, ap length e)))
    p

pub allowed-texts : (t n : List ℕ) → Allowed t n → WellTexts t n
allowed-texts t n a =
    let p = pose-text t a.pose in
    record { type-text = p.0; type_fits = p.1; name_text = a.name_text; name_fits = a.name_fits }

-- ---- equal fields

field-same : (w : ℕ) (a b : List ℕ) → Text a → Text b → length a ≤ w → length b ≤ w → same (sized w a) (sized w b) ≡ same a b
field-same w a b ta tb la lb =
    by-test (same a b)
    (λ e. ap (λ (x : List ℕ). same (sized w x) (sized w b)) (same-eq a b e) ∙ same_refl (sized w b) ∙ sym e)
    (λ e. not_same (sized w a) (sized w b) (λ q. same-differ a b e (text-unique w a b ta tb la lb (fields q))) ∙ sym e)
  where
    fields : sized w a ≡ sized w b → text_bytes w a ≡ text_bytes w b
    fields q = text_bytes-sized w a ∙ q ∙ sym (text_bytes-sized w b)

-- do two labels say the same type and name?
abbrev pub same_label : Label → Label → Bool
same_label x l = same x.type_text l.type_text && same x.name l.name

pub label-says : (t n : List ℕ) (e : Entry) → WellTexts t n → WellTexts e.type_text e.name
    → same_label (label_of e.type_text e.name) (label_of t n) ≡ is_of t n e
label-says t n e w v =
    ap₂ (λ (x y : Bool). x && y)
    (field-same 12 e.type_text t v.type-text w.type-text v.type_fits w.type_fits)
    (field-same 20 e.name n v.name_text w.name_text v.name_fits w.name_fits)

-- equal bytes, as the library compares them
pub same-bytes : (a b : List ℕ) → pointwise eqb a b ≡ same a b
unfolding same
same-bytes [] [] = refl
same-bytes [] (y ∷ b) = refl
same-bytes (x ∷ a) [] = refl
same-bytes (x ∷ a) (y ∷ b) = ap (λ (t : Bool). eqb x y && t) (same-bytes a b)

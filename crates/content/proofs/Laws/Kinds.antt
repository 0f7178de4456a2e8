-- The kind of a type tells its text, and a text its kind.
use mathlib.Core.Path.{◌≡◌, refl}
use mathlib.Core.Bool.{Bool, true, false}
use mathlib.Core.List.{List}
use Prim.Native.Nat.{ℕ}
use Rattle.fields.specs.Bytes.{same}
use Rattle.fields.proofs.Laws.Bytes.{same-eq, same-differ}
use Rattle.content.specs.declared.Kind.TheVariants.{Transform, Position, Image, Bind, Other}
use Rattle.content.specs.Kinds.{transform_text, position_text, image_text, bind_text, kind_of}
use Rattle.content.specs.Tree.{Opaque}

-- a type is one of the four, or opaque; its kind says which
pub data View (t : List ℕ) : Type 0 where
  is_transform : t ≡ transform_text → kind_of t ≡ Transform → View t
  is-position : t ≡ position_text → kind_of t ≡ Position → View t
  is-image : t ≡ image_text → kind_of t ≡ Image → View t
  is-bind : t ≡ bind_text → kind_of t ≡ Bind → View t
  is-other : Opaque t → kind_of t ≡ Other → View t

pub differ : {a b : List ℕ} → same a b ≡ false → a ≡ b → ⊥
differ {a} {b} h = same-differ a b h

pub view : (t : List ℕ) → View t
unfolding kind_of
view t = go (same t transform_text) (same t position_text) (same t image_text) (same t bind_text) refl refl refl refl
  where
    go : (a b c d : Bool) → same t transform_text ≡ a → same t position_text ≡ b → same t image_text ≡ c → same t bind_text ≡ d → View t
    go true b c d p q r s = is_transform (same-eq t transform_text p) (simp p)
    go false true c d p q r s = is-position (same-eq t position_text q) (simp (p, q))
    go false false true d p q r s = is-image (same-eq t image_text r) (simp (p, q, r))
    go false false false true p q r s = is-bind (same-eq t bind_text s) (simp (p, q, r, s))
    go false false false false p q r s =
        is-other (record { no-transform = differ p; no-position = differ q; no-image = differ r; no-bind = differ s }) (simp (p, q, r, s))

pub kind-transform : kind_of transform_text ≡ Transform
unfolding kind_of same
kind-transform = refl

pub kind-position : kind_of position_text ≡ Position
unfolding kind_of same
kind-position = refl

pub kind-image : kind_of image_text ≡ Image
unfolding kind_of same
kind-image = refl

pub kind-bind : kind_of bind_text ≡ Bind
unfolding kind_of same
kind-bind = refl

pub kind-other : (t : List ℕ) → Opaque t → kind_of t ≡ Other
kind-other t o = go (view t)
  where
    go : View t → kind_of t ≡ Other
    go (is_transform e k) = absurd (o.no-transform e)
    go (is-position e k) = absurd (o.no-position e)
    go (is-image e k) = absurd (o.no-image e)
    go (is-bind e k) = absurd (o.no-bind e)
    go (is-other p k) = k

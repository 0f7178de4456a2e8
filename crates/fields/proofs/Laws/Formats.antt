-- A format is read both ways if the value that is read from bytes is known.
use Prim.Native.Nat.{ℕ}
use mathlib.Core.Path.{◌≡◌, sym, ap, ◌∙◌}
use mathlib.Core.Logic.{◌⊎◌, inl, inr}
use mathlib.Core.List.{List}
use Rattle.fields.specs.Bytes.{Bytes}
use Rattle.fields.specs.Formats.{IsWritten, TwoWay}

-- what a check and a decoder of a format owe: accepted bytes are those of the value that is decoded, the bytes of a well formed value are
-- accepted and decoded to it, and what is not accepted is a refusal
pub record Decoded {A : Type 0} (Well : A → Type 0) (encode : A → List ℕ) (fault : List ℕ → ℕ) (Refusal : ℕ → Type 0) (decode : List ℕ → A) : Type 0 where
  pub well : (s : List ℕ) → Bytes s → fault s ≡ 0 → Well (decode s)
  pub back : (s : List ℕ) → Bytes s → fault s ≡ 0 → encode (decode s) ≡ s
  pub accepts : (x : A) → Well x → fault (encode x) ≡ 0
  pub decoded : (x : A) → Well x → decode (encode x) ≡ x
  pub numbers : (s : List ℕ) → (fault s ≡ 0) ⊎ Refusal (fault s)

pub two_way : {A : Type 0} (Well : A → Type 0) (encode : A → List ℕ) (fault : List ℕ → ℕ) (Refusal : ℕ → Type 0) (decode : List ℕ → A)
    → Decoded Well encode fault Refusal decode → TwoWay Well encode fault Refusal
two_way {A} Well encode fault Refusal decode d =
    record {
      accepted = accepts;
      well_accepted = d.accepts;
      only_one = λ x y v w e. sym (d.decoded x v) ∙ ap decode e ∙ d.decoded y w;
      refused = λ s b n. by_number s b n (d.numbers s);
    }
  where
    accepts : (s : List ℕ) → Bytes s → fault s ≡ 0 → IsWritten Well encode s
    accepts s b h = (decode s, d.well s b h, d.back s b h)

    by_number : (s : List ℕ) → Bytes s → (IsWritten Well encode s → ⊥) → (fault s ≡ 0) ⊎ Refusal (fault s) → Refusal (fault s)
    by_number s b n (inl h) = absurd (n (accepts s b h))
    by_number s b n (inr r) = r

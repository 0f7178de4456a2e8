-- The rule of IMAGE: what its check tells, and that it passes where the rule holds.
use Prim.Native.Nat.{ℕ, zero, suc, ◌+◌, ◌*◌, ◌^◌, ◌<◌, ◌≤◌}
use mathlib.Core.Path.{◌≡◌, refl, sym, ap, ◌∙◌}
use mathlib.Core.Logic.{◌⊎◌, inl, inr}
use mathlib.Core.Bool.{Bool, true, false, cond, ◌&&◌}
use mathlib.Core.List.{List, [], ◌∷◌}
use native.Mathlib.Omega.{arith}
use native.Mathlib.Nat.{le_refl, le_of_lt, lt_of_le_of_lt, mul-le-mul, mul-lt-mul_of_pos_right}
use lib.Dec.{eqb, leb}
use lib.ListN.{get_or}
use borrow.Author.Tests.{leb-true, le-leb, eqb-true, eq-eqb}
use Rattle.fields.proofs.Laws.Checks.{and_split, and-join, or_split}
use Rattle.image.specs.declared.ImageHeader.{ImageHeader}
use Rattle.image.specs.Image.{along, ScalarType, int8, uint8, int16, uint16, int32, uint32, float32, float64, Direction, ImageRule}
use Rattle.image.specs.ImageReader.{scalar_sizes, scalar_size, one_or_two, kind_ok, within, direction_ok, directions_ok, pixel_bytes, header_ok, rule_fault}

-- ---- scalar types

-- P holds of each place of a table and the number there
abbrev Places : (ℕ → ℕ → Type 0) → List ℕ → Type 0
Places P [] = Unit {0}
Places P (n ∷ l) = P 0 n × Places (λ i. P (suc i)) l

at_place : (P : ℕ → ℕ → Type 0) (l : List ℕ) → Places P l → ((i : ℕ) → P i 0) → (i : ℕ) → P i (get_or l i 0)
at_place P [] h z i = z i
at_place P (n ∷ l) h z zero = h.0
at_place P (n ∷ l) h z (suc i) = at_place (λ j. P (suc j)) l h.1 (λ j. z (suc j)) i

scalar-known : (s : ℕ) → 1 ≤ scalar_size s → ScalarType s (scalar_size s)
unfolding scalar_size
scalar-known =
    let none : (i : ℕ) → 1 ≤ 0 → ScalarType i 0 = λ i h. absurd (omega arith) in
    at_place (λ i n. 1 ≤ n → ScalarType i n) scalar_sizes
    (search (none, int8, uint8, int16, uint16, int32, uint32, float32, float64)) none

pub scalar_size_lem : {s n : ℕ} → ScalarType s n → scalar_size s ≡ n
unfolding scalar_size
scalar_size_lem int8 = refl
scalar_size_lem uint8 = refl
scalar_size_lem int16 = refl
scalar_size_lem uint16 = refl
scalar_size_lem int32 = refl
scalar_size_lem uint32 = refl
scalar_size_lem float32 = refl
scalar_size_lem float64 = refl

pub scalar_le : (s : ℕ) → scalar_size s ≤ 8
unfolding scalar_size
scalar_le = at_place (λ i n. n ≤ 8) scalar_sizes (omega arith) (λ i. omega arith)

-- ---- the fields of a header

one-or-two : (n : ℕ) → one_or_two n ≡ true → (n ≡ 1) ⊎ (n ≡ 2)
one-or-two n h = go (or_split (eqb n 1) (eqb n 2) h)
  where
    go : (eqb n 1 ≡ true) ⊎ (eqb n 2 ≡ true) → (n ≡ 1) ⊎ (n ≡ 2)
    go (inl e) = inl (eqb-true n 1 e)
    go (inr e) = inr (eqb-true n 2 e)

one-or-two-is : (n : ℕ) → (n ≡ 1) ⊎ (n ≡ 2) → one_or_two n ≡ true
one-or-two-is n (inl e) = ap one_or_two e
one-or-two-is n (inr e) = ap one_or_two e

within-direction : (size offset sub : ℕ) → within size offset sub ≡ true → Direction size offset sub
unfolding within
within-direction size offset sub h =
    let a = and_split (leb 1 size) (leb 1 sub && leb (offset + sub) size) h in
    let b = and_split (leb 1 sub) (leb (offset + sub) size) a.1 in
    record { some_pixels = leb-true 1 size a.0; some_sent = leb-true 1 sub b.0; inside = leb-true (offset + sub) size b.1 }

direction-within : (size offset sub : ℕ) → Direction size offset sub → within size offset sub ≡ true
unfolding within
direction-within size offset sub k =
    and-join (leb 1 size) _ (le-leb 1 size k.some_pixels) (and-join (leb 1 sub) _ (le-leb 1 sub k.some_sent) (le-leb (offset + sub) size k.inside))

-- ---- the rule of a header and n bytes of pixels, and its check

each-direction : (h : ImageHeader) → direction_ok h 0 ≡ true → direction_ok h 1 ≡ true → direction_ok h 2 ≡ true
    → (d : ℕ) → d < 3 → Direction (along d h.size) (along d h.offset) (along d h.sub_size)
unfolding direction_ok
each-direction h a b c zero k = within-direction (along 0 h.size) (along 0 h.offset) (along 0 h.sub_size) a
each-direction h a b c (suc zero) k = within-direction (along 1 h.size) (along 1 h.offset) (along 1 h.sub_size) b
each-direction h a b c (suc (suc zero)) k = within-direction (along 2 h.size) (along 2 h.offset) (along 2 h.sub_size) c
each-direction h a b c (suc (suc (suc d))) k = absurd (omega arith)

pub rule-holds : (h : ImageHeader) (n : ℕ) → header_ok h n ≡ true → ImageRule h n
unfolding header_ok kind_ok directions_ok pixel_bytes
rule-holds h n e =
    let kind = and_split (kind_ok h) _ e in
    let t = and_split (leb 1 h.components) _ kind.0 in
    let s = and_split (leb 1 (scalar_size h.scalar_type)) _ t.1 in
    let eo = and_split (one_or_two h.endian) (one_or_two h.coordinate) s.1 in
    let rest = and_split (directions_ok h) (eqb n (pixel_bytes h)) kind.1 in
    let i = and_split (direction_ok h 0) _ rest.0 in
    let jk = and_split (direction_ok h 1) (direction_ok h 2) i.1 in
    record {
      some_component = leb-true 1 h.components t.0;
      scalar_bytes = scalar_size h.scalar_type;
      scalar = scalar-known h.scalar_type (leb-true 1 (scalar_size h.scalar_type) s.0);
      endian = one-or-two h.endian eo.0;
      coordinate = one-or-two h.coordinate eo.1;
      directions = each-direction h i.0 jk.0 jk.1;
      filled = eqb-true n (pixel_bytes h) rest.1;
    }

scalar-some : {s n : ℕ} → ScalarType s n → 1 ≤ n
scalar-some int8 = omega arith
scalar-some uint8 = omega arith
scalar-some int16 = omega arith
scalar-some uint16 = omega arith
scalar-some int32 = omega arith
scalar-some uint32 = omega arith
scalar-some float32 = omega arith
scalar-some float64 = omega arith

direction-ok : (h : ImageHeader) (d : ℕ) → Direction (along d h.size) (along d h.offset) (along d h.sub_size) → direction_ok h d ≡ true
unfolding direction_ok
direction-ok h d k = direction-within (along d h.size) (along d h.offset) (along d h.sub_size) k

pub rule-passes : (h : ImageHeader) (n : ℕ) → ImageRule h n → header_ok h n ≡ true
unfolding header_ok kind_ok directions_ok pixel_bytes
rule-passes h n r =
    let sub : ℕ = along 0 h.sub_size * along 1 h.sub_size * along 2 h.sub_size in
    let size : scalar_size h.scalar_type ≡ r.scalar_bytes = scalar_size_lem r.scalar in
    let some : 1 ≤ scalar_size h.scalar_type = omega (arith, size, scalar-some r.scalar) in
    let filled : n ≡ h.components * scalar_size h.scalar_type * sub = r.filled ∙ ap (λ (z : ℕ). h.components * z * sub) (sym size) in
    let kind : kind_ok h ≡ true =
    and-join (leb 1 h.components) _ (le-leb 1 h.components r.some_component)
    (and-join (leb 1 (scalar_size h.scalar_type)) _ (le-leb 1 (scalar_size h.scalar_type) some)
    (and-join (one_or_two h.endian) (one_or_two h.coordinate) (one-or-two-is h.endian r.endian) (one-or-two-is h.coordinate r.coordinate))) in
    let directions : directions_ok h ≡ true =
    and-join (direction_ok h 0) _ (direction-ok h 0 (r.directions 0 (omega arith)))
    (and-join (direction_ok h 1) (direction_ok h 2) (direction-ok h 1 (r.directions 1 (omega arith))) (direction-ok h 2 (r.directions 2 (omega arith)))) in
    and-join (kind_ok h) _ kind (and-join (directions_ok h) (eqb n (pixel_bytes h)) directions (eq-eqb n (pixel_bytes h) filled))

pub rule-broken : (h : ImageHeader) (n : ℕ) → header_ok h n ≡ false → rule_fault h n ≡ 9
unfolding rule_fault
rule-broken h n e = ap (λ (t : Bool). cond t 0 9) e

pub rule-kept : (h : ImageHeader) (n : ℕ) → header_ok h n ≡ true → rule_fault h n ≡ 0
unfolding rule_fault
rule-kept h n e = ap (λ (t : Bool). cond t 0 9) e

-- ---- the tests as the code makes them, one after the other

pub and_no : {a : Bool} (b : Bool) → a ≡ false → (a && b) ≡ false
and_no b h = ap (λ (t : Bool). t && b) h

pub and_yes : {a : Bool} (b : Bool) → a ≡ true → (a && b) ≡ b
and_yes b h = ap (λ (t : Bool). t && b) h

-- ---- the same with what a call gave

pub rule-same : {a b : ImageHeader} (n : ℕ) → a ≡ b → rule_fault a n ≡ rule_fault b n
rule-same n e = ap (λ (h : ImageHeader). rule_fault h n) e

pub product-same : {a b : ℕ} (t r : ℕ) → a ≡ b → t * a * r ≡ t * b * r
product-same t r e = ap (λ (z : ℕ). t * z * r) e

-- ---- no product wraps

pub product_lt : {a b m n : ℕ} → a < m → b < n → a * b < m * n
product_lt {a} {b} {m} {n} h k =
    let some : 0 < n = omega arith in
    lt_of_le_of_lt (mul-le-mul (le_refl a) (le_of_lt k)) (mul-lt-mul_of_pos_right h some)

pub pixels-lt : {t s i j k : ℕ} → t < 256 → s ≤ 8 → i < 65536 → j < 65536 → k < 65536 → t * s * (i * j * k) < 2 ^ 59
pixels-lt {t} {s} ht hs hi hj hk =
    let h : t ≤ 255 = omega arith in
    let p : t * s < 2048 = lt_of_le_of_lt (mul-le-mul h hs) (omega arith) in
    product_lt p (product_lt (product_lt hi hj) hk)

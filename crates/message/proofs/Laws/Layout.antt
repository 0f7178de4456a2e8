-- The two layouts, case by case: the numbers of an extended header are read as what they were written from, and are written again as they were
-- read. All other laws of this crate take any layout, but for `same_numbers` and `both-fit` in BothLayouts.
use Prim.Native.Nat.{ℕ, ◌+◌, ◌*◌, ◌^◌, ◌<◌, ◌≤◌}
use mathlib.Core.Path.{◌≡◌, refl, sym, ap, ◌∙◌, subst}
use mathlib.Core.Bool.{Bool, true, cond}
use mathlib.Core.List.{List, [], ◌∷◌}
use native.Mathlib.Omega.{arith}
use native.Mathlib.Nat.{lt_of_not-le}
use lib.Dec.{eqb}
use lib.ListN.{length}
use borrow.Author.Tests.{eqb-true, leb-true, le-leb, eq-eqb, ne_eqb}
use Rattle.fields.specs.Bytes.{Bytes}
use Rattle.fields.specs.Numbers.{be_val, be_at}
use Rattle.fields.proofs.Laws.Numbers.{be_at-lt}
use Rattle.fields.proofs.Laws.Checks.{cond-pass, cond-refused}
use Rattle.header.specs.Header.{body_limit}
use Rattle.metadata.specs.MetadataCheck.{index_count, index_size_in}
use Rattle.message.specs.declared.Layout.{Layout}
use Rattle.message.specs.declared.Layout.TheVariants.{New, Old}
use Rattle.message.specs.declared.extended.ExtendedNumbers.{ExtendedNumbers}
use Rattle.message.specs.Body.{Sections, extended_numbers, MetadataFits, Extended}
use Rattle.message.specs.MessageReader.{index_at, section_size, id_at, reserved_ok, index_size_fault}
use Rattle.message.specs.BodyTheorems.{Agrees}
use Rattle.message.specs.MessageWriter.{size_fits}
use Rattle.message.specs.MessageNumbers.{SizeUnfit, HasIndex}

-- these numbers stand in a body
pub record NumbersAt (b : List ℕ) (e : ExtendedNumbers) : Type 0 where
  pub second : be_at 2 2 b ≡ e.second
  pub third : be_at 4 4 b ≡ e.third
  pub fourth : be_at 4 8 b ≡ e.fourth

-- ---- written, then read

pub record NumbersFit (e : ExtendedNumbers) : Type 0 where
  pub second : e.second < 256 ^ 2
  pub third : e.third < 256 ^ 4
  pub fourth : e.fourth < 256 ^ 4

pub numbers_fit : (l : Layout) (k m id : ℕ) → MetadataFits l k m → id < 256 ^ 4 → NumbersFit (extended_numbers l k m id)
numbers_fit New k m id f i = record { second = f.1; third = f.2; fourth = i }
numbers_fit Old k m id f i = record { second = f; third = i; fourth = omega arith }

pub record ReadAs (l : Layout) (b : List ℕ) (m id : ℕ) : Type 0 where
  pub size : section_size l b ≡ m
  pub id_same : id_at l b ≡ id
  pub reserved : reserved_ok l b ≡ true

pub numbers_read : (l : Layout) (b : List ℕ) (k m id : ℕ) → MetadataFits l k m → NumbersAt b (extended_numbers l k m id) → ReadAs l b m id
numbers_read New b k m id f n = record { size = omega (arith, n.second, n.third, f.0); id_same = n.fourth; reserved = refl }
numbers_read Old b k m id f n = record { size = n.second; id_same = n.third; reserved = eq-eqb (be_at 4 8 b) 0 n.fourth }

-- ---- read, then written

pub numbers-back : (l : Layout) (b : List ℕ) → reserved_ok l b ≡ true → NumbersAt b (extended_numbers l (index_at b) (section_size l b) (id_at l b))
numbers-back New b h = record { second = refl; third = omega arith; fourth = refl }
numbers-back Old b h = record { second = refl; third = refl; fourth = eqb-true (be_at 4 8 b) 0 h }

pub id-lt : (l : Layout) (b : List ℕ) → Bytes b → id_at l b < 256 ^ 4
id-lt New b h = be_at-lt 4 8 b h
id-lt Old b h = be_at-lt 4 4 b h

pub section-fits : (l : Layout) (b : List ℕ) → Bytes b → MetadataFits l (index_at b) (section_size l b)
section-fits New b h = (omega arith, be_at-lt 2 2 b h, omega (arith, be_at-lt 4 4 b h))
section-fits Old b h = be_at-lt 2 2 b h

pub section-lt : (l : Layout) (b : List ℕ) → Bytes b → section_size l b < 256 ^ 2 + 256 ^ 4
section-lt New b h = omega (arith, be_at-lt 2 2 b h, be_at-lt 4 4 b h)
section-lt Old b h = omega (arith, be_at-lt 2 2 b h)

-- the reserved word of the old layout
pub reserved-set : (l : Layout) (b : List ℕ) → l ≡ Old → (be_at 4 8 b ≡ 0 → ⊥) → reserved_ok l b ≡ true → ⊥
reserved-set l b e h k = h (eqb-true (be_at 4 8 b) 0 (ap (λ (o : Layout). reserved_ok o b) (sym e) ∙ k))

-- ---- check 7 of the sizes

module _ (v k m id : ℕ) (b s : List ℕ) where
  pub index-agreed : (l : Layout) → NumbersAt b (extended_numbers l k m id) → v ≡ 2 → Agrees l v k s → index_size_fault l b s ≡ 0
  index-agreed New n e a = ap (λ (t : Bool). cond t 0 7) (eq-eqb (index_at b) (index_size_in s) (n.second ∙ a e))
  index-agreed Old n e a = refl

  pub index-disagreed : (l : Layout) → NumbersAt b (extended_numbers l k m id) → (Agrees l v k s → ⊥) → index_size_fault l b s ≡ 7
  index-disagreed New n h = ap (λ (t : Bool). cond t 0 7) (ne_eqb (index_at b) (index_size_in s) (λ z. h (λ e. sym n.second ∙ z)))
  index-disagreed Old n h = absurd (h tt)

pub index-seven : (l : Layout) (b s : List ℕ) → (index_size_fault l b s ≡ 0 → ⊥) → index_size_fault l b s ≡ 7
index-seven New b s h = cond-refused (eqb (index_at b) (index_size_in s)) 7 h
index-seven Old b s h = absurd (h refl)

pub index-passed : (l : Layout) (v : ℕ) (b s : List ℕ) → index_size_fault l b s ≡ 0 → Agrees l v (index_at b) s
index-passed New v b s h = λ e. eqb-true (index_at b) (index_size_in s) (cond-pass (eqb (index_at b) (index_size_in s)) 6 0 h).0
index-passed Old v b s h = tt

-- not of V 2: nothing to agree
pub agrees-1 : (l : Layout) (v k : ℕ) (s : List ℕ) → (v ≡ 2 → ⊥) → Agrees l v k s
agrees-1 New v k s h = λ e. absurd (h e)
agrees-1 Old v k s h = tt

pub agrees-same : (l : Layout) (v k : ℕ) (s : List ℕ) → k ≡ index_size_in s → Agrees l v k s
agrees-same New v k s e = λ _. e
agrees-same Old v k s e = tt

-- sizes that agree can be replaced by the section's
pub extended-same : (l : Layout) (v k : ℕ) (s : List ℕ) (x : Sections) → v ≡ 2 → Agrees l v k s → Extended l k x → Extended l (index_size_in s) x
extended-same l v k s x e a w =
    record { id_fits = w.id_fits; further_bytes = w.further_bytes; further_fits = w.further_fits; metadata_fits = fits-same l a w.metadata_fits }
  where
    fits-same : (o : Layout) → Agrees o v k s → MetadataFits o k (length x.metadata) → MetadataFits o (index_size_in s) (length x.metadata)
    fits-same New c f = subst (λ (j : ℕ). MetadataFits New j (length x.metadata)) (c e) f
    fits-same Old c f = f

pub numbers-same : (l : Layout) (v k m id : ℕ) (s : List ℕ) → v ≡ 2 → Agrees l v k s → extended_numbers l k m id ≡ extended_numbers l (index_size_in s) m id
numbers-same New v k m id s e a = ap (λ (j : ℕ). extended_numbers New j m id) (a e)
numbers-same Old v k m id s e a = refl

-- ---- check 6 of a writer: the size that has two bytes

pub fits-well : (l : Layout) (k m : ℕ) → MetadataFits l k m → size_fits l k m ≡ true
fits-well New k m f = le-leb k 65535 (omega (arith, f.1))
fits-well Old k m f = le-leb m 65535 (omega (arith, f))

pub fit-metadata : (l : Layout) (v : ℕ) (s : List ℕ) → v ≡ 2 → size_fits l (index_size_in s) (length s) ≡ true → HasIndex l v s → length s ≤ body_limit
    → MetadataFits l (index_size_in s) (length s)
fit-metadata New v s e h i n = (i e, omega (arith, leb-true (index_size_in s) 65535 h), omega arith)
fit-metadata Old v s e h i n = omega (arith, leb-true (length s) 65535 h)

pub has-index : (l : Layout) (v : ℕ) (s : List ℕ) → index_size_in s ≤ length s → HasIndex l v s
has-index New v s h = λ _. h
has-index Old v s h = tt

-- by INDEX_COUNT
index-some : (s : List ℕ) → 0 < index_count s → index_size_in s ≡ 2 + 8 * index_count s
unfolding index_size_in be_val
index-some [] h = omega (arith, h)
index-some (x ∷ s) h = simp (ne_eqb (length (x ∷ s)) 0 (λ e. omega (arith, e)))

index-most : (s : List ℕ) → index_size_in s ≤ 2 + 8 * index_count s
unfolding index_size_in be_val
index-most [] = omega arith
index-most (x ∷ s) =
    let e : index_size_in (x ∷ s) ≡ 2 + 8 * index_count (x ∷ s) = simp (ne_eqb (length (x ∷ s)) 0 (λ z. omega (arith, z))) in
    omega (arith, e)

pub unfit-size : (l : Layout) (s : List ℕ) → SizeUnfit l s → size_fits l (index_size_in s) (length s) ≡ true → ⊥
unfit-size New s u h = omega (arith, u, index-some s (omega (arith, u)), leb-true (index_size_in s) 65535 h)
unfit-size Old s u h = omega (arith, u, leb-true (length s) 65535 h)

pub fit-size : (l : Layout) (s : List ℕ) → (SizeUnfit l s → ⊥) → size_fits l (index_size_in s) (length s) ≡ true
fit-size New s h =
    let n : index_count s < 8192 = lt_of_not-le (λ k. h (omega (arith, k))) in
    le-leb (index_size_in s) 65535 (omega (arith, n, index-most s))
fit-size Old s h = le-leb (length s) 65535 (omega (arith, lt_of_not-le h))

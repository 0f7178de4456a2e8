-- Bytes are accepted exactly when some metadata is written as them, and only one is.
use Prim.Native.Nat.{ℕ, ◌+◌, ◌*◌, ◌≤◌}
use mathlib.Core.Path.{◌≡◌, refl, sym, ap, ◌∙◌}
use mathlib.Core.Logic.{◌⊎◌, inl, inr}
use mathlib.Core.Bool.{Bool, true, cond}
use mathlib.Core.List.{List, [], ◌∷◌}
use native.Mathlib.Omega.{arith}
use lib.ListN.{length}
use borrow.Author.Tests.{ne_eqb}
use Rattle.fields.specs.Bytes.{Bytes}
use Rattle.fields.specs.Numbers.{be_bytes}
use Rattle.fields.proofs.Laws.Checks.{cond-pass, cond-refused}
use Rattle.fields.proofs.Laws.Formats.{Decoded, two_way}
use Rattle.fields.proofs.Laws.Tests.{by_zero}
use Rattle.metadata.specs.Metadata.{Entry, Metadata, absent, section, encode_metadata, index_size, WellMetadata}
use Rattle.metadata.specs.MetadataCheck.{index_count, index_size_in, section_ok, metadata_fault}
use Rattle.metadata.specs.MetadataTheorems.{MetadataTheorems}
use Rattle.metadata.proofs.Laws.Sections.{entries_in, section-passed, section-read, length-written, count-written, section-written}

metadata-absent : metadata_fault [] ≡ 0
unfolding metadata_fault
metadata-absent = refl

-- a section that is there
module _ (s : List ℕ) (n : length s ≡ 0 → ⊥) where
  pub section-fault : metadata_fault s ≡ cond (section_ok s) 0 7
  unfolding metadata_fault
  section-fault = simp (ne_eqb (length s) 0 n)

  section-accepted : metadata_fault s ≡ 0 → section_ok s ≡ true
  section-accepted h = (cond-pass (section_ok s) _ 0 (sym section-fault ∙ h)).0

written-some : (es : List Entry) → length (encode_metadata (section es)) ≡ 0 → ⊥
written-some es e = omega (arith, e, length-written es)

-- the metadata that bytes hold
metadata_of : List ℕ → Metadata
metadata_of [] = absent
metadata_of (x ∷ s) = section (entries_in (x ∷ s))

metadata-decoded : Decoded WellMetadata encode_metadata metadata_fault (λ n. n ≡ 7) metadata_of
unfolding WellMetadata encode_metadata be_bytes metadata_of
metadata-decoded = record { well = well; back = back; accepts = accepts; decoded = decoded; numbers = numbers }
  where
    well : (s : List ℕ) → Bytes s → metadata_fault s ≡ 0 → WellMetadata (metadata_of s)
    well [] b h = tt
    well (x ∷ s) b h = (section-read (x ∷ s) (section-accepted (x ∷ s) (λ e. omega (arith, e)) h) b).0

    back : (s : List ℕ) → Bytes s → metadata_fault s ≡ 0 → encode_metadata (metadata_of s) ≡ s
    back [] b h = refl
    back (x ∷ s) b h = (section-read (x ∷ s) (section-accepted (x ∷ s) (λ e. omega (arith, e)) h) b).1

    accepts : (m : Metadata) → WellMetadata m → metadata_fault (encode_metadata m) ≡ 0
    accepts absent w = metadata-absent
    accepts (section es) w =
        section-fault (encode_metadata (section es)) (written-some es) ∙ ap (λ (t : Bool). cond t 0 7) (section-written es w.0 w.1).0

    decoded : (m : Metadata) → WellMetadata m → metadata_of (encode_metadata m) ≡ m
    decoded absent w = refl
    decoded (section es) w = ap section (section-written es w.0 w.1).1

    numbers : (s : List ℕ) → (metadata_fault s ≡ 0) ⊎ (metadata_fault s ≡ 7)
    numbers [] = inl metadata-absent
    numbers (x ∷ s) =
        let f = section-fault (x ∷ s) (λ e. omega (arith, e)) in
        by_zero (metadata_fault (x ∷ s)) inl (λ z. inr (f ∙ cond-refused (section_ok (x ∷ s)) 7 (λ e. z (f ∙ e))))

-- ---- the index

index_in : (m : Metadata) → WellMetadata m → index_size_in (encode_metadata m) ≡ index_size m
unfolding WellMetadata encode_metadata index_size_in
index_in absent w = refl
index_in (section es) w =
    simp (ne_eqb (length (encode_metadata (section es))) 0 (written-some es)) (ap (λ (n : ℕ). 2 + 8 * n) (count-written es w.0))

index_within : (s : List ℕ) → metadata_fault s ≡ 0 → index_size_in s ≤ length s
unfolding index_size_in
index_within [] h = omega arith
index_within (x ∷ r) h =
    let s = x ∷ r in
    let n : length s ≡ 0 → ⊥ = λ e. omega (arith, e) in
    let e : index_size_in s ≡ 2 + 8 * index_count s = simp (ne_eqb (length s) 0 n) in
    omega (arith, e, (section-passed s (section-accepted s n h)).0)

pub metadata-theorems : MetadataTheorems
metadata-theorems =
    record {
      two_way = two_way WellMetadata encode_metadata metadata_fault (λ n. n ≡ 7) metadata_of metadata-decoded;
      index_in = index_in;
      index_within = index_within;
    }

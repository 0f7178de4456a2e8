-- What is proved of the body and its extended header, in each layout: a body passes check 6 exactly when some sections are written as it, they
-- are those that are read, and only they are; a body of V 2 that breaks rule 3.6 is 6. The metadata's sizes pass check 7 exactly when they agree
-- with the section.
use Rattle.std.specs.Prelude.{ℕ, ◌+◌, ◌<◌, ◌≡◌, ◌⊎◌, List, length}
use Rattle.fields.specs.Bytes.{Bytes}
use Rattle.fields.specs.Numbers.{be_at}
use Rattle.metadata.specs.MetadataCheck.{index_size_in}
use Rattle.message.specs.declared.Layout.{Layout}
use Rattle.message.specs.declared.Layout.TheVariants.{New, Old}
use Rattle.message.specs.Body.{extended_least, Sections, WellSections, encode_body}
use Rattle.message.specs.MessageReader.{index_at, section_size, extended_fault, sizes_fault, sections_of}

-- V is 1 or 2
abbrev pub IsVersion : ℕ → Type 0
IsVersion version = (version ≡ 1) ⊎ (version ≡ 2)

-- what breaks rule 3.6: a body or an EXT_HEADER_SIZE below 12, a reserved word that is set, sizes that exceed the body
abbrev pub BreaksExtended : Layout → List ℕ → Type 0
BreaksExtended l b =
    (length b < extended_least)
    ⊎ ((be_at 2 0 b < extended_least)
    ⊎ (((l ≡ Old) × (be_at 4 8 b ≡ 0 → ⊥))
    ⊎ (length b < be_at 2 0 b + section_size l b)))

-- in V 2 of the new layout, k is the size of the index of the section s; otherwise nothing is asked
abbrev pub Agrees : Layout → ℕ → ℕ → List ℕ → Type 0
Agrees New version k s = version ≡ 2 → k ≡ index_size_in s
Agrees Old version k s = Unit {0}

pub record BodyTheorems (l : Layout) : Type 0 where
  pub accepted : (v : ℕ) (b : List ℕ) → Bytes b → IsVersion v → extended_fault l v b ≡ 0 → WellSections l v (index_at b) (sections_of l v b)
  pub written_back : (v : ℕ) (b : List ℕ) → Bytes b → IsVersion v → extended_fault l v b ≡ 0 → encode_body l v (index_at b) (sections_of l v b) ≡ b
  pub well_accepted : (v k : ℕ) (x : Sections) → WellSections l v k x → extended_fault l v (encode_body l v k x) ≡ 0
  pub read_back : (v k : ℕ) (x : Sections) → WellSections l v k x → sections_of l v (encode_body l v k x) ≡ x
  pub refused : (b : List ℕ) → BreaksExtended l b → extended_fault l 2 b ≡ 6
  pub agreed : (v k : ℕ) (x : Sections) (s : List ℕ) → WellSections l v k x → Agrees l v k s → sizes_fault l v (encode_body l v k x) s ≡ 0
  pub disagreed : (v k : ℕ) (x : Sections) (s : List ℕ) → WellSections l v k x → (Agrees l v k s → ⊥) → sizes_fault l v (encode_body l v k x) s ≡ 7

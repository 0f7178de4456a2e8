-- The body of a message (rules 3.5 to 3.7), its content and metadata being bytes here. Nothing here reads bytes.
use Rattle.std.specs.Prelude.{ℕ, ◌+◌, ◌-◌, ◌^◌, ◌<◌, ◌≤◌, ◌≡◌, ◌⊎◌, cond, List, [], ◌∷◌, eqb, length}
use Rattle.fields.specs.Bytes.{Bytes}
use Rattle.fields.specs.Numbers.{be_bytes}
use Rattle.fields.specs.Layout.{join}
use Rattle.message.specs.declared.Layout.{Layout}
use Rattle.message.specs.declared.Layout.TheVariants.{New, Old}
use Rattle.message.specs.declared.extended.ExtendedNumbers.{ExtendedNumbers}

-- the bytes of an extended header without further bytes, which is the least EXT_HEADER_SIZE (rule 3.6)
abbrev pub extended_least : ℕ
extended_least = 12

-- MSG_ID, the further bytes of the extended header, the content, the metadata
pub record Sections : Type 0 where
  pub id : ℕ
  pub further : List ℕ
  pub content : List ℕ
  pub metadata : List ℕ

-- the numbers after EXT_HEADER_SIZE, for metadata of m bytes whose index has k. In the new layout: METADATA_HEADER_SIZE, METADATA_SIZE,
-- MSG_ID. In the old: METADATA_SIZE, MSG_ID, reserved
abbrev pub extended_numbers : Layout → ℕ → ℕ → ℕ → ExtendedNumbers
extended_numbers New k m id = record { second = k; third = m - k; fourth = id }
extended_numbers Old k m id = record { second = m; third = id; fourth = 0 }

-- the fields of the extended header, in the order of rule 3.6, and behind them the content and the metadata
abbrev pub extended_fields : Layout → ℕ → Sections → List (List ℕ)
extended_fields l k x =
    be_bytes 2 (extended_least + length x.further)
    ∷ be_bytes 2 (extended_numbers l k (length x.metadata) x.id).second
    ∷ be_bytes 4 (extended_numbers l k (length x.metadata) x.id).third
    ∷ be_bytes 4 (extended_numbers l k (length x.metadata) x.id).fourth
    ∷ x.further
    ∷ x.content
    ∷ x.metadata
    ∷ []

-- V 2: all of these. V 1: the content alone
unfoldable pub encode_body : Layout → ℕ → ℕ → Sections → List ℕ
encode_body l version k x = cond (eqb version 2) (join (extended_fields l k x)) x.content

-- V 1: there is nothing but the content
pub record Plain (x : Sections) : Type 0 where
  pub no_id : x.id ≡ 0
  pub no_further : x.further ≡ []
  pub no_metadata : x.metadata ≡ []

-- the metadata's sizes fit their fields; in the new layout the index is within the metadata
abbrev pub MetadataFits : Layout → ℕ → ℕ → Type 0
MetadataFits New k m = (k ≤ m) × (k < 256 ^ 2) × (m - k < 256 ^ 4)
MetadataFits Old k m = m < 256 ^ 2

-- V 2: the sections fit their size fields
pub record Extended (l : Layout) (k : ℕ) (x : Sections) : Type 0 where
  pub id_fits : x.id < 256 ^ 4
  pub further_bytes : Bytes x.further
  pub further_fits : extended_least + length x.further < 256 ^ 2
  pub metadata_fits : MetadataFits l k (length x.metadata)

-- the sections that a body of this version can have, their metadata's index having k bytes
abbrev pub WellSections : Layout → ℕ → ℕ → Sections → Type 0
WellSections l version k x = ((version ≡ 1) × Plain x) ⊎ ((version ≡ 2) × Extended l k x)

-- What is proved of look-ups: for an accepted section they give its entries, those of the metadata that is written as it.
use Rattle.std.specs.Prelude.{ℕ, ◌+◌, ◌*◌, ◌≡◌, ◌⊎◌, List, [], ◌∷◌, ◌++◌, length}
use Rattle.fields.specs.Bytes.{Bytes}
use Rattle.fields.specs.Lists.{Each, flat}
use Rattle.metadata.specs.Metadata.{Entry, Metadata, absent, section, entry_data, encode_metadata, WellMetadata}
use Rattle.metadata.specs.MetadataCheck.{metadata_fault}
use Rattle.metadata.specs.ValueLookup.{ValuePlace, value_place, value_of}

-- no section has no entries
abbrev pub entries_of : Metadata → List Entry
entries_of absent = []
entries_of (section es) = es

-- these are the entries of an accepted section: well formed metadata with them is written as it
pub record HasEntries (s : List ℕ) (es : List Entry) : Type 0 where
  pub metadata : Metadata
  pub well : WellMetadata metadata
  pub bytes : encode_metadata metadata ≡ s
  pub entries : entries_of metadata ≡ es

-- none of the list has the key
abbrev pub NoneKeyed : List ℕ → List Entry → Type 0
NoneKeyed k es = Each (λ e. e.key ≡ k → ⊥) es

-- e is the first of the list with the key
pub record FirstKeyed (k : List ℕ) (e : Entry) (es : List Entry) : Type 0 where
  pub before : List Entry
  pub after : List Entry
  pub list : before ++ (e ∷ after) ≡ es
  pub keyed : e.key ≡ k
  pub first : NoneKeyed k before

-- where the value of an entry stands in a section: behind INDEX_COUNT, the headers, the keys and values of those before it, and its key
abbrev pub place_among : List Entry → List Entry → Entry → ValuePlace
place_among es before e =
    record {
      number = 0;
      encoding = e.encoding;
      at = 2 + 8 * length es + length (flat entry_data before) + length e.key;
      len = length e.value;
    }

pub record ValueTheorems : Type 0 where
  -- an accepted section has entries
  pub some : (s : List ℕ) → Bytes s → metadata_fault s ≡ 0 → (es : List Entry) × HasEntries s es
  pub place : (s : List ℕ) (es : List Entry) (k : List ℕ) (e : Entry) → HasEntries s es → (f : FirstKeyed k e es) → value_place s k ≡ place_among es f.before e
  pub value : (s : List ℕ) (es : List Entry) (k : List ℕ) (e : Entry) → HasEntries s es → FirstKeyed k e es → value_of s k ≡ e.value
  pub missing : (s : List ℕ) (es : List Entry) (k : List ℕ) → HasEntries s es → NoneKeyed k es
      → value_place s k ≡ record { number = 19; encoding = 0; at = 0; len = 0 }
  pub found_or_none : (k : List ℕ) (es : List Entry) → ((e : Entry) × FirstKeyed k e es) ⊎ NoneKeyed k es
  -- a refused section refuses every look-up, by its number
  pub refused : (s k : List ℕ) → (metadata_fault s ≡ 0 → ⊥) → value_place s k ≡ record { number = metadata_fault s; encoding = 0; at = 0; len = 0 }
  -- the part that comes with a refusal has no bytes (rule 5.6)
  pub empty : (s k : List ℕ) → ((value_place s k).number ≡ 0 → ⊥) → value_of s k ≡ []

-- Look-ups in a metadata section, for any bytes and any key: the number (rule 5.1), VALUE_ENCODING, and where the value stands. The section
-- is judged first; then comes 19 (rule 5.5).
use Rattle.std.specs.Prelude.{ℕ, zero, suc, ◌-◌, cond, List, eqb, length, take, drop, Result, Ok, Err}
use Rattle.fields.specs.Bytes.{part, same}
use Rattle.fields.specs.Fault.{fault_number}
use Rattle.fields.specs.declared.fault.Fault.{Fault}
use Rattle.metadata.specs.declared.ValuePlace.{ValuePlace as DeclaredPlace}
use Rattle.metadata.specs.Metadata.{entry_header_size}
use Rattle.metadata.specs.MetadataCheck.{index_count, key_size, encoding_of, value_size, entry_size, headers_of, data_of, metadata_fault}

-- the number (rule 5.1), VALUE_ENCODING, and where the value stands and how long it is
pub record ValuePlace : Type 0 where
  pub number : ℕ
  pub encoding : ℕ
  pub at : ℕ
  pub len : ℕ

-- all 0 besides the number
abbrev pub refused : ℕ → ValuePlace
refused n = record { number = n; encoding = 0; at = 0; len = 0 }

-- what an answer says
abbrev pub place_of : Result DeclaredPlace Fault → ValuePlace
place_of (Ok p) = record { number = 0; encoding = p.encoding; at = p.at; len = p.len }
place_of (Err f) = refused (fault_number f)

-- the first of k entries whose key is x, by what is left of the headers and of the data of a section of n bytes (rule 3.10)
unfoldable pub place_in : ℕ → ℕ → List ℕ → List ℕ → List ℕ → ValuePlace
place_in n zero h d x = refused 19
place_in n (suc k) h d x =
    cond (same (take (key_size h) d) x)
    (record { number = 0; encoding = encoding_of h; at = n - length (drop (key_size h) d); len = value_size h })
    (place_in n k (drop entry_header_size h) (drop (entry_size h) d) x)

-- the search in a section that is accepted
abbrev pub searched : List ℕ → List ℕ → ValuePlace
searched s x = place_in (length s) (index_count s) (headers_of s) (data_of s) x

-- the look-up
unfoldable pub value_place : List ℕ → List ℕ → ValuePlace
value_place s x = cond (eqb (metadata_fault s) 0) (searched s x) (refused (metadata_fault s))

-- the value: a refusal's is empty (rule 5.6)
abbrev pub value_of : List ℕ → List ℕ → List ℕ
value_of s x = part (value_place s x).len (value_place s x).at s

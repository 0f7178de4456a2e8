-- Metadata (rules 3.8 to 3.11): no section, or a section of entries, and the bytes that it is written as. Nothing here reads bytes.
use Rattle.std.specs.Prelude.{ℕ, ◌+◌, ◌*◌, ◌^◌, ◌<◌, List, [], ◌∷◌, ◌++◌, length}
use Rattle.fields.specs.Bytes.{Bytes}
use Rattle.fields.specs.Lists.{Each, flat}
use Rattle.fields.specs.Numbers.{be_bytes}
use Rattle.fields.specs.Text.{Text}
use Rattle.fields.specs.Layout.{join}
use Rattle.fields.specs.Tables.{counted}

-- a key, VALUE_ENCODING and a value
pub record Entry : Type 0 where
  pub key : List ℕ
  pub encoding : ℕ
  pub value : List ℕ

-- a section without entries is not the same as none (rule 3.11)
pub data Metadata : Type 0 where
  absent : Metadata
  section : List Entry → Metadata

-- how many bytes the header of an entry has (rule 3.8)
abbrev pub entry_header_size : ℕ
entry_header_size = 8

-- the sizes of key and value, with the encoding between them
unfoldable pub entry_header : Entry → List ℕ
entry_header e = join (be_bytes 2 (length e.key) ∷ be_bytes 2 e.encoding ∷ be_bytes 4 (length e.value) ∷ [])

-- the key, and the value behind it
unfoldable pub entry_data : Entry → List ℕ
entry_data e = e.key ++ e.value

-- the count, the headers, and then each key with its value; no section is no bytes
unfoldable pub encode_metadata : Metadata → List ℕ
encode_metadata absent = []
encode_metadata (section es) = counted entry_header es (flat entry_data es)

-- the bytes of INDEX_COUNT and the headers
abbrev pub index_size : Metadata → ℕ
index_size absent = 0
index_size (section es) = 2 + entry_header_size * length es

-- a key is a text of at least one byte; the sizes and the encoding fit their fields
pub record WellEntry (e : Entry) : Type 0 where
  pub key_text : Text e.key
  pub key_some : 0 < length e.key
  pub key_fits : length e.key < 256 ^ 2
  pub encoding_fits : e.encoding < 256 ^ 2
  pub value-bytes : Bytes e.value
  pub value_fits : length e.value < 256 ^ 4

unfoldable pub WellMetadata : Metadata → Type 0
WellMetadata absent = Unit {0}
WellMetadata (section es) = (length es < 256 ^ 2) × Each WellEntry es

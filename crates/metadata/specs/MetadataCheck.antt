-- Check 7: does metadata break rules 3.8 and 3.9? A section by itself may have any length (rule 5.7), and no bytes are no section.
use Rattle.std.specs.Prelude.{ℕ, ◌+◌, ◌*◌, Bool, cond, ◌&&◌, List, eqb, ltb, leb, length, take, drop}
use Rattle.fields.specs.Numbers.{be_at}
use Rattle.fields.specs.Text.{is_text}
use Rattle.fields.specs.Tables.{items_ok}
use Rattle.metadata.specs.Metadata.{entry_header_size}

-- INDEX_COUNT
abbrev pub index_count : List ℕ → ℕ
index_count s = be_at 2 0 s

-- the bytes of INDEX_COUNT and the headers, by INDEX_COUNT
unfoldable pub index_size_in : List ℕ → ℕ
index_size_in s = cond (eqb (length s) 0) 0 (2 + entry_header_size * index_count s)

-- of the entry header at the front of h: KEY_SIZE, VALUE_ENCODING, VALUE_SIZE
abbrev pub key_size : List ℕ → ℕ
key_size h = be_at 2 0 h

abbrev pub encoding_of : List ℕ → ℕ
encoding_of h = be_at 2 2 h

abbrev pub value_size : List ℕ → ℕ
value_size h = be_at 4 4 h

-- the bytes of its key and value
abbrev pub entry_size : List ℕ → ℕ
entry_size h = key_size h + value_size h

-- the entry whose header is at the front of h, and whose key and value are at the front of d: a key of at least one byte, key and value
-- there, and the key a text
unfoldable pub entry_ok : List ℕ → List ℕ → Bool
entry_ok h d = ltb 0 (key_size h) && (leb (entry_size h) (length d) && is_text (take (key_size h) d))

-- k entries, and no byte left over
unfoldable pub entries_ok : ℕ → List ℕ → List ℕ → Bool
entries_ok k h d = items_ok entry_header_size (λ h d. drop (entry_size h) d) entry_ok (λ d. eqb (length d) 0) k h d

-- the entries' headers, and what follows them
abbrev pub headers_of : List ℕ → List ℕ
headers_of s = drop 2 s

abbrev pub data_of : List ℕ → List ℕ
data_of s = drop (2 + entry_header_size * index_count s) s

unfoldable pub section_ok : List ℕ → Bool
section_ok s = leb 2 (length s) && (leb (2 + entry_header_size * index_count s) (length s) && entries_ok (index_count s) (headers_of s) (data_of s))

unfoldable pub metadata_fault : List ℕ → ℕ
metadata_fault s = cond (eqb (length s) 0) 0 (cond (section_ok s) 0 7)

-- The parts of a BIND content, of any bytes, and the check of its layout. A walk goes down the headers (20 bytes a child), the name
-- table and the data, each as what is left of it.
use Rattle.std.specs.Prelude.{ℕ, zero, suc, ◌+◌, ◌*◌, ◌%◌, Bool, true, cond, ◌&&◌, List, eqb, ltb, leb, length, take, drop}
use Rattle.fields.specs.Bytes.{part}
use Rattle.fields.specs.Numbers.{be_at}
use Rattle.fields.specs.Tables.{items_ok}
use Rattle.fields.specs.Text.{text_of, past_text, all_zero, text_ok, field_ok}
use Rattle.fields.specs.Answer.{Checked, checked}
use Rattle.bind_layout.specs.Children.{child_header_size, ctype_size}

-- N_CHILD
abbrev pub child_count : List ℕ → ℕ
child_count s = be_at 2 0 s

-- from the first child's header on
abbrev pub headers : List ℕ → List ℕ
headers s = drop 2 s

-- from NAME_TABLE_SIZE on
abbrev pub after_headers : List ℕ → List ℕ
after_headers s = drop (2 + child_header_size * child_count s) s

-- NAME_TABLE_SIZE
abbrev pub table_size : List ℕ → ℕ
table_size s = be_at 2 0 (after_headers s)

-- the name table
abbrev pub table_of : List ℕ → List ℕ
table_of s = part (table_size s) 2 (after_headers s)

-- the children's data
abbrev pub data_of : List ℕ → List ℕ
data_of s = drop (2 + table_size s) (after_headers s)

-- the text of the first header's CTYPE
abbrev pub type_of : List ℕ → List ℕ
type_of h = text_of (take ctype_size h)

-- the first header's CSIZE
abbrev pub size_of : List ℕ → ℕ
size_of h = be_at 8 12 h

-- what is left of the data after a child of n bytes and its pad
abbrev pub after_block : ℕ → List ℕ → List ℕ
after_block n d = drop (n % 2) (drop n d)

-- ---- the check of the layout (rules 4.9 to 4.12)

-- each CTYPE is a text field (rule 2.4)
unfoldable pub types_ok : ℕ → List ℕ → Bool
types_ok zero h = true
types_ok (suc k) h = text_ok (take ctype_size h) && types_ok k (drop child_header_size h)

-- each CTYPE is clean (rule 2.2)
unfoldable pub types_clean : ℕ → List ℕ → Bool
types_clean zero h = true
types_clean (suc k) h = field_ok (take ctype_size h) && types_clean k (drop child_header_size h)

-- 10 where one is none, and the mark
unfoldable pub types_checked : ℕ → List ℕ → Checked
types_checked n h = checked (cond (types_ok n h) 0 10) (types_clean n h)

-- a text, ended by a 0, stands in front
unfoldable pub name_ok : List ℕ → Bool
name_ok t = ltb (length (text_of t)) (length t) && text_ok t

-- N_CHILD names, then at most one more 0
unfoldable pub names_ok : ℕ → List ℕ → Bool
names_ok zero t = leb (length t) 1 && all_zero t
names_ok (suc k) t = name_ok t && names_ok k (past_text t)

-- with the further 0 (rule 4.10) the size is even
unfoldable pub table_ok : ℕ → List ℕ → Bool
table_ok n t = eqb (length t % 2) 0 && names_ok n t

-- a pad of p bytes stands in front
unfoldable pub pad_ok : ℕ → List ℕ → Bool
pad_ok p d = leb p (length d) && all_zero (take p d)

-- n bytes of data stand in front, and their pad after them (rule 4.11)
unfoldable pub block_ok : ℕ → List ℕ → Bool
block_ok n d = leb n (length d) && pad_ok (n % 2) (drop n d)

-- the data of each child with its pad, that of the last one too, and nothing after it (rule 4.12)
unfoldable pub data_ok : ℕ → List ℕ → List ℕ → Bool
data_ok k h d = items_ok child_header_size (λ h d. after_block (size_of h) d) (λ h d. block_ok (size_of h) d) (λ d. eqb (length d) 0) k h d

unfoldable pub layout_ok : List ℕ → Bool
layout_ok s =
    leb (4 + child_header_size * child_count s + table_size s) (length s)
    && (types_ok (child_count s) (headers s)
    && (table_ok (child_count s) (table_of s)
    && data_ok (child_count s) (headers s) (data_of s)))

-- 10 for each fault of the layout
unfoldable pub layout_fault : List ℕ → ℕ
layout_fault s = cond (layout_ok s) 0 10

-- the number and the mark
unfoldable pub layout_checked : List ℕ → Checked
layout_checked s = checked (layout_fault s) (types_clean (child_count s) (headers s))

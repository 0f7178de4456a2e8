-- The bytes of a content with the rest of each CTYPE zeroed (rule 13.6), at every level of a BIND; of any bytes.
use Rattle.std.specs.Prelude.{ℕ, zero, suc, ◌+◌, ◌%◌, cond, List, [], ◌++◌, eqb, leb, length, take, drop}
use Rattle.std.proofs.lemmas.List.Edits.{sets}
use Rattle.fields.specs.Bytes.{part, same}
use Rattle.fields.specs.Text.{text_bytes}
use Rattle.bind_layout.specs.Children.{child_header_size, ctype_size}
use Rattle.bind_layout.specs.BindLayout.{child_count, headers, after_headers, table_size, data_of, type_of, size_of, after_block, layout_fault}
use Rattle.content.specs.Kinds.{bind_text}
use Rattle.content.specs.ContentCheck.{deepest}

-- the headers of k children: the text of CTYPE, zeros, CSIZE
unfoldable pub clean_headers : ℕ → List ℕ → List ℕ
clean_headers zero h = []
clean_headers (suc k) h = text_bytes ctype_size (type_of h) ++ (part 8 12 h ++ clean_headers k (drop child_header_size h))

-- what stands before the data: N_CHILD, the headers, NAME_TABLE_SIZE and the table
unfoldable pub clean_front : List ℕ → List ℕ
clean_front s = take 2 s ++ (clean_headers (child_count s) (headers s) ++ take (2 + table_size s) (after_headers s))

-- a content of the type with this text, where `bind` cleans a BIND
abbrev pub clean_as : (List ℕ → List ℕ) → List ℕ → List ℕ → List ℕ
clean_as bind t s = cond (same t bind_text) (bind s) s

-- the data of k children, each with its pad
unfoldable pub clean_blocks : (List ℕ → List ℕ) → ℕ → List ℕ → List ℕ → List ℕ
clean_blocks bind zero h d = []
clean_blocks bind (suc k) h d =
    clean_as bind (type_of h) (take (size_of h) d)
    ++ (part (size_of h % 2) (size_of h) d ++ clean_blocks bind k (drop child_header_size h) (after_block (size_of h) d))

-- a BIND where so many levels are left; one too deep, or not laid out as a BIND, stays as it is
unfoldable pub clean_bind : ℕ → List ℕ → List ℕ
clean_bind zero s = s
clean_bind (suc levels) s =
    cond (eqb (layout_fault s) 0) (clean_front s ++ clean_blocks (clean_bind levels) (child_count s) (headers s) (data_of s)) s

unfoldable pub clean_bytes : ℕ → List ℕ → List ℕ → List ℕ
clean_bytes levels t s = clean_as (clean_bind levels) t s

-- so many levels, but not more than a BIND may have (rule 4.15)
abbrev pub bounded_levels : ℕ → ℕ
bounded_levels levels = cond (leb levels deepest) levels deepest

-- the buffer after they are written at a place, cleaned to so many levels; as it was where they do not fit
unfoldable pub clean_put : ℕ → List ℕ → List ℕ → ℕ → List ℕ → List ℕ
clean_put levels t s at out = cond (leb (at + length s) (length out)) (sets out at (clean_bytes (bounded_levels levels) t s)) out

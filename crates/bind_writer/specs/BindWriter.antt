-- The writer of a BIND content: its checks in order (rules 5.4, 5.8 and 5.10), its answer, and the buffer that it leaves.
use Rattle.std.specs.Prelude.{ℕ, Bool, cond, ◌&&◌, List, ◌++◌, map, eqb, leb, length}
use Rattle.fields.specs.Lists.{all_of}
use Rattle.fields.specs.Numbers.{be_bytes, size_limit}
use Rattle.fields.specs.Text.{is_text, text_bytes}
use Rattle.fields.specs.Checks.{or_else}
use Rattle.fields.specs.Writers.{written_by, out_by, WriterPromise}
use Rattle.fields.specs.Answer.{Written}
use Rattle.bind_layout.specs.Children.{ctype_size, Child, padded, name_table, encode_children}
use Rattle.content.specs.ContentCheck.{content_fault, nested_levels}
use Rattle.content.specs.ContentTheorems.{first_fault}
use Rattle.cleaning.specs.CleanBytes.{clean_bytes}
use Rattle.bind_writer.specs.ChildLists.{children}

-- the type is a text that fits its field
abbrev pub type_ok : List ℕ → Bool
type_ok t = leb (length t) ctype_size && is_text t

-- and the name is a text
abbrev pub texts_ok : Child → Bool
texts_ok c = type_ok c.type_text && is_text c.name

-- the count and the name table, with its pad, fit N_CHILD and NAME_TABLE_SIZE, of two bytes each (rule 4.9)
abbrev pub count_fits : List (List ℕ) → Bool
count_fits ts = leb (length ts) size_limit

abbrev pub table_fits : List Child → Bool
table_fits cs = leb (length (name_table cs)) size_limit

-- three lists of one length, of texts that fit, not too many and not too long together
unfoldable pub lists_ok : List (List ℕ) → List (List ℕ) → List (List ℕ) → Bool
lists_ok ts ns ds =
    eqb (length ns) (length ts)
    && (eqb (length ds) (length ts)
    && (count_fits ts
    && (all_of texts_ok (children ts ns ds)
    && table_fits (children ts ns ds))))

-- 10 for each fault of the lists
unfoldable pub lists_fault : List (List ℕ) → List (List ℕ) → List (List ℕ) → ℕ
lists_fault ts ns ds = cond (lists_ok ts ns ds) 0 10

-- the BIND that is written is level 1, its children are level 2
abbrev pub child_fault : Child → ℕ
child_fault c = content_fault nested_levels c.type_text c.content

-- the lists, then the children in order
unfoldable pub given_fault : List (List ℕ) → List (List ℕ) → List (List ℕ) → ℕ
given_fault ts ns ds = or_else (lists_fault ts ns ds) (first_fault child_fault (children ts ns ds))

-- what is written (rule 13.6): a content cleaned, with its type's text, where a BIND is level 2; the children with such contents
abbrev pub clean_content : List ℕ → List ℕ → List ℕ
clean_content t d = clean_bytes nested_levels t d

abbrev pub clean_child : Child → Child
clean_child c = record { type_text = c.type_text; rest = c.rest; name = c.name; content = clean_content c.type_text c.content }

abbrev pub written : List (List ℕ) → List (List ℕ) → List (List ℕ) → List Child
written ts ns ds = map clean_child (children ts ns ds)

abbrev pub bind_bytes : List (List ℕ) → List (List ℕ) → List (List ℕ) → List ℕ
bind_bytes ts ns ds = encode_children (written ts ns ds)

-- a header, and the data with their pad, as the writer puts them
abbrev pub plain_header : Child → List ℕ
plain_header c = text_bytes ctype_size c.type_text ++ be_bytes 8 (length c.content)

abbrev pub clean_data : Child → List ℕ
clean_data c = padded (clean_content c.type_text c.content)

-- the answer for a buffer of this length, and the buffer: the fault of the lists and the children, then 20
abbrev pub bind_written : List (List ℕ) → List (List ℕ) → List (List ℕ) → ℕ → Written
bind_written ts ns ds room = written_by (given_fault ts ns ds) (bind_bytes ts ns ds) room

abbrev pub bind_out : List (List ℕ) → List (List ℕ) → List (List ℕ) → List ℕ → List ℕ
bind_out ts ns ds out = out_by (given_fault ts ns ds) (bind_bytes ts ns ds) out

-- what the writer promises of its answer and of the buffer left
abbrev pub BindPromise : List (List ℕ) → List (List ℕ) → List (List ℕ) → List ℕ → Written → List ℕ → Type 0
BindPromise ts ns ds out answer left = WriterPromise (given_fault ts ns ds) (bind_bytes ts ns ds) out answer left

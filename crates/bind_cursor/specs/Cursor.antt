-- A walk through a BIND content by a cursor (rule 6.4), for any bytes and any cursor. The ends of the content that the walk comes to are
-- kept as places: an end stands at the length of the content less its own.
use Rattle.std.specs.Prelude.{ℕ, ◌-◌, Bool, false, cond, List, eqb, length, drop}
use Rattle.fields.specs.Bytes.{part}
use Rattle.fields.specs.Text.{text_of}
use Rattle.bind_layout.specs.Children.{child_header_size}
use Rattle.bind_layout.specs.BindLayout.{child_count, headers, after_headers, data_of, type_of, size_of, after_block}
use Rattle.content.specs.ContentCheck.{bind_fault, deepest}
use Rattle.bind_lookup.specs.ChildLookup.{mark_of}
use Rattle.bind_cursor.specs.declared.Cursor.{Cursor}

-- from the first name on: the table, and the data after it
abbrev pub names_of : List ℕ → List ℕ
names_of s = drop 2 (after_headers s)

-- at no child: past the last one, or refused with this number
abbrev pub no_child : ℕ → Bool → Cursor
no_child number mark =
    record { number = number; left = 0; type_at = 0; type_len = 0; name_at = 0; name_len = 0; at = 0; len = 0; clean = mark }

-- at the first of so many children, whose headers h, names t and data d are ends of the content
abbrev pub at_child : List ℕ → List ℕ → List ℕ → List ℕ → ℕ → Bool → Cursor
at_child s h t d left mark =
    record {
      number = 0;
      left = left;
      type_at = length s - length h;
      type_len = length (type_of h);
      name_at = length s - length t;
      name_len = length (text_of t);
      at = length s - length d;
      len = size_of h;
      clean = mark;
    }

-- the same, or at none where none is left
unfoldable pub child_at : List ℕ → List ℕ → List ℕ → List ℕ → ℕ → Bool → Cursor
child_at s h t d left mark = cond (eqb left 0) (no_child 0 mark) (at_child s h t d left mark)

-- the content is judged first; the mark of a refusal is false (rule 13.3)
unfoldable pub first_of : List ℕ → Cursor
first_of s =
    cond (eqb (bind_fault deepest s) 0)
    (child_at s (headers s) (names_of s) (data_of s) (child_count s) (mark_of s))
    (no_child (bind_fault deepest s) false)

-- past a header, past a name and its 0, past the data and their pad
unfoldable pub next_of : List ℕ → Cursor → Cursor
next_of s c =
    cond (eqb c.number 0)
    (cond (eqb c.left 0) c (child_at
    s
    (drop child_header_size (drop c.type_at s))
    (drop 1 (drop c.name_len (drop c.name_at s)))
    (after_block c.len (drop c.at s))
    (c.left - 1)
    c.clean))
    c

-- the parts at the cursor's places: of `no_child` they have no bytes
abbrev pub type_part : List ℕ → Cursor → List ℕ
type_part s c = part c.type_len c.type_at s

abbrev pub name_part : List ℕ → Cursor → List ℕ
name_part s c = part c.name_len c.name_at s

abbrev pub data_part : List ℕ → Cursor → List ℕ
data_part s c = part c.len c.at s

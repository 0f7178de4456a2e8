-- A bundle (rules 4.9 to 4.13): a list of children, and the BIND content that it is written as. Nothing here reads bytes.
use Rattle.std.specs.Prelude.{ℕ, ◌%◌, ◌^◌, ◌<◌, ◌≡◌, List, [], ◌∷◌, ◌++◌, length, replicate}
use Rattle.fields.specs.Lists.{Each, flat}
use Rattle.fields.specs.Numbers.{be_bytes}
use Rattle.fields.specs.Text.{Text}
use Rattle.fields.specs.Received.{field_bytes, zeroed, Fills}
use Rattle.fields.specs.Layout.{join}

-- how many bytes a child's header has, and how many its CTYPE has (rule 4.9)
abbrev pub child_header_size : ℕ
child_header_size = 20

abbrev pub ctype_size : ℕ
ctype_size = 12

-- a child: the text of its type and the rest of that field (rule 2.4), its name, and its content as bytes
pub record Child : Type 0 where
  pub type_text : List ℕ
  pub rest : List ℕ
  pub name : List ℕ
  pub content : List ℕ

-- the bytes, and one 0 after them where their number is odd
unfoldable pub padded : List ℕ → List ℕ
padded x = x ++ replicate (length x % 2) 0

-- CTYPE, a text field, and CSIZE
unfoldable pub child_header : Child → List ℕ
child_header c = field_bytes ctype_size c.type_text c.rest ++ be_bytes 8 (length c.content)

-- a name of the table, ended by one 0
abbrev pub ended : List ℕ → List ℕ
ended name = name ++ (0 ∷ [])

unfoldable pub child_name : Child → List ℕ
child_name c = ended c.name

-- a child's data with its pad (rule 4.11)
unfoldable pub child_data : Child → List ℕ
child_data c = padded c.content

-- the name table: the names, and a 0 that makes the number of bytes even (rule 4.10)
unfoldable pub name_table : List Child → List ℕ
name_table cs = padded (flat child_name cs)

-- the fields of rule 4.9: the number of children, their headers, the bytes of the name table, the table itself, and the data
unfoldable pub encode_children : List Child → List ℕ
encode_children cs =
    join
    (be_bytes 2 (length cs)
    ∷ flat child_header cs
    ∷ be_bytes 2 (length (name_table cs))
    ∷ name_table cs
    ∷ flat child_data cs
    ∷ [])

-- type and name are texts, and the type and the size fit their fields. What the type asks of the content is not said here
pub record WellChild (c : Child) : Type 0 where
  pub type_fills : Fills ctype_size c.type_text c.rest
  pub name_text : Text c.name
  pub size_fits : length c.content < 256 ^ 8

-- children that can be written: besides, their number and the table's size fit their fields
pub record WellBundle (cs : List Child) : Type 0 where
  pub count_fits : length cs < 256 ^ 2
  pub table_fits : length (name_table cs) < 256 ^ 2
  pub each : Each WellChild cs

-- the rest of its CTYPE is zeros
abbrev pub CleanChild : Child → Type 0
CleanChild c = c.rest ≡ zeroed c.rest

-- A BIND of two children byte by byte, written and judged; contents that differ from it in a few bytes are 10.
use Rattle.std.specs.Prelude.{ℕ, ◌≡◌, Bool, true, false, List, [], ◌∷◌, ◌++◌, map, replicate}
use Rattle.std.proofs.lemmas.List.Edits.{sets}
use Rattle.bind_layout.specs.Children.{Child, encode_children}
use Rattle.bind_layout.specs.BindLayout.{child_count, headers, table_of, data_of, type_of, size_of, after_block, layout_fault, layout_checked}

-- type "PQ", name "A", 3 bytes; type "RST", name "BC", 1 byte. The names and their zeros are 5 bytes
abbrev pub first : Child
first = record { type_text = 0x50 ∷ 0x51 ∷ []; rest = replicate 10 0; name = 0x41 ∷ []; content = 0x61 ∷ 0x62 ∷ 0x63 ∷ [] }

abbrev pub second : Child
second = record { type_text = 0x52 ∷ 0x53 ∷ 0x54 ∷ []; rest = replicate 9 0; name = 0x42 ∷ 0x43 ∷ []; content = 0x71 ∷ [] }

-- N_CHILD, CTYPE and CSIZE of each child
abbrev pub front : List ℕ
front =
    0 ∷ 2
    ∷ 0x50 ∷ 0x51 ∷ 0 ∷ 0 ∷ 0 ∷ 0 ∷ 0 ∷ 0 ∷ 0 ∷ 0 ∷ 0 ∷ 0
    ∷ 0 ∷ 0 ∷ 0 ∷ 0 ∷ 0 ∷ 0 ∷ 0 ∷ 3
    ∷ 0x52 ∷ 0x53 ∷ 0x54 ∷ 0 ∷ 0 ∷ 0 ∷ 0 ∷ 0 ∷ 0 ∷ 0 ∷ 0 ∷ 0
    ∷ 0 ∷ 0 ∷ 0 ∷ 0 ∷ 0 ∷ 0 ∷ 0 ∷ 1
    ∷ []

-- NAME_TABLE_SIZE and the table; the data with their pads
abbrev pub table : List ℕ
table = 0 ∷ 6 ∷ 0x41 ∷ 0 ∷ 0x42 ∷ 0x43 ∷ 0 ∷ 0 ∷ []

abbrev pub blocks : List ℕ
blocks = 0x61 ∷ 0x62 ∷ 0x63 ∷ 0 ∷ 0x71 ∷ 0 ∷ []

abbrev pub two_children : List ℕ
two_children = front ++ (table ++ blocks)

-- the same children, the first with bytes behind the 0 of its CTYPE (rule 2.4)
abbrev pub uncleared : Child
uncleared =
    record {
      type_text = 0x50 ∷ 0x51 ∷ [];
      rest = 0 ∷ 0xFF ∷ 0x80 ∷ 0 ∷ 0x41 ∷ 0 ∷ 0 ∷ 0 ∷ 0 ∷ 1 ∷ [];
      name = 0x41 ∷ [];
      content = 0x61 ∷ 0x62 ∷ 0x63 ∷ [];
    }

-- its number with this byte at a place, with another table, with other data
abbrev pub changed : ℕ → ℕ → ℕ
changed at b = layout_fault (sets two_children at (b ∷ []))

abbrev pub marked : ℕ → ℕ → Bool
marked at b = (layout_checked (sets two_children at (b ∷ []))).clean

abbrev pub tabled : List ℕ → ℕ
tabled t = layout_fault (front ++ (t ++ blocks))

abbrev pub filled : List ℕ → ℕ
filled d = layout_fault (front ++ (table ++ d))

pub record Examples : Type 0 where
  pub written : encode_children (first ∷ second ∷ []) ≡ two_children
  pub accepted : layout_fault two_children ≡ 0
  -- its parts
  pub count_read : child_count two_children ≡ 2
  pub type_read : type_of (headers two_children) ≡ 0x50 ∷ 0x51 ∷ []
  pub size_read : size_of (headers two_children) ≡ 3
  pub table_read : table_of two_children ≡ 0x41 ∷ 0 ∷ 0x42 ∷ 0x43 ∷ 0 ∷ 0 ∷ []
  pub data_read : data_of two_children ≡ blocks
  pub second_read : after_block 3 blocks ≡ 0x71 ∷ 0 ∷ []
  -- another N_CHILD; a CTYPE with a byte 128 before its first 0; a CSIZE too large, or 2^63 more
  pub counts : map (changed 1) (0 ∷ 1 ∷ 2 ∷ 3 ∷ []) ≡ 10 ∷ 10 ∷ 0 ∷ 10 ∷ []
  pub types : changed 2 128 ∷ changed 3 255 ∷ changed 22 128 ∷ changed 24 128 ∷ [] ≡ replicate 4 10
  pub sizes : changed 21 5 ∷ changed 14 128 ∷ changed 41 3 ∷ changed 34 128 ∷ [] ≡ replicate 4 10
  -- a byte behind the first 0 of either CTYPE is accepted, and not clean; a refusal is not clean either
  pub uncleared_types : changed 5 128 ∷ changed 13 1 ∷ changed 26 255 ∷ changed 33 1 ∷ [] ≡ replicate 4 0
  pub marks : marked 1 2 ∷ marked 5 128 ∷ marked 13 1 ∷ marked 26 255 ∷ marked 33 1 ∷ marked 2 128 ∷ marked 1 3 ∷ []
      ≡ true ∷ replicate 6 false
  -- a 0 at the front of a CTYPE: the empty text, with bytes behind it
  pub empty_type : layout_checked (sets two_children 2 (0 ∷ [])) ≡ record { number = 0; clean = false }
  pub uncleared_written : encode_children (uncleared ∷ second ∷ [])
      ≡ sets two_children 4 (0 ∷ 0xFF ∷ 0x80 ∷ 0 ∷ 0x41 ∷ 0 ∷ 0 ∷ 0 ∷ 0 ∷ 1 ∷ [])
  -- a CSIZE of 2^64 - 1, which is 0 with its pad in 64 bits
  pub wide_sizes : map (λ at. layout_fault (sets two_children at (replicate 8 255))) (14 ∷ 34 ∷ []) ≡ 10 ∷ 10 ∷ []
  -- the table without its pad, with two more zeros, with a pad that is not 0, with a byte 128, with a name less
  pub tables : map tabled
      ((0 ∷ 5 ∷ 0x41 ∷ 0 ∷ 0x42 ∷ 0x43 ∷ 0 ∷ [])
      ∷ (0 ∷ 8 ∷ 0x41 ∷ 0 ∷ 0x42 ∷ 0x43 ∷ 0 ∷ 0 ∷ 0 ∷ 0 ∷ [])
      ∷ (0 ∷ 6 ∷ 0x41 ∷ 0 ∷ 0x42 ∷ 0x43 ∷ 0 ∷ 1 ∷ [])
      ∷ (0 ∷ 6 ∷ 0x80 ∷ 0 ∷ 0x42 ∷ 0x43 ∷ 0 ∷ 0 ∷ [])
      ∷ (0 ∷ 6 ∷ 0x41 ∷ 0x41 ∷ 0x42 ∷ 0x43 ∷ 0x43 ∷ 0 ∷ [])
      ∷ [])
      ≡ replicate 5 10
  -- names of an even total have no pad; both may be empty
  pub even_tables : tabled (0 ∷ 6 ∷ 0x41 ∷ 0 ∷ 0x42 ∷ 0x43 ∷ 0x44 ∷ 0 ∷ []) ∷ tabled (0 ∷ 2 ∷ 0 ∷ 0 ∷ []) ∷ [] ≡ 0 ∷ 0 ∷ []
  -- the data: either pad not 0, either missing, both missing, a byte left over
  pub other_data : map filled
      ((0x61 ∷ 0x62 ∷ 0x63 ∷ 1 ∷ 0x71 ∷ 0 ∷ [])
      ∷ (0x61 ∷ 0x62 ∷ 0x63 ∷ 0 ∷ 0x71 ∷ 1 ∷ [])
      ∷ (0x61 ∷ 0x62 ∷ 0x63 ∷ 0x71 ∷ 0 ∷ [])
      ∷ (0x61 ∷ 0x62 ∷ 0x63 ∷ 0 ∷ 0x71 ∷ [])
      ∷ (0x61 ∷ 0x62 ∷ 0x63 ∷ 0x71 ∷ [])
      ∷ (0x61 ∷ 0x62 ∷ 0x63 ∷ 0 ∷ 0x71 ∷ 0 ∷ 0 ∷ [])
      ∷ [])
      ≡ replicate 6 10
  -- 256 children, without types, names and data
  pub many_children : layout_fault (1 ∷ 0 ∷ (replicate 5120 0 ++ (1 ∷ 0 ∷ replicate 256 0))) ≡ 0
  -- without children: whole, cut off, with a byte left over, with a table; no bytes at all
  pub no-children : map layout_fault
      ((0 ∷ 0 ∷ 0 ∷ 0 ∷ []) ∷ (0 ∷ 0 ∷ 0 ∷ []) ∷ (0 ∷ 0 ∷ 0 ∷ 0 ∷ 0 ∷ []) ∷ (0 ∷ 0 ∷ 0 ∷ 2 ∷ 0 ∷ 0 ∷ []) ∷ [] ∷ [])
      ≡ 0 ∷ 10 ∷ 10 ∷ 10 ∷ 10 ∷ []

-- Walks through contents given byte by byte: each cursor with all its numbers, and what is handed out.
use Rattle.std.specs.Prelude.{ℕ, ◌≡◌, true, false, List, [], ◌∷◌, ◌++◌, map, replicate}
use Rattle.bind_layout.specs.Examples.{two_children}
use Rattle.content.specs.Examples.{no_children}
use Rattle.bind_lookup.specs.Examples.{faulty_child}
use Rattle.bind_cursor.specs.declared.Cursor.{Cursor}
use Rattle.bind_cursor.specs.Cursor.{no_child, first_of, next_of, type_part, name_part, data_part}
use Rattle.bind_cursor.specs.CursorTheorems.{after, walked}

-- three children: type "P", name "AB", 61 62 63; type "QRS", no name, no data; type "T" with bytes FF behind it, name "CD", 71. The
-- names are 7 bytes, so a 0 follows them
abbrev pub three : List ℕ
three =
    0 ∷ 3
    ∷ (0x50 ∷ replicate 18 0) ++ (3
    ∷ 0x51 ∷ 0x52 ∷ 0x53 ∷ replicate 17 0 ++ (
    0x54 ∷ 0 ∷ replicate 10 0xFF ++ (replicate 7 0 ++ (1
    ∷ 0 ∷ 8 ∷ 0x41 ∷ 0x42 ∷ 0 ∷ 0 ∷ 0x43 ∷ 0x44 ∷ 0 ∷ 0
    ∷ 0x61 ∷ 0x62 ∷ 0x63 ∷ 0 ∷ 0x71 ∷ 0
    ∷ []))))

-- a cursor that is of no content
abbrev pub anywhere : ℕ → ℕ → Cursor
anywhere number left =
    record { number = number; left = left; type_at = 1; type_len = 9; name_at = 2; name_len = 1; at = 2; len = 1; clean = true }

abbrev pub six_bytes : List ℕ
six_bytes = 1 ∷ 2 ∷ 3 ∷ 4 ∷ 5 ∷ 6 ∷ []

pub record Examples : Type 0 where
  -- each child, and twice past the last one
  pub cursors : map (λ n. after n three) (0 ∷ 1 ∷ 2 ∷ 3 ∷ 4 ∷ [])
      ≡ record { number = 0; left = 3; type_at = 2; type_len = 1; name_at = 64; name_len = 2; at = 72; len = 3; clean = false }
      ∷ record { number = 0; left = 2; type_at = 22; type_len = 3; name_at = 67; name_len = 0; at = 76; len = 0; clean = false }
      ∷ record { number = 0; left = 1; type_at = 42; type_len = 1; name_at = 68; name_len = 2; at = 76; len = 1; clean = false }
      ∷ replicate 2 (no_child 0 false)
  pub walk : walked 9 three (first_of three)
      ≡ record { type = 0x50 ∷ []; name = 0x41 ∷ 0x42 ∷ []; content = 0x61 ∷ 0x62 ∷ 0x63 ∷ [] }
      ∷ record { type = 0x51 ∷ 0x52 ∷ 0x53 ∷ []; name = []; content = [] }
      ∷ record { type = 0x54 ∷ []; name = 0x43 ∷ 0x44 ∷ []; content = 0x71 ∷ [] }
      ∷ []
  -- clean texts: two children, and none
  pub clean : map (λ n. after n two_children) (0 ∷ 1 ∷ 2 ∷ [])
      ≡ record { number = 0; left = 2; type_at = 2; type_len = 2; name_at = 44; name_len = 1; at = 50; len = 3; clean = true }
      ∷ record { number = 0; left = 1; type_at = 22; type_len = 3; name_at = 46; name_len = 2; at = 54; len = 1; clean = true }
      ∷ no_child 0 true
      ∷ []
  -- a last child without type, name and data has its places
  pub bare : map (λ n. after n (0 ∷ 1 ∷ replicate 20 0 ++ (0 ∷ 2 ∷ 0 ∷ 0 ∷ []))) (0 ∷ 1 ∷ [])
      ≡ record { number = 0; left = 1; type_at = 2; type_len = 0; name_at = 24; name_len = 0; at = 26; len = 0; clean = true }
      ∷ no_child 0 true
      ∷ []
  pub none : map (λ n. after n no_children) (0 ∷ 1 ∷ []) ≡ replicate 2 (no_child 0 true)
  -- a byte left over refuses the content, and so does a child of type BIND that is none
  pub refused : map (λ n. after n (three ++ (0 ∷ []))) (0 ∷ 1 ∷ []) ≡ replicate 2 (no_child 10 false)
  pub refused_inside : map (λ n. after n faulty_child) (0 ∷ 1 ∷ []) ≡ replicate 2 (no_child 10 false)
  -- any cursor, on any bytes: its parts and its next; refused, or with no child left, it stays
  pub parts : map (λ f. f six_bytes (anywhere 0 7)) (type_part ∷ name_part ∷ data_part ∷ []) ≡ (2 ∷ 3 ∷ 4 ∷ 5 ∷ 6 ∷ []) ∷ (3 ∷ []) ∷ (3 ∷ []) ∷ []
  pub next : next_of six_bytes (anywhere 0 7)
      ≡ record { number = 0; left = 6; type_at = 6; type_len = 0; name_at = 4; name_len = 2; at = 4; len = 0; clean = true }
  pub stays : map (next_of six_bytes) (anywhere 7 3 ∷ anywhere 0 0 ∷ []) ≡ anywhere 7 3 ∷ anywhere 0 0 ∷ []

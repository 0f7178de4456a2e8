-- Examples of the book, with any reader of demand 2: what bytes are read as; the number of each call on books that are written out, and the
-- book after it; which messages count, and their values. They fix the numbers, the limits and the order of the checks (rules 7.3 to 7.9).
use Rattle.std.specs.Prelude.{ℕ, zero, suc, ◌-◌, ◌≡◌, true, false, List, [], ◌∷◌, ◌++◌, map, length, take, replicate}
use Rattle.std.proofs.Math.Option.{Option, none, some}
use Rattle.fields.specs.Bytes.{Bytes}
use Rattle.fields.specs.Lists.{Each}
use Rattle.content.specs.Kinds.{transform_text, position_text, image_text}
use Rattle.content.specs.Tree.{Content, position, other, type_text}
use Rattle.message.specs.declared.Layout.{Layout}
use Rattle.message.specs.declared.Layout.TheVariants.{New, Old}
use Rattle.message.specs.Message.{Message}
use Rattle.message.specs.MessageReader.{read_of}
use Rattle.message.specs.Samples.{arm_text, arm_message, arm_bytes, arm_content, zero_bytes, probe_message, probe_bytes, point_text, point_words, point_message, point_bytes, point_content, status_text, layouts, other_than}
use Rattle.history.specs.Calls.{Call, add, link_up, link_down, message, look, Entry, OfBytes}
use Rattle.history.specs.Reading.{no_message, left_over, one_message, Reader}
use Rattle.history.specs.Summary.{Summary, fresh_summary, counts_on, fault_by, fault_on, next, summary_of}
use Rattle.history.specs.History.{value_for}
use Rattle.history.specs.Examples.{name_of}

-- ---- the books

abbrev pub book_of : List (Option Entry) → Option Layout → ℕ → Summary
book_of tiles up clock = record { tiles = tiles; link = record { up = up; clock = clock } }

-- a tile with this type and name, and the hold time 500
abbrev pub tile_of : List ℕ → List ℕ → Entry
tile_of type name = record { type_text = type; name = name; hold_time = 500 }

-- n TRANSFORM tiles; their names have 1 to n bytes
abbrev pub tiles_to : ℕ → List (Option Entry)
tiles_to zero = []
tiles_to (suc n) = tiles_to n ++ (some (tile_of transform_text (name_of (suc n))) ∷ [])

-- one tile: TRANSFORM, "Arm"
abbrev pub arm_tile : Entry
arm_tile = tile_of transform_text arm_text

abbrev pub arm_tiles : List (Option Entry)
arm_tiles = some arm_tile ∷ []

-- a tile of each type, both with this name
abbrev pub both_types : List ℕ → List (Option Entry)
both_types name = some (tile_of transform_text name) ∷ some (tile_of position_text name) ∷ []

-- one TRANSFORM tile of this name
abbrev pub one_named : List ℕ → List (Option Entry)
one_named name = some (tile_of transform_text name) ∷ []

-- names that are not "Arm": "arm", "Arn", "Ar", "Arm "
abbrev pub other_names : List (List ℕ)
other_names = (97 ∷ 114 ∷ 109 ∷ []) ∷ (65 ∷ 114 ∷ 110 ∷ []) ∷ (65 ∷ 114 ∷ []) ∷ (65 ∷ 114 ∷ 109 ∷ 32 ∷ []) ∷ []

-- the tile, link up at 1000 in the new layout, its message at 1200
abbrev pub arm_bytes_calls : List Call
arm_bytes_calls = add transform_text arm_text 500 ∷ link_up New 1000 ∷ message 1200 arm_bytes ∷ []

-- ---- the messages

-- from "Arm" in V 1, with this content; with a POSITION of these words; with a content of this type that has no bytes
abbrev pub arm_with : Content → Message
arm_with x =
    record {
      version = 1;
      type_rest = replicate (12 - length (type_text x)) 0;
      device_name = arm_text;
      name_rest = replicate 17 0;
      time_stamp = 0;
      id = 0;
      further = [];
      content = x;
      metadata = arm_message.metadata;
    }

abbrev pub position_of : List ℕ → Message
position_of ws = arm_with (position ws)

abbrev pub other_of : List ℕ → Message
other_of type = arm_with (other type [])

-- POSITIONs have 3, 6 or 7 words
abbrev pub words_of_positions : List (List ℕ)
words_of_positions = take 3 point_words ∷ point_words ∷ (point_words ++ (7 ∷ [])) ∷ []

-- the name that differs from that of the POSITION in V 2 in its last byte
abbrev pub other_point : List ℕ
other_point = take 19 point_text ++ (85 ∷ [])

-- ---- what the bytes of message calls are

-- the message from "Arm" with another last byte
abbrev pub damaged_bytes : List ℕ
damaged_bytes = take 105 arm_bytes ++ (0 ∷ [])

-- 57 bytes; another CRC; whatever the reader refuses, with its number; a message and one byte more, a 0 or a message more; one message
pub record Read (R : Reader) (l : Layout) : Type 0 where
  pub short : R.read l (take 57 arm_bytes) ≡ no_message 1
  pub damaged : R.read l damaged_bytes ≡ no_message 5
  pub every_refusal : (s : List ℕ) → Bytes s → ((read_of l s).number ≡ 0 → ⊥) → R.read l s ≡ no_message (read_of l s).number
  pub more : R.read l (arm_bytes ++ (7 ∷ [])) ≡ left_over
  pub zero_more : R.read l (arm_bytes ++ (0 ∷ [])) ≡ left_over
  pub message_more : R.read l (arm_bytes ++ zero_bytes) ≡ left_over
  pub other_more : R.read l (probe_bytes l ++ (7 ∷ [])) ≡ left_over
  pub arm : R.read l arm_bytes ≡ one_message arm_message
  pub probe : R.read l (probe_bytes l) ≡ one_message probe_message
  pub point : R.read l (point_bytes l) ≡ one_message point_message
  -- the same message in the bytes of the other layout
  pub other-point : R.read (other_than l) (point_bytes l) ≡ no_message 6

module _ (R : Reader) where
  -- the numbers of these calls, each made on the same book
  abbrev pub numbers_on : Summary → List Call → List ℕ
  numbers_on b cs = map (fault_on R b) cs

  -- the books after them
  abbrev pub books_after : Summary → List Call → List Summary
  books_after b cs = map (next R b) cs

  pub record OnBooks : Type 0 where
    -- fifteen tiles: there is room for a sixteenth; another type is another tile; 17; 16 before 17
    pub fifteen : numbers_on (book_of (tiles_to 15) none 0)
        (add transform_text (name_of 16) 500
        ∷ add position_text (name_of 15) 500
        ∷ add transform_text (name_of 15) 500
        ∷ add transform_text (name_of 15) 0
        ∷ [])
        ≡ 0 ∷ 0 ∷ 17 ∷ 16 ∷ []
    -- sixteen: 18; 17 before 18, of the first tile and the last; 16 before 18, by the hold time, the type and the name
    pub sixteen : numbers_on (book_of (tiles_to 16) none 0)
        (add transform_text (name_of 17) 500
        ∷ add transform_text (name_of 1) 500
        ∷ add transform_text (name_of 16) 500
        ∷ add transform_text (name_of 17) 0
        ∷ add image_text (name_of 17) 500
        ∷ add transform_text [] 500
        ∷ [])
        ≡ 18 ∷ 17 ∷ 17 ∷ 16 ∷ 16 ∷ 16 ∷ []
    -- another hold time is no other tile
    pub other-hold-time : fault_on R (book_of arm_tiles none 0) (add transform_text arm_text 501) ≡ 17
    -- the other type is another tile, and then each of the two is there
    pub types : map (λ t. fault_on R (book_of (some (tile_of t arm_text) ∷ []) none 0) (add transform_text arm_text 500)) (position_text ∷ transform_text ∷ [])
        ≡ 0 ∷ 17 ∷ []
    pub both-types : numbers_on (book_of (both_types arm_text) none 0) (add transform_text arm_text 500 ∷ add position_text arm_text 500 ∷ []) ≡ 17 ∷ 17 ∷ []
    -- another name is another tile; names of 19 and 20 bytes; another last byte
    pub names : map (λ n. fault_on R (book_of arm_tiles none 0) (add transform_text n 500)) other_names ≡ replicate 4 0
    pub long-names : numbers_on (book_of (one_named (name_of 19)) none 0)
        (add transform_text (name_of 20) 500 ∷ add transform_text (name_of 19) 500 ∷ [])
        ≡ 0 ∷ 17 ∷ []
    pub last_byte : fault_on R (book_of (one_named other_point) none 0) (add transform_text point_text 500) ≡ 0
    -- link calls: 15, and nothing else, whether the link is up or down
    pub links : numbers_on (book_of arm_tiles (some New) 1200) (link_up New 1199 ∷ link_up New 1200 ∷ link_down 1199 ∷ link_down 1200 ∷ []) ≡ 15 ∷ 0 ∷ 15 ∷ 0 ∷ []
    pub links-down : numbers_on (book_of arm_tiles none 1200) (link_up New 1199 ∷ link_up New 1200 ∷ link_down 1199 ∷ link_down 1200 ∷ [])
        ≡ 15 ∷ 0 ∷ 15 ∷ 0 ∷ []
    -- message calls while the link is up: 15, before the reader's number, 12 and 13; the reader's number; 12, also where no tile has its name
    -- and type; 13; it counts
    pub messages-up : numbers_on (book_of arm_tiles (some New) 1200)
        (message 1199 damaged_bytes
        ∷ message 1199 (arm_bytes ++ (7 ∷ []))
        ∷ message 1199 (probe_bytes New)
        ∷ message 1200 (take 57 arm_bytes)
        ∷ message 1200 damaged_bytes
        ∷ message 1200 (arm_bytes ++ (7 ∷ []))
        ∷ message 1200 (probe_bytes New ++ (7 ∷ []))
        ∷ message 1200 (probe_bytes New)
        ∷ message 1200 arm_bytes
        ∷ [])
        ≡ 15 ∷ 15 ∷ 15 ∷ 1 ∷ 5 ∷ 12 ∷ 12 ∷ 13 ∷ 0 ∷ []
    -- whatever the reader refuses, with its number, whichever tiles there are
    pub messages-refused : (l : Layout) (ts : List (Option Entry)) (s : List ℕ) → Bytes s → ((read_of l s).number ≡ 0 → ⊥)
        → fault_on R (book_of ts (some l) 0) (message 0 s) ≡ (read_of l s).number
    -- while it is down: 15 before 14; 14 before the reader's number, before 12 and 13
    pub messages-down : numbers_on (book_of arm_tiles none 1200)
        (message 1199 arm_bytes
        ∷ message 1200 arm_bytes
        ∷ message 1200 damaged_bytes
        ∷ message 1200 (arm_bytes ++ (7 ∷ []))
        ∷ message 1200 (probe_bytes New)
        ∷ [])
        ≡ 15 ∷ 14 ∷ 14 ∷ 14 ∷ 14 ∷ []
    pub messages-none : fault_on R (book_of [] none 0) (message 0 arm_bytes) ≡ 14
    -- no tile has its name and type: no tile at all; another type; other names
    pub messages-unknown : fault_on R (book_of [] (some New) 0) (message 0 arm_bytes)
        ∷ fault_on R (book_of (some (tile_of position_text arm_text) ∷ []) (some New) 0) (message 0 arm_bytes)
        ∷ fault_on R (book_of (some (tile_of transform_text (name_of 3)) ∷ []) (some New) 0) (message 0 arm_bytes)
        ∷ []
        ≡ 13 ∷ 13 ∷ 13 ∷ []
    pub messages-named : map (λ n. fault_on R (book_of (one_named n) (some New) 0) (message 0 arm_bytes)) other_names ≡ replicate 4 13
    -- a POSITION in V 2, from a name of 20 bytes: another type; 19 bytes of the name; another last byte; it counts, also beside a tile of the
    -- other type
    pub messages-point : map (λ ts. fault_on R (book_of ts (some New) 0) (message 0 (point_bytes New)))
        ((some (tile_of transform_text point_text) ∷ [])
        ∷ (some (tile_of position_text (take 19 point_text)) ∷ [])
        ∷ (some (tile_of position_text other_point) ∷ [])
        ∷ (some (tile_of position_text point_text) ∷ [])
        ∷ both_types point_text
        ∷ [])
        ≡ 13 ∷ 13 ∷ 13 ∷ 0 ∷ 0 ∷ []
    -- by the layout of the link (rule 7.11): a message in each layout
    pub messages-layout : map (λ l. numbers_on (book_of (both_types point_text) (some l) 0) (message 0 (point_bytes New) ∷ message 0 (point_bytes Old) ∷ [])) layouts
        ≡ (0 ∷ 6 ∷ []) ∷ (6 ∷ 0 ∷ []) ∷ []
    -- the last of sixteen tiles has its name and type
    pub messages-last : fault_on R (book_of (tiles_to 15 ++ arm_tiles) (some New) 0) (message 0 arm_bytes) ≡ 0
    -- looks: tile 15 of sixteen; 19; 19 before 15; 15. The link does not matter
    pub looks : numbers_on (book_of (tiles_to 16) none 1200) (look 15 1200 ∷ look 16 1200 ∷ look 16 1199 ∷ look 15 1199 ∷ [])
        ≡ 0 ∷ 19 ∷ 19 ∷ 15 ∷ []
    -- all bits of a number count
    pub wide-looks : numbers_on (book_of arm_tiles (some New) 0)
        (look 0 0 ∷ look 256 0 ∷ look 65536 0 ∷ look 4294967296 0 ∷ look 0xFFFFFFFFFFFFFFFF 0 ∷ [])
        ≡ 0 ∷ 19 ∷ 19 ∷ 19 ∷ 19 ∷ []
    -- what is noted: an add's tile, after the others; link and clock of a link call; the clock of a message that counts; nothing of a look
    pub added : next R (book_of arm_tiles (some New) 1200) (add position_text arm_text 60000)
        ≡ book_of (some arm_tile ∷ some (record { type_text = position_text; name = arm_text; hold_time = 60000 }) ∷ []) (some New) 1200
    pub linked : books_after (book_of arm_tiles (some New) 1200) (link_up New 1300 ∷ link_down 1300 ∷ [])
        ≡ book_of arm_tiles (some New) 1300 ∷ book_of arm_tiles none 1300 ∷ []
    pub linked-down : books_after (book_of arm_tiles none 1200) (link_up New 1300 ∷ link_down 1300 ∷ [])
        ≡ book_of arm_tiles (some New) 1300 ∷ book_of arm_tiles none 1300 ∷ []
    pub linked-at-once : books_after (book_of arm_tiles (some New) 1200) (link_up New 1200 ∷ link_down 1200 ∷ [])
        ≡ book_of arm_tiles (some New) 1200 ∷ book_of arm_tiles none 1200 ∷ []
    pub linked-late : books_after (book_of arm_tiles (some New) 1200) (link_up New 0xFFFFFFFFFFFFFFFF ∷ message 4294967296 arm_bytes ∷ [])
        ≡ book_of arm_tiles (some New) 0xFFFFFFFFFFFFFFFF ∷ book_of arm_tiles (some New) 4294967296 ∷ []
    pub counted : books_after (book_of arm_tiles (some New) 1200) (message 1300 arm_bytes ∷ look 0 1300 ∷ [])
        ≡ book_of arm_tiles (some New) 1300 ∷ book_of arm_tiles (some New) 1200 ∷ []
    -- nothing of a refused call: 16 and 17; 15 and 15; 15, 5, 12 and 13; 19; then 18; 14
    pub refused : books_after (book_of arm_tiles (some New) 1200)
        (add position_text arm_text 0
        ∷ add transform_text arm_text 500
        ∷ link_up New 1199
        ∷ link_down 1199
        ∷ message 1199 arm_bytes
        ∷ message 1300 damaged_bytes
        ∷ message 1300 (arm_bytes ++ (7 ∷ []))
        ∷ message 1300 (probe_bytes New)
        ∷ look 1 1300
        ∷ [])
        ≡ replicate 9 (book_of arm_tiles (some New) 1200)
    pub refused_full : next R (book_of (tiles_to 16) (some New) 0) (add transform_text (name_of 17) 500) ≡ book_of (tiles_to 16) (some New) 0
    pub refused-down : next R (book_of arm_tiles none 1200) (message 1300 arm_bytes) ≡ book_of arm_tiles none 1200
    -- a link up names its layout, also where the link is up; a refused one names nothing, nor does any other call
    pub switched : map (summary_of R)
        ((link_up Old 10 ∷ [])
        ∷ (link_up Old 10 ∷ link_up New 10 ∷ [])
        ∷ (link_up New 10 ∷ link_up Old 11 ∷ [])
        ∷ (link_up Old 10 ∷ link_up New 9 ∷ [])
        ∷ (link_up Old 10 ∷ link_down 11 ∷ [])
        ∷ (link_up Old 10 ∷ link_down 11 ∷ link_up New 12 ∷ [])
        ∷ (link_up New 10 ∷ link_down 9 ∷ look 0 11 ∷ [])
        ∷ [])
        ≡ book_of [] (some Old) 10
        ∷ book_of [] (some New) 10
        ∷ book_of [] (some Old) 11
        ∷ book_of [] (some Old) 10
        ∷ book_of [] none 11
        ∷ book_of [] (some New) 12
        ∷ book_of [] (some New) 10
        ∷ []
    -- the book after a sequence of calls
    pub arm : summary_of R arm_bytes_calls ≡ book_of arm_tiles (some New) 1200
    -- a message while the link is down, an add, a link up, a message, a look, another add
    pub after : summary_of R
        (message 900 arm_bytes
        ∷ add transform_text arm_text 500
        ∷ link_up New 1000
        ∷ message 1200 arm_bytes
        ∷ look 0 1700
        ∷ add transform_text (name_of 1) 500
        ∷ [])
        ≡ book_of (some arm_tile ∷ some (tile_of transform_text (name_of 1)) ∷ []) (some New) 1200
    -- free places among the tiles: fifteen tiles and one free place; sixteen; looks at a free place and around it; a message for the tile behind
    -- it
    pub gaps : fault_on R (book_of (none ∷ tiles_to 15) (some New) 0) (add transform_text (name_of 16) 500)
        ∷ fault_on R (book_of (none ∷ tiles_to 16) (some New) 0) (add transform_text (name_of 17) 500)
        ∷ numbers_on (book_of (tiles_to 2 ++ (none ∷ arm_tiles)) (some New) 0) (look 1 0 ∷ look 2 0 ∷ look 3 0 ∷ look 4 0 ∷ message 0 arm_bytes ∷ [])
        ≡ 0 ∷ 18 ∷ 0 ∷ 19 ∷ 0 ∷ 19 ∷ 0 ∷ []
    -- a tile takes the first of them
    pub gap-filled : next R (book_of (arm_tiles ++ (none ∷ none ∷ tiles_to 1)) (some New) 0) (add transform_text (name_of 3) 500)
        ≡ book_of (arm_tiles ++ (some (tile_of transform_text (name_of 3)) ∷ none ∷ tiles_to 1)) (some New) 0
    -- whether there is a place for one more is given
    pub full : fault_by R true (book_of [] (some New) 0) (add transform_text arm_text 500)
        ∷ fault_by R false (book_of (tiles_to 16) (some New) 0) (add transform_text arm_text 500)
        ∷ []
        ≡ 18 ∷ 0 ∷ []

pub record BookExamples : Type 0 where
  -- rule 7.1
  pub fresh : fresh_summary ≡ book_of [] none 0
  -- calls of every kind can be made, with any arguments, a message with any bytes
  pub calls : Each OfBytes (arm_bytes_calls ++ (link_down 1300 ∷ look 0 1400 ∷ []))
  pub any_calls : (type name bytes : List ℕ) (hold_time clock tile : ℕ) (layout : Layout) → Bytes bytes
      → Each OfBytes (add type name hold_time ∷ link_up layout clock ∷ link_down clock ∷ message clock bytes ∷ look tile clock ∷ [])
  -- messages from "Arm", where it has a tile of each type: POSITIONs of every length count. Other types do not: STATUS; IMAGE; a type cut
  -- short; with a further letter; with a digit
  pub counting : map (λ ws. counts_on (both_types arm_text) (position_of ws)) words_of_positions ≡ replicate 3 true
  pub not_counting : map (λ t. counts_on (both_types arm_text) (other_of t))
      (status_text ∷ image_text ∷ take 8 transform_text ∷ (transform_text ++ (83 ∷ [])) ∷ (position_text ++ (50 ∷ [])) ∷ [])
      ≡ replicate 5 false
  -- the value of the message from "Arm"
  pub value : value_for arm_message arm_tile ≡ arm_content
  -- and of POSITIONs, in V 2, and with three, six and seven words
  pub point_value : value_for point_message (tile_of position_text point_text) ≡ point_content
  pub position_values : map (λ ws. value_for (position_of ws) (tile_of position_text arm_text)) words_of_positions
      ≡ take 12 point_content ∷ point_content ∷ (point_content ++ (0 ∷ 0 ∷ 0 ∷ 7 ∷ [])) ∷ []
  pub reads : (R : Reader) (l : Layout) → Read R l
  pub on_books : (R : Reader) → OnBooks R

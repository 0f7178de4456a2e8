-- Bodies of V 2 and metadata sections, byte by byte, in both layouts (rules 3.6, 5.1 and 5.9). They fix where the numbers of the extended header
-- stand, which sizes agree with a section, the limits, and that 6 comes before 7 and 7 before 8.
use Rattle.std.specs.Prelude.{ℕ, ◌≡◌, true, false, List, [], ◌∷◌, ◌++◌, map, length, take, replicate}
use Rattle.fields.specs.Answer.{Written, Wrote, Refused}
use Rattle.fields.specs.Layout.{join}
use Rattle.metadata.specs.Examples.{two_entries}
use Rattle.content.specs.Kinds.{transform_text}
use Rattle.message.specs.declared.Layout.{Layout}
use Rattle.message.specs.declared.Layout.TheVariants.{New, Old}
use Rattle.message.specs.declared.Answer.{Answer}
use Rattle.message.specs.Body.{encode_body}
use Rattle.message.specs.MessageReader.{refused, read_of}
use Rattle.message.specs.MessageWriter.{given, fits, message_written}
use Rattle.message.specs.Samples.{answer_of, answer_of1, status_text, layouts, sound_of}

-- ---- bodies, read

-- a body of V 2: the last bytes of EXT_HEADER_SIZE and of the three numbers after it, and what follows
abbrev pub body_with : ℕ → ℕ → ℕ → ℕ → List ℕ → List ℕ
body_with extended_size second third fourth rest =
    0 ∷ extended_size ∷ 0 ∷ second ∷ 0 ∷ 0 ∷ 0 ∷ third ∷ 0 ∷ 0 ∷ 0 ∷ fourth ∷ rest

-- a body of V 2, and the answers to a message with it in the new layout and in the old
abbrev pub Row : Type 0
Row = List ℕ × (Answer × Answer)

-- the row that the reader gives to the body of a row, in a message of this type
abbrev pub row_of : List ℕ → Row → Row
row_of type r = (r.0, (read_of New (sound_of 2 type r.0), read_of Old (sound_of 2 type r.0)))

-- a STATUS of V 2 without a name and a content: its MSG_ID and the length of its metadata
abbrev pub status_answer : ℕ → ℕ → Answer
status_answer id metadata = answer_of 2 70 6 0 0 id 0 0 metadata

-- 38 bytes: a section with the key "a" and no value, and with the key "b" and a value of 18 bytes, which are a section with the key "k" and the
-- value "vvvvvvv"
abbrev pub two_messages : List ℕ
two_messages =
    join
    ((0 ∷ 2 ∷ [])
    ∷ (0 ∷ 1 ∷ 0 ∷ 3 ∷ 0 ∷ 0 ∷ 0 ∷ 0 ∷ [])
    ∷ (0 ∷ 1 ∷ 0 ∷ 3 ∷ 0 ∷ 0 ∷ 0 ∷ 18 ∷ [])
    ∷ (0x61 ∷ 0x62 ∷ [])
    ∷ (0 ∷ 1 ∷ 0 ∷ 1 ∷ 0 ∷ 3 ∷ 0 ∷ 0 ∷ 0 ∷ 7 ∷ [])
    ∷ (0x6B ∷ replicate 7 0x76)
    ∷ [])

-- a section with the key "k" and the value "v"
abbrev pub one_entry : List ℕ
one_entry = 0 ∷ 1 ∷ 0 ∷ 1 ∷ 0 ∷ 3 ∷ 0 ∷ 0 ∷ 0 ∷ 1 ∷ 0x6B ∷ 0x76 ∷ []

-- rule 3.6 by the twelve bytes and what follows them, in messages of the type STATUS
abbrev pub status_rows : List Row
status_rows =
    -- MSG_ID 7 in the new layout is the reserved word in the old; MSG_ID 7 in the old is a size in the new; 0 is 0 in both
    (body_with 12 0 0 7 [], (status_answer 7 0, refused 6 70))
    ∷ (body_with 12 0 7 0 [], (refused 6 70, status_answer 7 0))
    ∷ (body_with 12 0 0 0 [], (status_answer 0 0, status_answer 0 0))
    -- the other bytes of the last word
    ∷ (0 ∷ 12 ∷ 0 ∷ 0 ∷ 0 ∷ 0 ∷ 0 ∷ 0 ∷ 3 ∷ 2 ∷ 1 ∷ 0 ∷ [], (status_answer 0x03020100 0, refused 6 70))
    -- one entry: an index of 10 bytes, and 2 bytes of key and value
    ∷ (body_with 12 10 2 9 one_entry, (status_answer 9 12, refused 6 82))
    -- two entries: an index of 18 bytes, and 5 bytes of keys and values; in the old layout 23 bytes in all
    ∷ (body_with 12 18 5 9 two_entries, (status_answer 9 23, refused 6 93))
    ∷ (body_with 12 23 9 0 two_entries, (refused 6 93, status_answer 9 23))
    -- 7 for sizes that do not agree with the section of one entry: 8 and 4, 0 and 12, 12 and 0, 11 and 1; and 10 and 1, which cut its first byte off
    ∷ (body_with 12 8 4 9 one_entry, (refused 7 82, refused 6 82))
    ∷ (body_with 12 0 12 9 one_entry, (refused 7 82, refused 6 82))
    ∷ (body_with 12 12 0 0 one_entry, (refused 7 82, status_answer 0 12))
    ∷ (body_with 12 11 1 9 one_entry, (refused 7 82, refused 6 82))
    ∷ (body_with 12 10 1 9 one_entry, (refused 7 82, refused 6 82))
    -- 6 for a sum above the body: each size one more
    ∷ (body_with 12 10 3 9 one_entry, (refused 6 82, refused 6 82))
    ∷ (body_with 12 11 2 9 one_entry, (refused 6 82, refused 6 82))
    ∷ (body_with 13 10 2 9 one_entry, (refused 6 82, refused 6 82))
    -- one message in the new layout and another in the old: two entries, of which the second value ends with a section of one entry
    ∷ (body_with 12 18 20 0 two_messages, (status_answer 0 38, answer_of 2 70 6 0 0 20 0 20 18))
    -- a section without entries: 2 and 0; not 0 and 2. With MSG_ID 0 it has the same bytes in both layouts
    ∷ (body_with 12 2 0 9 (0 ∷ 0 ∷ []), (status_answer 9 2, refused 6 72))
    ∷ (body_with 12 0 2 9 (0 ∷ 0 ∷ []), (refused 7 72, refused 6 72))
    ∷ (body_with 12 2 0 0 (0 ∷ 0 ∷ []), (status_answer 0 2, status_answer 0 2))
    -- 7 for what is no section: one byte, a count of 1 and no entry, a count of 8,192 and no entry
    ∷ (body_with 12 1 0 9 (0 ∷ []), (refused 7 71, refused 6 71))
    ∷ (body_with 12 2 0 9 (0 ∷ 1 ∷ []), (refused 7 72, refused 6 72))
    ∷ (body_with 12 2 0 0 (0x20 ∷ 0 ∷ []), (refused 7 72, refused 7 72))
    -- sums that are small in 32 bits: 12 + 4,294,967,295 is 11 there, and 65,535 + 4,294,901,761 is 0; in the old layout the larger one is MSG_ID
    ∷ (0 ∷ 12 ∷ 0 ∷ 0 ∷ 255 ∷ 255 ∷ 255 ∷ 255 ∷ 0 ∷ 0 ∷ 0 ∷ 9 ∷ [], (refused 6 70, refused 6 70))
    ∷ (0 ∷ 12 ∷ 0 ∷ 0 ∷ 255 ∷ 255 ∷ 255 ∷ 255 ∷ 0 ∷ 0 ∷ 0 ∷ 0 ∷ [], (refused 6 70, status_answer 0xFFFFFFFF 0))
    ∷ (0 ∷ 12 ∷ 255 ∷ 255 ∷ 255 ∷ 255 ∷ 0 ∷ 1 ∷ 0 ∷ 0 ∷ 0 ∷ 0 ∷ [], (refused 6 70, refused 6 70))
    ∷ []

-- the order of the checks, in messages of the type TRANSFORM with an empty content
abbrev pub transform_rows : List Row
transform_rows =
    -- 6: a body of 11; EXT_HEADER_SIZE 11; sizes of 13 and 0, 12 and 1 in a body of 12; sizes of 65,535 and 13, which are 12 in 16 bits
    (replicate 11 0, (refused 6 69, refused 6 69))
    ∷ (body_with 11 0 0 0 [], (refused 6 70, refused 6 70))
    ∷ (body_with 13 0 0 0 [], (refused 6 70, refused 6 70))
    ∷ (body_with 12 1 0 0 [], (refused 6 70, refused 6 70))
    ∷ (0xFF ∷ 0xFF ∷ 0 ∷ 13 ∷ replicate 8 0, (refused 6 70, refused 6 70))
    -- 6 for each byte of the reserved word
    ∷ (body_with 12 0 0 1 [], (refused 8 70, refused 6 70))
    ∷ (0 ∷ 12 ∷ 0 ∷ 0 ∷ (replicate 4 0 ++ (1 ∷ 0 ∷ 0 ∷ 0 ∷ [])), (refused 8 70, refused 6 70))
    ∷ (0 ∷ 12 ∷ 0 ∷ 0 ∷ (replicate 4 0 ++ (0 ∷ 1 ∷ 0 ∷ 0 ∷ [])), (refused 8 70, refused 6 70))
    ∷ (0 ∷ 12 ∷ 0 ∷ 0 ∷ (replicate 4 0 ++ (0 ∷ 0 ∷ 1 ∷ 0 ∷ [])), (refused 8 70, refused 6 70))
    -- 6 before 7: metadata of one byte, with a MSG_ID or a reserved word; a sum above the body
    ∷ (body_with 12 1 0 1 (0 ∷ []), (refused 7 71, refused 6 71))
    ∷ (body_with 12 1 1 0 (0 ∷ []), (refused 6 71, refused 7 71))
    -- 7 before 8: metadata of one byte; sizes that do not agree. Then a section of no entries, and no section
    ∷ (body_with 12 1 0 0 (0 ∷ []), (refused 7 71, refused 7 71))
    ∷ (body_with 12 8 4 0 one_entry, (refused 7 82, refused 7 82))
    ∷ (body_with 12 2 0 0 (0 ∷ 0 ∷ []), (refused 8 72, refused 8 72))
    ∷ (body_with 12 0 0 0 [], (refused 8 70, refused 8 70))
    ∷ []

-- ---- parts, written

-- metadata, in V 2, of a message of the type "A"
abbrev pub writes_metadata : Layout → List ℕ → ℕ → Written
writes_metadata l metadata room = message_written l (given (record { version = 2; time_stamp = 0; id = 0 }) (65 ∷ []) [] [] [] metadata) room

-- further bytes, likewise
abbrev pub writes_further : Layout → List ℕ → ℕ → Written
writes_further l further room = message_written l (given (record { version = 2; time_stamp = 0; id = 0 }) (65 ∷ []) [] further [] []) room

-- what follows INDEX_COUNT in a section of n entries with the key "A" and no value
abbrev pub entries : ℕ → List ℕ
entries n = join (replicate n (0 ∷ 1 ∷ 0 ∷ 3 ∷ 0 ∷ 0 ∷ 0 ∷ 0 ∷ [])) ++ replicate n 65

pub record LayoutSamples : Type 0 where
  -- V 1 has no sizes: twelve bytes that are no extended header are content
  pub no_sizes : (l : Layout) → read_of l (sound_of 1 status_text (body_with 11 3 9 5 [])) ≡ answer_of1 6 0 0 12
  -- the rows above
  pub sizes : map (row_of status_text) status_rows ≡ status_rows
  pub order : map (row_of transform_text) transform_rows ≡ transform_rows
  -- the longest further bytes of V 2, and one byte more; in the new layout the longest metadata that a body has room for, the index of 8,191
  -- entries, and of one more; in the old layout the longest metadata, beside the longest further bytes, and one byte more
  pub further_field : map (λ l. fits l 2 0 65523 0 0 ∷ fits l 2 0 65524 0 0 ∷ []) layouts ≡ replicate 2 (true ∷ false ∷ [])
  pub index_field : fits New 2 0 0 10 16777204 ∷ fits New 2 0 0 65530 70000 ∷ fits New 2 0 0 65538 70000 ∷ [] ≡ true ∷ true ∷ false ∷ []
  pub metadata_field : fits Old 2 0 65523 2 65535 ∷ fits Old 2 0 0 2 65536 ∷ [] ≡ true ∷ false ∷ []
  -- INDEX_COUNT 8,192 and no entry: 6 in the new layout, before 7; 8,191 is 7; a single byte is 7
  pub counts : map (λ l. writes_metadata l (0x20 ∷ 0 ∷ []) 0 ∷ writes_metadata l (0x1F ∷ 0xFF ∷ []) 0 ∷ writes_metadata l (0xFF ∷ []) 0 ∷ []) layouts
      ≡ (Refused 6 ∷ Refused 7 ∷ Refused 7 ∷ []) ∷ (Refused 7 ∷ Refused 7 ∷ Refused 7 ∷ []) ∷ []
  -- a section of 70,000 bytes, with the key "k" and a value of 69,989: the new layout has it, the old has not
  pub long_section : (c : List ℕ) → length c ≡ 69989
      → map (λ l. writes_metadata l (0 ∷ 1 ∷ 0 ∷ 1 ∷ 0 ∷ 3 ∷ 0 ∷ 1 ∷ 0x11 ∷ 0x65 ∷ 0x6B ∷ c) 70070) layouts ≡ Wrote 70070 ∷ Refused 6 ∷ []
  -- the longest further bytes, and the longest metadata of the old layout, with the key "k" and a value of 65,524 bytes, are written
  pub longest_further : (c : List ℕ) → length c ≡ 65523 → map (λ l. writes_further l c 65593) layouts ≡ replicate 2 (Wrote 65593)
  pub longest_old : (c : List ℕ) → length c ≡ 65524
      → map (λ l. writes_metadata l (0 ∷ 1 ∷ 0 ∷ 1 ∷ 0 ∷ 3 ∷ 0 ∷ 0 ∷ 0xFF ∷ 0xF4 ∷ 0x6B ∷ c) 65605) layouts ≡ replicate 2 (Wrote 65605)
  -- 8,191 entries are written in the new layout
  pub most_entries : writes_metadata New (0x1F ∷ 0xFF ∷ entries 8191) 73791 ≡ Wrote 73791
  -- the twelve bytes where the sizes take all of theirs: metadata of 70,000 bytes with one entry, and of 73,721 with 8,191
  pub long_sizes : (c : List ℕ) → length c ≡ 70000
      → take 12 (encode_body New 2 10 (record { id = 0x21222324; further = []; content = []; metadata = c }))
      ≡ 0 ∷ 12 ∷ 0 ∷ 10 ∷ 0 ∷ 1 ∷ 0x11 ∷ 0x66 ∷ 0x21 ∷ 0x22 ∷ 0x23 ∷ 0x24 ∷ []
  pub long_index : (c : List ℕ) → length c ≡ 73721
      → take 12 (encode_body New 2 65530 (record { id = 9; further = []; content = []; metadata = c }))
      ≡ 0 ∷ 12 ∷ 0xFF ∷ 0xFA ∷ 0 ∷ 0 ∷ 0x1F ∷ 0xFF ∷ 0 ∷ 0 ∷ 0 ∷ 9 ∷ []

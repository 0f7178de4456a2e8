-- What the definitions say of a few bytes, as one statement.
use Rattle.std.specs.Prelude.{ℕ, ◌≡◌, true, false, Ok, Err, List, [], ◌∷◌, map, eqb, leb, length, drop, replicate}
use Rattle.std.proofs.lemmas.List.Edits.{sets}
use Rattle.fields.specs.Fault.{fault_number, number_of}
use Rattle.fields.specs.declared.fault.Fault.TheVariants.{Incomplete, Names, BodySize, Version, Crc, ExtendedHeader, Metadata, PoseLength, Image, Bind, BindDepth, MoreBytes, NoTile, LinkDown, ClockBehind, NewTile, TileTaken, PanelFull, NotFound, NoRoom, FeedStopped}
use Rattle.fields.specs.Bytes.{Bytes, part, same}
use Rattle.fields.specs.Numbers.{be_val, be_bytes, be_at, size_limit}
use Rattle.fields.specs.Text.{is_text, text_of, past_text, field_ok, text_bytes}
use Rattle.fields.specs.Received.{rest_of, field_bytes, field_read}
use Rattle.fields.specs.Tables.{counted, items_ok}
use Rattle.fields.specs.Checks.{or_else}
use Rattle.fields.specs.Layout.{numbers_at}
use Rattle.fields.specs.Writers.{written_count_by, written_by, out_by}
use Rattle.fields.specs.Answer.{Wrote, Refused, checked, written_number, written_count, room_fault}

-- ten bytes, each with a value of its own
abbrev pub ten : List ℕ
ten = 0x10 ∷ 0x11 ∷ 0x12 ∷ 0x13 ∷ 0x14 ∷ 0x15 ∷ 0x16 ∷ 0x17 ∷ 0x18 ∷ 0x19 ∷ []

pub record Examples : Type 0 where
  -- 255 is a byte, and 256 is none
  pub byte : Bytes (255 ∷ [])
  pub no_byte : Bytes (256 ∷ []) → ⊥
  -- the most significant byte comes first
  pub number_read : be_val (0x01 ∷ 0x02 ∷ 0x03 ∷ 0x04 ∷ []) ≡ 0x01020304
  pub number_written : be_bytes 4 0x01020304 ≡ 0x01 ∷ 0x02 ∷ 0x03 ∷ 0x04 ∷ []
  -- the largest number of two bytes
  pub largest_size : be_val (0xFF ∷ 0xFF ∷ []) ≡ size_limit
  -- of 1, 2, 4 and 8 bytes, at place 1
  pub numbers_read : map (λ w. be_at w 1 ten) (1 ∷ 2 ∷ 4 ∷ 8 ∷ []) ≡ 0x11 ∷ 0x1112 ∷ 0x11121314 ∷ 0x1112131415161718 ∷ []
  pub written_1 : sets (replicate {A = ℕ} 10 0) 1 (be_bytes 1 0x11) ≡ 0 ∷ 0x11 ∷ replicate 8 0
  pub written_2 : sets (replicate {A = ℕ} 10 0) 1 (be_bytes 2 0x1112) ≡ 0 ∷ 0x11 ∷ 0x12 ∷ replicate 7 0
  pub written_8 : sets (replicate {A = ℕ} 10 0) 1 (be_bytes 8 0x1112131415161718)
      ≡ 0 ∷ 0x11 ∷ 0x12 ∷ 0x13 ∷ 0x14 ∷ 0x15 ∷ 0x16 ∷ 0x17 ∷ 0x18 ∷ 0 ∷ []
  -- past the end there is nothing to read, and nothing is written
  pub number_past_end : be_at 2 1 (0x01 ∷ 0x02 ∷ []) ≡ 0x02
  pub written_past_end : sets {A = ℕ} (0x01 ∷ 0x02 ∷ []) 1 (0x03 ∷ 0x04 ∷ []) ≡ 0x01 ∷ 0x03 ∷ []
  -- "Arm" in a field of 5 bytes, in one that it fills, and cut off
  pub text_padded : text_bytes 5 (0x41 ∷ 0x72 ∷ 0x6d ∷ []) ≡ 0x41 ∷ 0x72 ∷ 0x6d ∷ 0 ∷ 0 ∷ []
  pub text_full : text_bytes 3 (0x41 ∷ 0x72 ∷ 0x6d ∷ []) ≡ 0x41 ∷ 0x72 ∷ 0x6d ∷ []
  pub text_cut : text_bytes 2 (0x41 ∷ 0x72 ∷ 0x6d ∷ []) ≡ 0x41 ∷ 0x72 ∷ []
  pub text_read : text_of (0x41 ∷ 0x72 ∷ 0x6d ∷ 0 ∷ 0 ∷ []) ≡ 0x41 ∷ 0x72 ∷ 0x6d ∷ []
  -- text fields: empty, full, with both border bytes; and none: a byte above 127, a byte after a 0
  pub field_empty : field_ok (0 ∷ 0 ∷ []) ≡ true
  pub field_full : field_ok (1 ∷ 127 ∷ []) ≡ true
  pub field_high : field_ok (1 ∷ 128 ∷ 0 ∷ []) ≡ false
  pub field_resumed : field_ok (1 ∷ 0 ∷ 1 ∷ []) ≡ false
  -- fields read (rule 2.4), with the length of the text: "A" and zeros, "AB" alone, no byte; a byte behind the 0: 255, 128, a text, the last one
  -- alone, behind no text
  pub clean_fields : map field_read ((0x41 ∷ 0 ∷ 0 ∷ []) ∷ (0x41 ∷ 0x42 ∷ []) ∷ [] ∷ []) ≡ map (λ n. record { ok = true; len = n; clean = true }) (1 ∷ 2 ∷ 0 ∷ [])
  pub unclean_fields : map field_read
      ((0x41 ∷ 0 ∷ 255 ∷ []) ∷ (0x41 ∷ 0 ∷ 128 ∷ 0 ∷ []) ∷ (0x41 ∷ 0 ∷ 0x42 ∷ 0 ∷ []) ∷ (0x41 ∷ 0 ∷ 0 ∷ 0 ∷ 1 ∷ []) ∷ (0 ∷ 0x41 ∷ []) ∷ [])
      ≡ map (λ n. record { ok = true; len = n; clean = false }) (1 ∷ 1 ∷ 1 ∷ 1 ∷ 0 ∷ [])
  -- 128 or 255 before the 0
  pub no_fields : map field_read ((0x41 ∷ 128 ∷ 0 ∷ []) ∷ (255 ∷ 0 ∷ 0 ∷ []) ∷ (0x41 ∷ 128 ∷ []) ∷ []) ≡ replicate 3 (record { ok = false; len = 0; clean = false })
  -- the rests begin with the first 0
  pub rests : map rest_of ((0x41 ∷ 0 ∷ 0x42 ∷ 0 ∷ []) ∷ (0 ∷ 0x41 ∷ []) ∷ (0x41 ∷ 0x42 ∷ []) ∷ []) ≡ (0 ∷ 0x42 ∷ 0 ∷ []) ∷ (0 ∷ 0x41 ∷ []) ∷ [] ∷ []
  pub rest_written : field_bytes 5 (0x41 ∷ 0x72 ∷ []) (0 ∷ 255 ∷ 1 ∷ []) ≡ 0x41 ∷ 0x72 ∷ 0 ∷ 255 ∷ 1 ∷ []
  -- the refusals, each with its number, and an answer that is none
  pub refusals : map fault_number
      (Incomplete ∷ Names ∷ BodySize ∷ Version ∷ Crc ∷ ExtendedHeader ∷ Metadata ∷ PoseLength ∷ Image ∷ Bind ∷ BindDepth ∷ MoreBytes ∷ NoTile ∷ LinkDown ∷ ClockBehind ∷ NewTile ∷ TileTaken ∷ PanelFull ∷ NotFound ∷ NoRoom ∷ FeedStopped ∷ [])
      ≡ 1 ∷ 2 ∷ 3 ∷ 4 ∷ 5 ∷ 6 ∷ 7 ∷ 8 ∷ 9 ∷ 10 ∷ 11 ∷ 12 ∷ 13 ∷ 14 ∷ 15 ∷ 16 ∷ 17 ∷ 18 ∷ 19 ∷ 20 ∷ 21 ∷ []
  pub answers : map (number_of {A = ℕ}) (Ok 5 ∷ Err NoRoom ∷ []) ≡ 0 ∷ 20 ∷ []
  -- a refusal's mark is false
  pub checks : checked 0 true ∷ checked 0 false ∷ checked 2 true ∷ []
      ≡ record { number = 0; clean = true } ∷ record { number = 0; clean = false } ∷ record { number = 2; clean = false } ∷ []
  -- TYPE and DEVICE_NAME: "Arm" in 12 bytes and in 20
  pub text_12 : text_bytes 12 (0x41 ∷ 0x72 ∷ 0x6d ∷ []) ≡ 0x41 ∷ 0x72 ∷ 0x6d ∷ 0 ∷ 0 ∷ 0 ∷ 0 ∷ 0 ∷ 0 ∷ 0 ∷ 0 ∷ 0 ∷ []
  pub text_20 : text_bytes 20 (0x41 ∷ 0x72 ∷ 0x6d ∷ [])
      ≡ 0x41 ∷ 0x72 ∷ 0x6d ∷ 0 ∷ 0 ∷ 0 ∷ 0 ∷ 0 ∷ 0 ∷ 0 ∷ 0 ∷ 0 ∷ 0 ∷ 0 ∷ 0 ∷ 0 ∷ 0 ∷ 0 ∷ 0 ∷ 0 ∷ []
  -- texts: the border bytes, and no bytes; what follows a text's 0
  pub texts : map is_text ((0 ∷ []) ∷ (1 ∷ []) ∷ (127 ∷ []) ∷ (128 ∷ []) ∷ [] ∷ []) ≡ false ∷ true ∷ true ∷ false ∷ true ∷ []
  pub past-text : past_text (0x41 ∷ 0 ∷ 0x42 ∷ 0 ∷ []) ≡ 0x42 ∷ 0 ∷ []
  -- two bytes at place 3; bytes compared with their like, with a part of them, and turned round
  pub two_at_three : part 2 3 ten ≡ 0x13 ∷ 0x14 ∷ []
  pub compared : map (same (1 ∷ 2 ∷ [])) ((1 ∷ 2 ∷ []) ∷ (1 ∷ []) ∷ (2 ∷ 1 ∷ []) ∷ (1 ∷ 2 ∷ 3 ∷ []) ∷ [])
      ≡ true ∷ false ∷ false ∷ false ∷ []
  -- the first fault of two
  pub faults : or_else 0 0 ∷ or_else 0 9 ∷ or_else 8 0 ∷ or_else 8 9 ∷ [] ≡ 0 ∷ 9 ∷ 8 ∷ 8 ∷ []
  -- two headers of two bytes, and a byte behind them; items as long as their headers say, then one that is cut off, and a byte left over
  pub table : counted (be_bytes 2) (1 ∷ 2 ∷ []) (9 ∷ []) ≡ 0 ∷ 2 ∷ 0 ∷ 1 ∷ 0 ∷ 2 ∷ 9 ∷ []
  pub items : map (items_ok 2 (λ h d. drop (be_at 2 0 h) d) (λ h d. leb (be_at 2 0 h) (length d)) (λ d. eqb (length d) 0) 2 (0 ∷ 1 ∷ 0 ∷ 2 ∷ []))
      ((7 ∷ 8 ∷ 8 ∷ []) ∷ (7 ∷ 8 ∷ []) ∷ (7 ∷ 8 ∷ 8 ∷ 9 ∷ []) ∷ [])
      ≡ true ∷ false ∷ false ∷ []
  -- the room for three bytes; the numbers and counts of answers
  pub rooms : map (room_fault 3) (2 ∷ 3 ∷ 4 ∷ []) ≡ 20 ∷ 0 ∷ 0 ∷ []
  pub answer-numbers : map written_number (Wrote 3 ∷ Refused 20 ∷ []) ≡ 0 ∷ 20 ∷ []
  pub answer_counts : map written_count (Wrote 3 ∷ Refused 20 ∷ []) ≡ 3 ∷ 0 ∷ []
  -- a writer of three bytes: into 4, into 2, and with the fault 8
  pub wrote : written_by 0 (1 ∷ 2 ∷ 3 ∷ []) 4 ∷ written_by 0 (1 ∷ 2 ∷ 3 ∷ []) 2 ∷ written_by 8 (1 ∷ 2 ∷ 3 ∷ []) 2 ∷ [] ≡ Wrote 3 ∷ Refused 20 ∷ Refused 8 ∷ []
  pub counts : written_count_by 0 (1 ∷ 2 ∷ 3 ∷ []) 4 ∷ written_count_by 0 (1 ∷ 2 ∷ 3 ∷ []) 2 ∷ written_count_by 8 (1 ∷ 2 ∷ 3 ∷ []) 4 ∷ [] ≡ 3 ∷ 0 ∷ 0 ∷ []
  pub left : map (out_by 0 (1 ∷ 2 ∷ 3 ∷ [])) ((5 ∷ 5 ∷ 5 ∷ 5 ∷ []) ∷ (5 ∷ 5 ∷ []) ∷ []) ≡ (1 ∷ 2 ∷ 3 ∷ 5 ∷ []) ∷ (5 ∷ 5 ∷ []) ∷ []
  pub left_refused : out_by 8 (1 ∷ 2 ∷ 3 ∷ []) (5 ∷ 5 ∷ 5 ∷ 5 ∷ []) ≡ 5 ∷ 5 ∷ 5 ∷ 5 ∷ []
  -- three numbers from place 1 on
  pub halves : numbers_at 1 (2 ∷ 2 ∷ 2 ∷ []) ten ≡ 0x1112 ∷ 0x1314 ∷ 0x1516 ∷ []

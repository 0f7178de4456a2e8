-- A header byte by byte, read and written, with cleared text fields and with uncleared ones; each number of the reader and of the writer, and
-- both sides of its limits; time stamps.
use Rattle.std.specs.Prelude.{ℕ, ◌+◌, ◌-◌, ◌*◌, ◌^◌, ◌≡◌, Bool, true, false, List, [], ◌∷◌, ◌++◌, map, length, take, replicate}
use Rattle.fields.specs.Answer.{Written, Wrote, Refused}
use Rattle.header.specs.declared.HeaderRead.{HeaderRead}
use Rattle.header.specs.Header.{Header, encode_header, cleaned_header}
use Rattle.header.specs.HeaderReader.{header_of, limit_fault, header_read, type_in, name_in}
use Rattle.header.specs.HeaderWriter.{header_written, header_out}
use Rattle.header.specs.TimeStamp.{seconds_of, nanoseconds_of}

-- every field with a value of its own: V 2, TYPE "TIME", DEVICE_NAME "Arm"
abbrev pub distinct : Header
distinct =
    record {
      version = 2;
      type_text = 0x54 ∷ 0x49 ∷ 0x4D ∷ 0x45 ∷ [];
      type_rest = replicate 8 0;
      device_name = 0x41 ∷ 0x72 ∷ 0x6D ∷ [];
      name_rest = replicate 17 0;
      time_stamp = 0x1112131415161718;
      body_size = 0x212223;
      crc = 0x3132333435363738;
    }

-- its bytes, a line for each field
abbrev pub distinct_bytes : List ℕ
distinct_bytes =
    0 ∷ 2
    ∷ 0x54 ∷ 0x49 ∷ 0x4D ∷ 0x45 ∷ 0 ∷ 0 ∷ 0 ∷ 0 ∷ 0 ∷ 0 ∷ 0 ∷ 0
    ∷ 0x41 ∷ 0x72 ∷ 0x6D ∷ 0 ∷ 0 ∷ 0 ∷ 0 ∷ 0 ∷ 0 ∷ 0 ∷ 0 ∷ 0 ∷ 0 ∷ 0 ∷ 0 ∷ 0 ∷ 0 ∷ 0 ∷ 0 ∷ 0
    ∷ 0x11 ∷ 0x12 ∷ 0x13 ∷ 0x14 ∷ 0x15 ∷ 0x16 ∷ 0x17 ∷ 0x18
    ∷ 0 ∷ 0 ∷ 0 ∷ 0 ∷ 0 ∷ 0x21 ∷ 0x22 ∷ 0x23
    ∷ 0x31 ∷ 0x32 ∷ 0x33 ∷ 0x34 ∷ 0x35 ∷ 0x36 ∷ 0x37 ∷ 0x38
    ∷ []

-- the same header from a sender that does not clear its fields (rule 2.4): each rest begins with a 0, and then any bytes stand
abbrev pub uncleared : Header
uncleared =
    record {
      version = 2;
      type_text = 0x54 ∷ 0x49 ∷ 0x4D ∷ 0x45 ∷ [];
      type_rest = 0 ∷ 0xFF ∷ 0x80 ∷ 0 ∷ 0x41 ∷ 0x7F ∷ 1 ∷ 0 ∷ [];
      device_name = 0x41 ∷ 0x72 ∷ 0x6D ∷ [];
      name_rest = replicate 16 0 ++ (0x99 ∷ []);
      time_stamp = 0x1112131415161718;
      body_size = 0x212223;
      crc = 0x3132333435363738;
    }

abbrev pub uncleared_bytes : List ℕ
uncleared_bytes =
    0 ∷ 2
    ∷ 0x54 ∷ 0x49 ∷ 0x4D ∷ 0x45 ∷ 0 ∷ 0xFF ∷ 0x80 ∷ 0 ∷ 0x41 ∷ 0x7F ∷ 1 ∷ 0
    ∷ 0x41 ∷ 0x72 ∷ 0x6D ∷ 0 ∷ 0 ∷ 0 ∷ 0 ∷ 0 ∷ 0 ∷ 0 ∷ 0 ∷ 0 ∷ 0 ∷ 0 ∷ 0 ∷ 0 ∷ 0 ∷ 0 ∷ 0 ∷ 0x99
    ∷ 0x11 ∷ 0x12 ∷ 0x13 ∷ 0x14 ∷ 0x15 ∷ 0x16 ∷ 0x17 ∷ 0x18
    ∷ 0 ∷ 0 ∷ 0 ∷ 0 ∷ 0 ∷ 0x21 ∷ 0x22 ∷ 0x23
    ∷ 0x31 ∷ 0x32 ∷ 0x33 ∷ 0x34 ∷ 0x35 ∷ 0x36 ∷ 0x37 ∷ 0x38
    ∷ []

-- what is handed out of both, with this mark
abbrev pub distinct_read : Bool → HeaderRead
distinct_read mark =
    record {
      number = 0;
      version = 2;
      type_len = 4;
      name_len = 3;
      time_stamp = 0x1112131415161718;
      body_size = 0x212223;
      crc = 0x3132333435363738;
      clean = mark;
    }

-- the bytes of a header with these in the fields TYPE, DEVICE_NAME and BODY_SIZE
abbrev pub bytes_with : List ℕ → List ℕ → List ℕ → List ℕ
bytes_with t n size = 0 ∷ 2 ∷ (t ++ (n ++ (replicate 8 0 ++ (size ++ replicate 8 0))))

-- text fields: "A" in every byte; the empty text, with "A" behind zeros, which is not clean. No text field: a byte 128 before the first 0
abbrev pub full : ℕ → List ℕ
full n = replicate n 65

abbrev pub behind_zeros : ℕ → List ℕ
behind_zeros n = replicate n 0 ++ (65 ∷ [])

abbrev pub above : ℕ → List ℕ
above n = 65 ∷ 128 ∷ replicate n 0

-- BODY_SIZE 16,777,216, one more, and 2^56
abbrev pub at_limit : List ℕ
at_limit = 0 ∷ 0 ∷ 0 ∷ 0 ∷ 1 ∷ 0 ∷ 0 ∷ 0 ∷ []

abbrev pub above_limit : List ℕ
above_limit = 0 ∷ 0 ∷ 0 ∷ 0 ∷ 1 ∷ 0 ∷ 0 ∷ 1 ∷ []

abbrev pub far_above : List ℕ
far_above = 1 ∷ 0 ∷ 0 ∷ 0 ∷ 0 ∷ 0 ∷ 0 ∷ 0 ∷ []

-- the reader's numbers and marks
abbrev pub numbers_of : List (List ℕ) → List ℕ
numbers_of streams = map (λ s. (header_read s).number) streams

abbrev pub marks_of : List (List ℕ) → List Bool
marks_of streams = map (λ s. (header_read s).clean) streams

-- a header for the writer: these texts and this BODY_SIZE
abbrev pub header_with : List ℕ → List ℕ → ℕ → Header
header_with t n size =
    record {
      version = 2;
      type_text = t;
      type_rest = replicate (12 - length t) 0;
      device_name = n;
      name_rest = replicate (20 - length n) 0;
      time_stamp = 0;
      body_size = size;
      crc = 0;
    }

-- the answers for such texts, with room
abbrev pub answers_of : List (List ℕ × List ℕ) → List Written
answers_of texts = map (λ x. header_written (header_with x.0 x.1 0) 58) texts

pub record Examples : Type 0 where
  -- the order and the widths of the fields: written, read in front of a further byte, and written into 60 bytes, of which two stay
  pub layout : encode_header distinct ≡ distinct_bytes
  pub layout_read : header_read (distinct_bytes ++ (9 ∷ [])) ≡ distinct_read true
  pub texts_read : header_of (distinct_bytes ++ (9 ∷ [])) ≡ distinct
  pub texts_named : type_in distinct_bytes (header_read distinct_bytes) ∷ name_in distinct_bytes (header_read distinct_bytes) ∷ []
      ≡ distinct.type_text ∷ distinct.device_name ∷ []
  pub wrote : header_written distinct 60 ≡ Wrote 58
  pub written : header_out distinct (replicate 60 5) ≡ distinct_bytes ++ (5 ∷ 5 ∷ [])
  -- uncleared fields: the same answer but for the mark; the rests are what stands from the first 0 on, and cleaned it is the header above
  pub uncleared_layout : encode_header uncleared ≡ uncleared_bytes
  pub uncleared_read : header_read uncleared_bytes ≡ distinct_read false
  pub rests_read : header_of (uncleared_bytes ++ (9 ∷ [])) ≡ uncleared
  pub uncleared_cleaned : encode_header (cleaned_header uncleared) ≡ distinct_bytes
  -- 57 bytes are 1, and nothing is handed out
  pub short : header_read (take 57 distinct_bytes)
      ≡ record { number = 1; version = 0; type_len = 0; name_len = 0; time_stamp = 0; body_size = 0; crc = 0; clean = false }
  pub texts_by_length : type_in (full 58) (distinct_read true) ∷ name_in (full 58) (distinct_read true) ∷ [] ≡ full 4 ∷ full 3 ∷ []
  pub no_texts : type_in distinct_bytes (header_read (take 57 distinct_bytes)) ∷ name_in distinct_bytes (header_read (take 57 distinct_bytes)) ∷ [] ≡ [] ∷ [] ∷ []
  -- full fields and the largest body; a byte 128 before the first 0; a body too large; 2 before 3, and 1 before both
  pub accepted : numbers_of (bytes_with (full 12) (full 20) at_limit ∷ bytes_with (replicate 12 0) (replicate 20 0) (replicate 8 0) ∷ [])
      ≡ 0 ∷ 0 ∷ []
  pub two : numbers_of (bytes_with (above 10) (full 20) at_limit ∷ bytes_with (full 12) (above 18) at_limit ∷ []) ≡ 2 ∷ 2 ∷ []
  pub three : numbers_of (bytes_with (full 12) (full 20) above_limit ∷ bytes_with (full 12) (full 20) far_above ∷ []) ≡ 3 ∷ 3 ∷ []
  pub order : numbers_of (bytes_with (full 12) (above 18) above_limit ∷ take 57 (bytes_with (full 12) (above 18) above_limit) ∷ [])
      ≡ 2 ∷ 1 ∷ []
  -- a byte behind the zeros of either field is accepted. The mark is of both fields; full ones are clean, and a refusal is not
  pub behind : numbers_of (bytes_with (behind_zeros 11) (full 20) at_limit ∷ bytes_with (full 12) (behind_zeros 19) at_limit ∷ []) ≡ 0 ∷ 0 ∷ []
  pub marks : marks_of
      (bytes_with (full 12) (full 20) at_limit
      ∷ bytes_with (replicate 12 0) (replicate 20 0) at_limit
      ∷ bytes_with (behind_zeros 11) (full 20) at_limit
      ∷ bytes_with (full 12) (behind_zeros 19) at_limit
      ∷ bytes_with (full 12) (above 18) at_limit
      ∷ bytes_with (full 12) (full 20) above_limit
      ∷ [])
      ≡ true ∷ true ∷ false ∷ false ∷ false ∷ false ∷ []
  -- the writer: texts that fill their fields, and one byte more of either; a byte 0, a byte 128
  pub name_lengths : answers_of ((full 12, full 20) ∷ (full 13, full 20) ∷ (full 12, full 21) ∷ []) ≡ Wrote 58 ∷ Refused 2 ∷ Refused 2 ∷ []
  pub name_bytes : answers_of ((1 ∷ 127 ∷ [], []) ∷ (0 ∷ [], []) ∷ ([], 128 ∷ []) ∷ []) ≡ Wrote 58 ∷ Refused 2 ∷ Refused 2 ∷ []
  -- its order: 2, 3, 20
  pub write_two : header_written (header_with (full 13) [] 16777217) 57 ≡ Refused 2
  pub write_three : header_written (header_with (full 12) [] 16777217) 57 ≡ Refused 3
  pub no_room : header_written (header_with (full 12) [] 16777216) 57 ≡ Refused 20
  -- a refusal leaves the buffer as it was: 2 and 3 with room, and 20
  pub untouched : map (λ h. header_out h (replicate 60 5)) (header_with (full 13) [] 0 ∷ header_with (full 12) [] 16777217 ∷ []) ≡ replicate 2 (replicate 60 5)
  pub untouched_short : header_out (header_with (full 12) [] 0) (replicate 57 5) ≡ replicate 57 5
  -- seven seconds and a half
  pub seconds : seconds_of (7 * 2 ^ 32 + 2 ^ 31) ≡ 7
  pub half : nanoseconds_of (7 * 2 ^ 32 + 2 ^ 31) ≡ 500000000
  -- of the time stamp above: 0x15161718 x 10^9 / 2^32, rounded down
  pub seconds_read : seconds_of 0x1112131415161718 ≡ 0x11121314
  pub nanoseconds_read : nanoseconds_of 0x1112131415161718 ≡ 82368319
  -- a fraction of 2^-32 is no whole nanosecond, one of 5 x 2^-32 is; the largest is less than a second
  pub least : nanoseconds_of 1 ≡ 0
  pub rounded_down : nanoseconds_of 5 ≡ 1
  pub largest : nanoseconds_of 0xFFFFFFFFFFFFFFFF ≡ 999999999
  -- the largest body, and one byte more
  pub at-limit : limit_fault 16777216 ≡ 0
  pub above-limit : limit_fault 16777217 ≡ 3

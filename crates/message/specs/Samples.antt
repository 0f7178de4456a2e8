-- Whole messages byte by byte, with what the reader answers to them and what the writer makes of their parts; and short inputs, one for
-- each number of the reader and the writer. They fix the order of the fields, the limits and the order of the checks, in both layouts.
use Rattle.std.specs.Prelude.{ℕ, ◌+◌, ◌-◌, ◌≡◌, true, false, List, [], ◌∷◌, ◌++◌, map, length, take, drop, replicate}
use Rattle.fields.specs.Answer.{Written, Wrote, Refused}
use Rattle.fields.specs.Numbers.{be_bytes}
use Rattle.fields.specs.Text.{text_bytes}
use Rattle.fields.specs.Layout.{join}
use Rattle.crc64.specs.Crc.{crc_of}
use Rattle.metadata.specs.Metadata.{Metadata, absent, section}
use Rattle.content.specs.Kinds.{transform_text, position_text, bind_text}
use Rattle.content.specs.Examples.{no_children, within}
use Rattle.content.specs.Tree.{transform, position, other}
use Rattle.message.specs.declared.Layout.{Layout}
use Rattle.message.specs.declared.Layout.TheVariants.{New, Old}
use Rattle.message.specs.declared.Answer.{Answer}
use Rattle.message.specs.LayoutNumber.{layout_of}
use Rattle.message.specs.Body.{Sections}
use Rattle.message.specs.Message.{Message, WellFormed, encode}
use Rattle.message.specs.MessageReader.{sections_fault, refused, read_of, type_in, name_in, further_in, content_in, metadata_in}
use Rattle.message.specs.MessageWriter.{FixedFields, given, message_written, message_out}

-- ---- V 1: a TRANSFORM from the device "Arm"

abbrev pub arm_text : List ℕ
arm_text = 65 ∷ 114 ∷ 109 ∷ []

abbrev pub arm_words : List ℕ
arm_words =
    0x20212223
    ∷ 0x24252627
    ∷ 0x28292A2B
    ∷ 0x2C2D2E2F
    ∷ 0x30313233
    ∷ 0x34353637
    ∷ 0x38393A3B
    ∷ 0x3C3D3E3F
    ∷ 0x40414243
    ∷ 0x44454647
    ∷ 0x48494A4B
    ∷ 0x4C4D4E4F
    ∷ []

abbrev pub arm_message : Message
arm_message =
    record {
      version = 1;
      type_rest = replicate 3 0;
      device_name = arm_text;
      name_rest = replicate 17 0;
      time_stamp = 0x0102030405060708;
      id = 0;
      further = [];
      content = transform arm_words;
      metadata = absent;
    }

abbrev pub arm_content : List ℕ
arm_content =
    join
    ((32 ∷ 33 ∷ 34 ∷ 35 ∷ 36 ∷ 37 ∷ 38 ∷ 39 ∷ 40 ∷ 41 ∷ 42 ∷ 43 ∷ 44 ∷ 45 ∷ 46 ∷ 47 ∷ [])
    ∷ (48 ∷ 49 ∷ 50 ∷ 51 ∷ 52 ∷ 53 ∷ 54 ∷ 55 ∷ 56 ∷ 57 ∷ 58 ∷ 59 ∷ 60 ∷ 61 ∷ 62 ∷ 63 ∷ [])
    ∷ (64 ∷ 65 ∷ 66 ∷ 67 ∷ 68 ∷ 69 ∷ 70 ∷ 71 ∷ 72 ∷ 73 ∷ 74 ∷ 75 ∷ 76 ∷ 77 ∷ 78 ∷ 79 ∷ [])
    ∷ [])

-- V, TYPE, DEVICE_NAME, TIME_STAMP, BODY_SIZE, CRC; the content
abbrev pub arm_bytes : List ℕ
arm_bytes =
    join
    ((0 ∷ 1 ∷ [])
    ∷ (84 ∷ 82 ∷ 65 ∷ 78 ∷ 83 ∷ 70 ∷ 79 ∷ 82 ∷ 77 ∷ 0 ∷ 0 ∷ 0 ∷ [])
    ∷ (65 ∷ 114 ∷ 109 ∷ 0 ∷ 0 ∷ 0 ∷ 0 ∷ 0 ∷ 0 ∷ 0 ∷ 0 ∷ 0 ∷ 0 ∷ 0 ∷ 0 ∷ 0 ∷ 0 ∷ 0 ∷ 0 ∷ 0 ∷ [])
    ∷ (1 ∷ 2 ∷ 3 ∷ 4 ∷ 5 ∷ 6 ∷ 7 ∷ 8 ∷ [])
    ∷ (0 ∷ 0 ∷ 0 ∷ 0 ∷ 0 ∷ 0 ∷ 0 ∷ 48 ∷ [])
    ∷ (0x6E ∷ 0x8B ∷ 0x65 ∷ 0xFE ∷ 0xC8 ∷ 0x0C ∷ 0x79 ∷ 0x8D ∷ [])
    ∷ arm_content
    ∷ [])

-- the answer to a clean message: its version; where its further bytes begin, 58 in V 1 and 70 in V 2; the lengths of its texts; its time stamp and
-- MSG_ID; the lengths of its further bytes, its content and its metadata
abbrev pub answer_of : (version start type_length name_length stamp id further size metadata : ℕ) → Answer
answer_of version start type_length name_length stamp id further size metadata =
    record {
      number = 0;
      step = start + further + size + metadata;
      version = version;
      type_len = type_length;
      name_len = name_length;
      time_stamp = stamp;
      id = id;
      further_at = start;
      further_len = further;
      content_at = start + further;
      content_len = size;
      metadata_at = start + further + size;
      metadata_len = metadata;
      clean = true;
    }

-- in V 1: the lengths of its texts, its time stamp and the length of its content
abbrev pub answer_of1 : ℕ → ℕ → ℕ → ℕ → Answer
answer_of1 type_length name_length stamp size = answer_of 1 58 type_length name_length stamp 0 0 size 0

abbrev pub arm_answer : Answer
arm_answer = answer_of1 9 3 0x0102030405060708 48

-- another one: time stamp 0, and all words 0, so that the CRC is 0
abbrev pub zero_bytes : List ℕ
zero_bytes = take 34 arm_bytes ++ (replicate 15 0 ++ (48 ∷ replicate 56 0))

abbrev pub zero_answer : Answer
zero_answer = answer_of1 9 3 0 48

-- a POSITION from "Arm" whose content has n bytes, n below 256: time stamp 0, and all words 0, so that the CRC is 0
abbrev pub position_bytes : ℕ → List ℕ
position_bytes n =
    join
    ((0 ∷ 1 ∷ [])
    ∷ (80 ∷ 79 ∷ 83 ∷ 73 ∷ 84 ∷ 73 ∷ 79 ∷ 78 ∷ replicate 4 0)
    ∷ (65 ∷ 114 ∷ 109 ∷ replicate 17 0)
    ∷ replicate 8 0
    ∷ (0 ∷ 0 ∷ 0 ∷ 0 ∷ 0 ∷ 0 ∷ 0 ∷ n ∷ [])
    ∷ replicate 8 0
    ∷ replicate n 0
    ∷ [])

abbrev pub position_answer : ℕ → Answer
position_answer n = answer_of1 8 3 0 n

-- ---- V 2: a STATUS from the device "Probe", with two further bytes, three bytes of content, and metadata with the key "K"

abbrev pub status_text : List ℕ
status_text = 83 ∷ 84 ∷ 65 ∷ 84 ∷ 85 ∷ 83 ∷ []

abbrev pub probe_text : List ℕ
probe_text = 80 ∷ 114 ∷ 111 ∷ 98 ∷ 101 ∷ []

abbrev pub probe_section : Metadata
probe_section = section (record { key = 75 ∷ []; encoding = 0x5152; value = 0x61 ∷ 0x62 ∷ [] } ∷ [])

abbrev pub probe_message : Message
probe_message =
    record {
      version = 2;
      type_rest = replicate 6 0;
      device_name = probe_text;
      name_rest = replicate 15 0;
      time_stamp = 0x1112131415161718;
      id = 0x21222324;
      further = 0x31 ∷ 0x32 ∷ [];
      content = other status_text (0x41 ∷ 0x42 ∷ 0x43 ∷ []);
      metadata = probe_section;
    }

-- INDEX_COUNT, KEY_SIZE, VALUE_ENCODING, VALUE_SIZE, the key and the value
abbrev pub probe_metadata : List ℕ
probe_metadata = 0 ∷ 1 ∷ 0 ∷ 1 ∷ 0x51 ∷ 0x52 ∷ 0 ∷ 0 ∷ 0 ∷ 2 ∷ 75 ∷ 0x61 ∷ 0x62 ∷ []

-- CRC. In the new layout: EXT_HEADER_SIZE and METADATA_HEADER_SIZE, METADATA_SIZE, MSG_ID. In the old: EXT_HEADER_SIZE and METADATA_SIZE,
-- MSG_ID, reserved
abbrev pub probe_numbers : Layout → List (List ℕ)
probe_numbers New =
    (0x10 ∷ 0x6B ∷ 0x55 ∷ 0x23 ∷ 0x2C ∷ 0xE1 ∷ 0xC1 ∷ 0x49 ∷ [])
    ∷ (0 ∷ 14 ∷ 0 ∷ 10 ∷ [])
    ∷ (0 ∷ 0 ∷ 0 ∷ 3 ∷ [])
    ∷ (0x21 ∷ 0x22 ∷ 0x23 ∷ 0x24 ∷ [])
    ∷ []
probe_numbers Old =
    (0x33 ∷ 0x65 ∷ 0xAF ∷ 0x01 ∷ 0xA9 ∷ 0x13 ∷ 0x2C ∷ 0x66 ∷ [])
    ∷ (0 ∷ 14 ∷ 0 ∷ 13 ∷ [])
    ∷ (0x21 ∷ 0x22 ∷ 0x23 ∷ 0x24 ∷ [])
    ∷ (0 ∷ 0 ∷ 0 ∷ 0 ∷ [])
    ∷ []

-- V, TYPE, DEVICE_NAME, TIME_STAMP, BODY_SIZE; these numbers; further bytes; content; metadata
abbrev pub probe_bytes : Layout → List ℕ
probe_bytes l =
    join
    ((0 ∷ 2 ∷ [])
    ∷ (83 ∷ 84 ∷ 65 ∷ 84 ∷ 85 ∷ 83 ∷ 0 ∷ 0 ∷ 0 ∷ 0 ∷ 0 ∷ 0 ∷ [])
    ∷ (80 ∷ 114 ∷ 111 ∷ 98 ∷ 101 ∷ 0 ∷ 0 ∷ 0 ∷ 0 ∷ 0 ∷ 0 ∷ 0 ∷ 0 ∷ 0 ∷ 0 ∷ 0 ∷ 0 ∷ 0 ∷ 0 ∷ 0 ∷ [])
    ∷ (0x11 ∷ 0x12 ∷ 0x13 ∷ 0x14 ∷ 0x15 ∷ 0x16 ∷ 0x17 ∷ 0x18 ∷ [])
    ∷ (0 ∷ 0 ∷ 0 ∷ 0 ∷ 0 ∷ 0 ∷ 0 ∷ 30 ∷ [])
    ∷ join (probe_numbers l)
    ∷ (0x31 ∷ 0x32 ∷ [])
    ∷ (0x41 ∷ 0x42 ∷ 0x43 ∷ [])
    ∷ probe_metadata
    ∷ [])

abbrev pub probe_answer : Answer
probe_answer = answer_of 2 70 6 5 0x1112131415161718 0x21222324 2 3 13

-- ---- V 2: a POSITION from a device whose name fills its field, with two further bytes, six words, and the same metadata

-- "ABCDEFGHIJKLMNOPQRST"
abbrev pub point_text : List ℕ
point_text =
    join
    ((65 ∷ 66 ∷ 67 ∷ 68 ∷ 69 ∷ 70 ∷ 71 ∷ 72 ∷ 73 ∷ 74 ∷ [])
    ∷ (75 ∷ 76 ∷ 77 ∷ 78 ∷ 79 ∷ 80 ∷ 81 ∷ 82 ∷ 83 ∷ 84 ∷ [])
    ∷ [])

abbrev pub point_words : List ℕ
point_words = 0x60616263 ∷ 0x64656667 ∷ 0x68696A6B ∷ 0x6C6D6E6F ∷ 0x70717273 ∷ 0x74757677 ∷ []

abbrev pub point_message : Message
point_message =
    record {
      version = 2;
      type_rest = replicate 4 0;
      device_name = point_text;
      name_rest = [];
      time_stamp = 0x3132333435363738;
      id = 0x41424344;
      further = 0x51 ∷ 0x52 ∷ [];
      content = position point_words;
      metadata = probe_section;
    }

abbrev pub point_content : List ℕ
point_content =
    join
    ((0x60 ∷ 0x61 ∷ 0x62 ∷ 0x63 ∷ 0x64 ∷ 0x65 ∷ 0x66 ∷ 0x67 ∷ 0x68 ∷ 0x69 ∷ 0x6A ∷ 0x6B ∷ [])
    ∷ (0x6C ∷ 0x6D ∷ 0x6E ∷ 0x6F ∷ 0x70 ∷ 0x71 ∷ 0x72 ∷ 0x73 ∷ 0x74 ∷ 0x75 ∷ 0x76 ∷ 0x77 ∷ [])
    ∷ [])

-- as of the STATUS
abbrev pub point_numbers : Layout → List (List ℕ)
point_numbers New =
    (0xCD ∷ 0xAC ∷ 0x11 ∷ 0xEF ∷ 0x85 ∷ 0x13 ∷ 0xD7 ∷ 0x10 ∷ [])
    ∷ (0 ∷ 14 ∷ 0 ∷ 10 ∷ [])
    ∷ (0 ∷ 0 ∷ 0 ∷ 3 ∷ [])
    ∷ (0x41 ∷ 0x42 ∷ 0x43 ∷ 0x44 ∷ [])
    ∷ []
point_numbers Old =
    (0x97 ∷ 0xA9 ∷ 0x52 ∷ 0x9D ∷ 0xFC ∷ 0x22 ∷ 0xF7 ∷ 0xC0 ∷ [])
    ∷ (0 ∷ 14 ∷ 0 ∷ 13 ∷ [])
    ∷ (0x41 ∷ 0x42 ∷ 0x43 ∷ 0x44 ∷ [])
    ∷ (0 ∷ 0 ∷ 0 ∷ 0 ∷ [])
    ∷ []

abbrev pub point_bytes : Layout → List ℕ
point_bytes l =
    join
    ((0 ∷ 2 ∷ [])
    ∷ (80 ∷ 79 ∷ 83 ∷ 73 ∷ 84 ∷ 73 ∷ 79 ∷ 78 ∷ 0 ∷ 0 ∷ 0 ∷ 0 ∷ [])
    ∷ point_text
    ∷ (0x31 ∷ 0x32 ∷ 0x33 ∷ 0x34 ∷ 0x35 ∷ 0x36 ∷ 0x37 ∷ 0x38 ∷ [])
    ∷ (0 ∷ 0 ∷ 0 ∷ 0 ∷ 0 ∷ 0 ∷ 0 ∷ 51 ∷ [])
    ∷ join (point_numbers l)
    ∷ (0x51 ∷ 0x52 ∷ [])
    ∷ point_content
    ∷ probe_metadata
    ∷ [])

abbrev pub point_answer : Answer
point_answer = answer_of 2 70 8 20 0x3132333435363738 0x41424344 2 24 13

-- the message m has the bytes s, and the reader answers a to them, also where more bytes follow; the writer, given these arguments, writes
-- them, and keeps the bytes beyond
pub record Sample (l : Layout) (m : Message) (s : List ℕ) (a : Answer) (f : FixedFields) (type name further content metadata : List ℕ) : Type 0 where
  pub well : WellFormed l m
  pub bytes : encode l m ≡ s
  pub read : read_of l s ≡ a
  pub read_more : read_of l (s ++ (7 ∷ [])) ≡ a
  -- with another last byte; without it; as V 3; as V 3 and without its last byte
  pub damaged : read_of l (take (length s - 1) s ++ (0 ∷ [])) ≡ refused 5 (length s)
  pub changed : read_of l (take (length s - 1) s) ∷ read_of l (0 ∷ 3 ∷ drop 2 s) ∷ read_of l (0 ∷ 3 ∷ drop 2 (take (length s - 1) s)) ∷ []
      ≡ refused 1 0 ∷ refused 4 (length s) ∷ refused 1 0 ∷ []
  pub parts : type_in s a ∷ name_in s a ∷ further_in s a ∷ content_in s a ∷ metadata_in s a ∷ [] ≡ type ∷ name ∷ further ∷ content ∷ metadata ∷ []
  pub written : message_written l (given f type name further content metadata) (length s) ≡ Wrote (length s)
  pub out : message_out l (given f type name further content metadata) (replicate (length s) 255 ++ (7 ∷ [])) ≡ s ++ (7 ∷ [])

abbrev pub ArmSample : Layout → Type 0
ArmSample l =
    Sample l arm_message arm_bytes arm_answer (record { version = 1; time_stamp = 0x0102030405060708; id = 0 })
    transform_text arm_text [] arm_content []

abbrev pub ProbeSample : Layout → Type 0
ProbeSample l =
    Sample l probe_message (probe_bytes l) probe_answer (record { version = 2; time_stamp = 0x1112131415161718; id = 0x21222324 })
    status_text probe_text (0x31 ∷ 0x32 ∷ []) (0x41 ∷ 0x42 ∷ 0x43 ∷ []) probe_metadata

abbrev pub PointSample : Layout → Type 0
PointSample l =
    Sample l point_message (point_bytes l) point_answer (record { version = 2; time_stamp = 0x3132333435363738; id = 0x41424344 })
    position_text point_text (0x51 ∷ 0x52 ∷ []) point_content probe_metadata

-- the two layouts, and of each the other
abbrev pub layouts : List Layout
layouts = New ∷ Old ∷ []

abbrev pub other_than : Layout → Layout
other_than New = Old
other_than Old = New

-- ---- short streams

-- 58 bytes: V 1 and this TYPE and BODY_SIZE
abbrev pub head_of : List ℕ → ℕ → List ℕ
head_of type size = join (be_bytes 2 1 ∷ text_bytes 12 type ∷ replicate 20 0 ∷ replicate 8 0 ∷ be_bytes 8 size ∷ replicate 8 0 ∷ [])

-- this V, TYPE, CRC and body
abbrev pub stream_of : ℕ → List ℕ → ℕ → List ℕ → List ℕ
stream_of version type crc body =
    join (be_bytes 2 version ∷ text_bytes 12 type ∷ replicate 20 0 ∷ replicate 8 0 ∷ be_bytes 8 (length body) ∷ be_bytes 8 crc ∷ body ∷ [])

-- the same with the body's own CRC
abbrev pub sound_of : ℕ → List ℕ → List ℕ → List ℕ
sound_of version type body = stream_of version type (crc_of body) body

abbrev pub answers_to : Layout → List (List ℕ) → List Answer
answers_to l ss = map (read_of l) ss

-- the sections of V 1 with this content
abbrev pub content_alone : List ℕ → Sections
content_alone c = record { id = 0; further = []; content = c; metadata = [] }

-- ---- short writes

-- MSG_ID, further bytes, an empty TRANSFORM, metadata and room
abbrev pub writes : Layout → ℕ → ℕ → List ℕ → List ℕ → ℕ → Written
writes l version id further metadata room =
    message_written l (given (record { version = version; time_stamp = 0; id = id }) transform_text [] further [] metadata) room

-- a TYPE and a DEVICE_NAME, and nothing else, in V 3
abbrev pub writes_names : Layout → List ℕ → List ℕ → Written
writes_names l type name = message_written l (given (record { version = 3; time_stamp = 0; id = 0 }) type name [] [] []) 0

-- a content of the type "A"
abbrev pub writes_content : Layout → ℕ → List ℕ → ℕ → Written
writes_content l version content room =
    message_written l (given (record { version = version; time_stamp = 0; id = 0 }) (65 ∷ []) [] [] content []) room

-- the answer to no bytes, all numbers written out
abbrev pub no_answer : Answer
no_answer =
    record {
      number = 1;
      step = 0;
      version = 0;
      type_len = 0;
      name_len = 0;
      time_stamp = 0;
      id = 0;
      further_at = 0;
      further_len = 0;
      content_at = 0;
      content_len = 0;
      metadata_at = 0;
      metadata_len = 0;
      clean = false;
    }

pub record Samples : Type 0 where
  -- 1 is the old layout
  pub numbers : map layout_of (0 ∷ 1 ∷ 2 ∷ 257 ∷ []) ≡ New ∷ Old ∷ New ∷ New ∷ []
  pub arm : (l : Layout) → ArmSample l
  pub probe : (l : Layout) → ProbeSample l
  pub point : (l : Layout) → PointSample l
  -- read in the other layout
  pub other_probe : (l : Layout) → read_of (other_than l) (probe_bytes l) ≡ refused 6 88
  pub other-point : (l : Layout) → read_of (other_than l) (point_bytes l) ≡ refused 6 109
  pub zeros : (l : Layout) → read_of l zero_bytes ≡ zero_answer
  pub position_12 : (l : Layout) → read_of l (position_bytes 12) ≡ position_answer 12
  pub position_28 : (l : Layout) → read_of l (position_bytes 28) ≡ position_answer 28
  -- ---- the reader, rule 5.2
  -- no bytes: all but the number is 0, and the mark is false
  pub nothing : (l : Layout) → read_of l [] ≡ no_answer
  -- 57 bytes whose TYPE has a byte 128; 2 before 3; 3 before the 1 of the whole; the largest body; no body
  pub front : (l : Layout) → answers_to l
      (take 57 (head_of (128 ∷ []) 0)
      ∷ head_of (128 ∷ []) 16777217
      ∷ head_of [] 16777217
      ∷ head_of [] 16777216
      ∷ head_of [] 1
      ∷ head_of [] 0
      ∷ [])
      ≡ refused 1 0 ∷ refused 2 0 ∷ refused 3 0 ∷ refused 1 0 ∷ refused 1 0 ∷ answer_of1 0 0 0 0 ∷ []
  -- 4 before 5: V 0, 3 and 256 with another CRC; 5 before 6: in V 2 a body of one byte with another CRC
  pub version_crc : (l : Layout) → answers_to l
      (stream_of 0 [] 1 (0 ∷ [])
      ∷ stream_of 3 [] 1 (0 ∷ [])
      ∷ stream_of 256 [] 1 (0 ∷ [])
      ∷ stream_of 2 [] 1 (0 ∷ [])
      ∷ [])
      ≡ refused 4 59 ∷ refused 4 59 ∷ refused 4 59 ∷ refused 5 59 ∷ []
  -- the CRC of 01 is not 0
  pub crc_left_out : (l : Layout) → read_of l (stream_of 1 [] 0 (1 ∷ [])) ≡ refused 5 59
  -- a BIND down to level 4, and one to level 5 (rule 4.15), as the reader and the writer judge it
  pub levels : sections_fault bind_text (content_alone (within (within (within no_children))))
      ∷ sections_fault bind_text (content_alone (within (within (within (within no_children)))))
      ∷ []
      ≡ 0 ∷ 11 ∷ []
  -- ---- the writer, rules 5.8, 5.9 and 5.11
  -- 2: a TYPE of 13 bytes, with a byte 0, with a byte 128; a DEVICE_NAME of 21. 2 before 4; 4
  pub names : (l : Layout) → writes_names l (replicate 13 65) []
      ∷ writes_names l (0 ∷ []) []
      ∷ writes_names l (128 ∷ []) []
      ∷ writes_names l [] (replicate 21 65)
      ∷ writes_names l (replicate 12 65) (replicate 20 127)
      ∷ []
      ≡ Refused 2 ∷ Refused 2 ∷ Refused 2 ∷ Refused 2 ∷ Refused 4 ∷ []
  -- 4 before 6: V 3 with a MSG_ID; 6: V 1 with a MSG_ID, further bytes, metadata. 6 before 7, 7 before 8, 8 before 20
  pub parts : map
      (λ l.
      writes l 3 1 [] [] 0
      ∷ writes l 1 1 [] [] 0
      ∷ writes l 1 0 (7 ∷ []) [] 0
      ∷ writes l 1 0 [] (0 ∷ []) 0
      ∷ writes l 2 1 [] (0 ∷ []) 0
      ∷ writes l 2 1 [] [] 0
      ∷ [])
      layouts
      ≡ replicate 2 (Refused 4 ∷ Refused 6 ∷ Refused 6 ∷ Refused 6 ∷ Refused 7 ∷ Refused 8 ∷ [])
  -- the largest body, and one byte more, in V 1 and in V 2; V 3 is judged after it
  pub largest : (l : Layout) (c : List ℕ) → length c ≡ 16777216 → writes_content l 1 c 16777274 ≡ Wrote 16777274
  pub largest_extended : (c : List ℕ) → length c ≡ 16777204 → map (λ l. writes_content l 2 c 16777274) layouts ≡ replicate 2 (Wrote 16777274)
  pub too_large : (l : Layout) (c : List ℕ) → length c ≡ 16777217 → (writes_content l 1 c 0 ≡ Refused 3) × (writes_content l 3 c 0 ≡ Refused 3)
  pub too_large_extended : (l : Layout) (c : List ℕ) → length c ≡ 16777205 → writes_content l 2 c 0 ≡ Refused 3
  -- in V 2 further bytes and metadata are of the body, in any other V they are not
  pub parts_counted : (l : Layout) (c : List ℕ) → length c ≡ 16777205 → (writes l 2 0 c [] 0 ≡ Refused 3) × (writes l 2 0 [] c 0 ≡ Refused 3)
  pub parts_not_counted : (l : Layout) (c : List ℕ) → length c ≡ 16777217
      → (writes l 1 0 c [] 0 ≡ Refused 6) × (writes l 1 0 [] c 0 ≡ Refused 6) × (writes l 3 0 c c 0 ≡ Refused 4)
  -- 20: one byte of room short
  pub room : (l : Layout) → writes_content l 1 (7 ∷ []) 58 ∷ writes_content l 1 (7 ∷ []) 59 ∷ [] ≡ Refused 20 ∷ Wrote 59 ∷ []

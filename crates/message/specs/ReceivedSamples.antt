-- Messages from a sender that does not clear its text fields (rules 2.4 and 13.1 to 13.7), byte by byte: what the reader answers, and what the
-- writer makes of what is handed out. They fix where a text ends, which bytes are zeroed, and which CRC is asked for and which is written.
use Rattle.std.specs.Prelude.{ℕ, ◌≡◌, false, List, [], ◌∷◌, ◌++◌, length, drop, replicate}
use Rattle.fields.specs.Answer.{Wrote, Refused}
use Rattle.fields.specs.Layout.{join}
use Rattle.metadata.specs.Metadata.{absent}
use Rattle.content.specs.Kinds.{transform_text, bind_text}
use Rattle.content.specs.Examples.{within, inner, outer, inner_rest, outer_rest}
use Rattle.content.specs.Tree.{transform, bind, none, more}
use Rattle.message.specs.declared.Layout.{Layout}
use Rattle.message.specs.declared.Layout.TheVariants.{New, Old}
use Rattle.message.specs.declared.Answer.{Answer}
use Rattle.message.specs.Message.{Message, WellFormed, encode, cleaned}
use Rattle.message.specs.MessageReader.{refused, read_of, type_in, name_in, content_in}
use Rattle.message.specs.MessageWriter.{given, message_written, message_out}
use Rattle.message.specs.Samples.{arm_text, answer_of, answer_of1, probe_metadata}

-- the same answer, of a message that is not clean
abbrev pub unclean : Answer → Answer
unclean a =
    record {
      number = a.number;
      step = a.step;
      version = a.version;
      type_len = a.type_len;
      name_len = a.name_len;
      time_stamp = a.time_stamp;
      id = a.id;
      further_at = a.further_at;
      further_len = a.further_len;
      content_at = a.content_at;
      content_len = a.content_len;
      metadata_at = a.metadata_at;
      metadata_len = a.metadata_len;
      clean = false;
    }

-- the 58 bytes of a header of V 1 with these fields: TYPE, DEVICE_NAME, the last byte of BODY_SIZE, CRC
abbrev pub front_of : List ℕ → List ℕ → ℕ → List ℕ → List ℕ
front_of type name size crc = join ((0 ∷ 1 ∷ []) ∷ type ∷ name ∷ replicate 8 0 ∷ (replicate 7 0 ++ (size ∷ [])) ∷ crc ∷ [])

-- ---- a TRANSFORM from "Arm", with bytes behind both texts of the header

abbrev pub tracker_message : Message
tracker_message =
    record {
      version = 1;
      type_rest = 0 ∷ 0xFF ∷ 0x80 ∷ [];
      device_name = arm_text;
      name_rest = 0 ∷ replicate 16 0x99;
      time_stamp = 0;
      id = 0;
      further = [];
      content = transform (replicate 12 0x07070707);
      metadata = absent;
    }

-- the header with these rests
abbrev pub tracker_front : List ℕ → List ℕ → List ℕ
tracker_front type_rest name_rest =
    front_of
    (0x54 ∷ 0x52 ∷ 0x41 ∷ 0x4E ∷ 0x53 ∷ 0x46 ∷ 0x4F ∷ 0x52 ∷ 0x4D ∷ type_rest)
    (0x41 ∷ 0x72 ∷ 0x6D ∷ name_rest)
    48
    (0x8B ∷ 0x13 ∷ 0x5E ∷ 0x00 ∷ 0xF1 ∷ 0x8E ∷ 0x82 ∷ 0xB9 ∷ [])

abbrev pub tracker_bytes : List ℕ → List ℕ → List ℕ
tracker_bytes type_rest name_rest = tracker_front type_rest name_rest ++ replicate 48 7

-- ---- a BIND in a BIND, with bytes behind the CTYPEs of both

abbrev pub bundle_message : Message
bundle_message =
    record {
      version = 1;
      type_rest = replicate 8 0;
      device_name = arm_text;
      name_rest = replicate 17 0;
      time_stamp = 0;
      id = 0;
      further = [];
      content =
          bind
          (more outer_rest (0x4E ∷ [])
          (bind (more inner_rest (0x41 ∷ []) (transform (replicate 12 0x07070707)) none))
          none);
      metadata = absent;
    }

-- the header with this CRC
abbrev pub bundle_front : List ℕ → List ℕ
bundle_front crc = front_of (0x42 ∷ 0x49 ∷ 0x4E ∷ 0x44 ∷ replicate 8 0) (0x41 ∷ 0x72 ∷ 0x6D ∷ replicate 17 0) 100 crc

-- the content as received and its CRC; the cleaned content and its CRC
abbrev pub received_content : List ℕ
received_content = outer outer_rest (inner inner_rest)

abbrev pub received_crc : List ℕ
received_crc = 0x04 ∷ 0x6D ∷ 0xB9 ∷ 0x56 ∷ 0x19 ∷ 0xDA ∷ 0xD8 ∷ 0x9C ∷ []

abbrev pub cleaned_content : List ℕ
cleaned_content = outer (replicate 8 0) (inner (replicate 3 0))

abbrev pub cleaned_crc : List ℕ
cleaned_crc = 0xAF ∷ 0x61 ∷ 0x2C ∷ 0xD4 ∷ 0x8C ∷ 0xD2 ∷ 0xBD ∷ 0xFC ∷ []

-- ---- V 2: the same content, with MSG_ID 21222324, two further bytes and metadata

-- EXT_HEADER_SIZE to MSG_ID, or to the reserved word
abbrev pub extended_front : Layout → List ℕ
extended_front New = 0 ∷ 14 ∷ 0 ∷ 10 ∷ 0 ∷ 0 ∷ 0 ∷ 3 ∷ 0x21 ∷ 0x22 ∷ 0x23 ∷ 0x24 ∷ []
extended_front Old = 0 ∷ 14 ∷ 0 ∷ 13 ∷ 0x21 ∷ 0x22 ∷ 0x23 ∷ 0x24 ∷ 0 ∷ 0 ∷ 0 ∷ 0 ∷ []

-- with this rest of TYPE, this CRC and this content
abbrev pub extended_bytes : Layout → List ℕ → List ℕ → List ℕ → List ℕ
extended_bytes l type_rest crc content =
    join
    ((0 ∷ 2 ∷ [])
    ∷ (0x42 ∷ 0x49 ∷ 0x4E ∷ 0x44 ∷ type_rest)
    ∷ (0x41 ∷ 0x72 ∷ 0x6D ∷ replicate 17 0)
    ∷ replicate 8 0
    ∷ (replicate 7 0 ++ (127 ∷ []))
    ∷ crc
    ∷ extended_front l
    ∷ (0x31 ∷ 0x32 ∷ [])
    ∷ content
    ∷ probe_metadata
    ∷ [])

-- the CRC of the body as received, and of the cleaned body
abbrev pub extended_crc : Layout → List ℕ
extended_crc New = 0xF1 ∷ 0x6D ∷ 0x11 ∷ 0xC6 ∷ 0x38 ∷ 0x01 ∷ 0xE4 ∷ 0xED ∷ []
extended_crc Old = 0x19 ∷ 0xF8 ∷ 0xAF ∷ 0x40 ∷ 0xF4 ∷ 0x06 ∷ 0x2F ∷ 0x12 ∷ []

abbrev pub extended_clean_crc : Layout → List ℕ
extended_clean_crc New = 0xA3 ∷ 0xAF ∷ 0xF4 ∷ 0xF2 ∷ 0xA6 ∷ 0xD3 ∷ 0x8E ∷ 0x13 ∷ []
extended_clean_crc Old = 0x4B ∷ 0x3A ∷ 0x4A ∷ 0x74 ∷ 0x6A ∷ 0xD4 ∷ 0x45 ∷ 0xEC ∷ []

abbrev pub extended_answer : Answer
extended_answer = answer_of 2 70 4 3 0 0x21222324 2 100 13

-- ---- what holds of the two of V 1

-- the message m has the bytes s, and cleaned the bytes t; the reader answers a to t, and the same to s but for the mark. The texts and the
-- content are handed out of s; given them, the writer writes t, and keeps the bytes beyond
pub record Received (l : Layout) (m : Message) (s t : List ℕ) (a : Answer) (type name content : List ℕ) : Type 0 where
  pub well : WellFormed l m
  pub bytes : encode l m ≡ s
  pub cleaned_bytes : encode l (cleaned m) ≡ t
  pub read : read_of l s ≡ unclean a
  pub cleaned_read : read_of l t ≡ a
  pub parts : type_in s a ∷ name_in s a ∷ content_in s a ∷ [] ≡ type ∷ name ∷ content ∷ []
  pub written : message_written l (given (record { version = 1; time_stamp = 0; id = 0 }) type name [] content []) (length s) ≡ Wrote (length s)
  pub out : message_out l (given (record { version = 1; time_stamp = 0; id = 0 }) type name [] content []) (replicate (length s) 255 ++ (7 ∷ []))
      ≡ t ++ (7 ∷ [])

pub record ReceivedSamples : Type 0 where
  pub tracker : (l : Layout)
      → Received l tracker_message (tracker_bytes (0 ∷ 0xFF ∷ 0x80 ∷ []) (0 ∷ replicate 16 0x99)) (tracker_bytes (replicate 3 0) (replicate 17 0)) (answer_of1 9 3 0 48)
      transform_text arm_text (replicate 48 7)
  pub bundle : (l : Layout)
      → Received l bundle_message (bundle_front received_crc ++ received_content) (bundle_front cleaned_crc ++ cleaned_content) (answer_of1 4 3 0 100)
      bind_text arm_text received_content
  -- V 2: the CTYPEs alone not clean, all clean, TYPE alone not clean
  pub extended : (l : Layout)
      → read_of l (extended_bytes l (replicate 8 0) (extended_crc l) received_content)
      ∷ read_of l (extended_bytes l (replicate 8 0) (extended_clean_crc l) cleaned_content)
      ∷ read_of l (extended_bytes l (0 ∷ replicate 7 0xFF) (extended_clean_crc l) cleaned_content)
      ∷ []
      ≡ unclean extended_answer ∷ extended_answer ∷ unclean extended_answer ∷ []
  -- written back: the content cleaned, with the CRC of that body; MSG_ID, further bytes and metadata as they were
  pub extended_out : (l : Layout)
      → message_out l
      (given (record { version = 2; time_stamp = 0; id = 0x21222324 }) bind_text arm_text (0x31 ∷ 0x32 ∷ []) received_content probe_metadata)
      (replicate 185 255 ++ (7 ∷ []))
      ≡ extended_bytes l (replicate 8 0) (extended_clean_crc l) cleaned_content ++ (7 ∷ [])
  -- the body as it is written, of a BIND down to level 4
  pub deep_out : (l : Layout)
      → drop 58
      (message_out l
      (given (record { version = 1; time_stamp = 0; id = 0 }) bind_text arm_text [] (within (within (within (inner inner_rest)))) [])
      (replicate 210 255))
      ≡ within (within (within (inner (replicate 3 0))))
  -- the mark is of each text: TYPE alone, DEVICE_NAME alone
  pub one_text : (l : Layout)
      → read_of l (tracker_bytes (0 ∷ 0 ∷ 1 ∷ []) (replicate 17 0)) ∷ read_of l (tracker_bytes (replicate 3 0) (replicate 16 0 ++ (1 ∷ []))) ∷ []
      ≡ replicate 2 (unclean (answer_of1 9 3 0 48))
  -- a byte 128 before the first 0 of either text is 2
  pub no_text : (l : Layout)
      → read_of l (tracker_bytes (0x80 ∷ 0 ∷ 0 ∷ []) (replicate 17 0)) ∷ read_of l (tracker_bytes (replicate 3 0) (0x80 ∷ replicate 16 0)) ∷ []
      ≡ replicate 2 (refused 2 0)
  -- the cleaned body's CRC, with the body as received; and the other way round
  pub other_crc : (l : Layout) → read_of l (bundle_front cleaned_crc ++ received_content) ∷ read_of l (bundle_front received_crc ++ cleaned_content) ∷ []
      ≡ replicate 2 (refused 5 158)
  -- an empty TYPE with a byte at its field's end: any content, not clean
  pub empty_type : (l : Layout) → read_of l (front_of (replicate 11 0 ++ (0x41 ∷ [])) (replicate 20 0) 0 (replicate 8 0)) ≡ unclean (answer_of1 0 0 0 0)
  -- a TYPE with its 0, given to the writer
  pub no_name : (l : Layout) → message_written l (given (record { version = 1; time_stamp = 0; id = 0 }) (bind_text ++ (0 ∷ [])) [] [] received_content []) 158
      ≡ Refused 2

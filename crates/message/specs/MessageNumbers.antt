-- The number of each refusal, in order, in each layout: of the reader with its step (rules 5.2 and 5.3), and of the writer (rules 5.8 to 5.11).
use Rattle.std.specs.Prelude.{ℕ, ◌+◌, ◌-◌, ◌^◌, ◌<◌, ◌≤◌, ◌≡◌, ◌⊎◌, true, false, List, ◌++◌, length, drop, replicate}
use Rattle.fields.specs.Bytes.{Bytes}
use Rattle.fields.specs.Numbers.{be_at}
use Rattle.fields.specs.Checks.{or_else}
use Rattle.fields.specs.Answer.{Written, written_number, written_count, room_fault}
use Rattle.crc64.specs.Crc.{crc_of}
use Rattle.header.specs.Header.{Header, WellTexts, WellHeader, encode_header, body_limit}
use Rattle.header.specs.HeaderTheorems.{BeginsWith, TextsHeld}
use Rattle.metadata.specs.MetadataCheck.{index_count, index_size_in}
use Rattle.metadata.specs.MetadataTheorems.{IsMetadata}
use Rattle.content.specs.ContentCheck.{content_fault, deepest}
use Rattle.message.specs.declared.Answer.{Answer}
use Rattle.message.specs.declared.Layout.{Layout}
use Rattle.message.specs.declared.Layout.TheVariants.{New, Old}
use Rattle.message.specs.Body.{Sections, Plain, WellSections, encode_body}
use Rattle.message.specs.Message.{Parts}
use Rattle.message.specs.MessageReader.{refused, read_of, handed}
use Rattle.message.specs.BodyTheorems.{IsVersion, BreaksExtended, Agrees}
use Rattle.message.specs.MessageWriter.{body_given, encode_parts, clean_parts, message_written, message_out, MessagePromise}

-- ---- the reader

-- the whole of a message is there: the header h, and the body b of its size
pub record Whole (s : List ℕ) (h : Header) (b : List ℕ) : Type 0 where
  pub well : WellHeader h
  pub size : length b ≡ h.body_size
  pub bytes : Bytes b
  pub rest : List ℕ
  pub front : encode_header h ++ (b ++ rest) ≡ s

-- V is 1 or 2, and the CRC is the body's
pub record Sound (h : Header) (b : List ℕ) : Type 0 where
  pub version : IsVersion h.version
  pub crc : crc_of b ≡ h.crc

-- the body is laid out as these sections, with k as the size of the metadata's index
pub record LaidOut (l : Layout) (h : Header) (b : List ℕ) (k : ℕ) (x : Sections) : Type 0 where
  pub sound : Sound h b
  pub well : WellSections l h.version k x
  pub body : encode_body l h.version k x ≡ b

-- the number and the step of an answer, and nothing else
abbrev pub number_and_step : Answer → Answer
number_and_step a =
    record {
      number = a.number;
      step = a.step;
      version = 0;
      type_len = 0;
      name_len = 0;
      time_stamp = 0;
      id = 0;
      further_at = 0;
      further_len = 0;
      content_at = 0;
      content_len = 0;
      metadata_at = 0;
      metadata_len = 0;
      clean = false;
    }

pub record Refusals (l : Layout) : Type 0 where
  pub short : (s : List ℕ) → length s < 58 → read_of l s ≡ refused 1 0
  pub no_text : (s : List ℕ) → 58 ≤ length s → (TextsHeld s → ⊥) → read_of l s ≡ refused 2 0
  pub too_long : (s : List ℕ) → 58 ≤ length s → TextsHeld s → body_limit < be_at 8 42 s → read_of l s ≡ refused 3 0
  pub cut_short : (s : List ℕ) (h : Header) → BeginsWith s h → length s < 58 + h.body_size → read_of l s ≡ refused 1 0
  pub version : (s : List ℕ) (h : Header) (b : List ℕ) → Whole s h b → (h.version ≡ 1 → ⊥) → (h.version ≡ 2 → ⊥)
      → read_of l s ≡ refused 4 (58 + h.body_size)
  pub crc : (s : List ℕ) (h : Header) (b : List ℕ) → Whole s h b → IsVersion h.version → (crc_of b ≡ h.crc → ⊥)
      → read_of l s ≡ refused 5 (58 + h.body_size)
  pub extended : (s : List ℕ) (h : Header) (b : List ℕ) → Whole s h b → Sound h b → h.version ≡ 2 → BreaksExtended l b
      → read_of l s ≡ refused 6 (58 + h.body_size)
  pub metadata : (s : List ℕ) (h : Header) (b : List ℕ) (k : ℕ) (x : Sections) → Whole s h b → LaidOut l h b k x → (IsMetadata x.metadata → ⊥)
      → read_of l s ≡ refused 7 (58 + h.body_size)
  pub sizes : (s : List ℕ) (h : Header) (b : List ℕ) (k : ℕ) (x : Sections) → Whole s h b → LaidOut l h b k x
      → (Agrees l h.version k x.metadata → ⊥) → read_of l s ≡ refused 7 (58 + h.body_size)
  -- the content's own number, as `Numbers` of crate content has it
  pub content : (s : List ℕ) (h : Header) (b : List ℕ) (k : ℕ) (x : Sections) → Whole s h b → LaidOut l h b k x → IsMetadata x.metadata
      → Agrees l h.version k x.metadata → (content_fault deepest h.type_text x.content ≡ 0 → ⊥)
      → read_of l s ≡ refused (content_fault deepest h.type_text x.content) (58 + h.body_size)
  -- a refusal hands out nothing besides its number and its step
  pub nothing_handed : (s : List ℕ) → ((read_of l s).number ≡ 0 → ⊥) → read_of l s ≡ number_and_step (read_of l s)

-- ---- the writer

-- what every value of the arguments' types keeps, and the zeros behind the two texts
pub record Given (l : Layout) (p : Parts) : Type 0 where
  pub version_fits : p.version < 256 ^ 2
  pub stamp_fits : p.time_stamp < 256 ^ 8
  pub id_fits : p.sections.id < 256 ^ 4
  pub further_bytes : Bytes p.sections.further
  pub type_zeros : p.type_rest ≡ replicate (12 - length p.type_text) 0
  pub name_zeros : p.name_rest ≡ replicate (20 - length p.device_name) 0
  pub body_fits : length (body_given l p) < 256 ^ 8

-- of V 2, metadata with a size that does not fit its two bytes
abbrev pub SizeUnfit : Layout → List ℕ → Type 0
SizeUnfit New s = 8191 < index_count s
SizeUnfit Old s = 256 ^ 2 ≤ length s

-- what rule 5.9 refuses: in V 1 anything but the content, in V 2 a part longer than its size field can say
abbrev pub Unfit : Layout → ℕ → Sections → Type 0
Unfit l version x =
    ((version ≡ 1) × (Plain x → ⊥))
    ⊎ ((version ≡ 2) × ((256 ^ 2 ≤ 12 + length x.further) ⊎ SizeUnfit l x.metadata))

-- in V 2 of the new layout, the metadata is at least as long as its index; all accepted metadata is (`MetadataTheorems`, index_within)
abbrev pub HasIndex : Layout → ℕ → List ℕ → Type 0
HasIndex New version s = version ≡ 2 → index_size_in s ≤ length s
HasIndex Old version s = Unit {0}

-- what was written is accepted and marked clean, and handed out as what was given, its content cleaned; the bytes beyond are as they were
pub record ReadBack (l : Layout) (p : Parts) (out : List ℕ) : Type 0 where
  pub count : written_count (message_written l p (length out)) ≡ length (encode_parts l p)
  pub bytes : message_out l p out ≡ encode_parts l (clean_parts p) ++ drop (length (encode_parts l p)) out
  pub accepted : (read_of l (encode_parts l (clean_parts p))).number ≡ 0
  pub clean : (read_of l (encode_parts l (clean_parts p))).clean ≡ true
  pub handed_out : handed (encode_parts l (clean_parts p)) (read_of l (encode_parts l (clean_parts p))) ≡ clean_parts p

pub record WriterNumbers (l : Layout) : Type 0 where
  pub names : (p : Parts) (room : ℕ) → (WellTexts p.type_text p.device_name → ⊥) → written_number (message_written l p room) ≡ 2
  pub too_long : (p : Parts) (room : ℕ) → WellTexts p.type_text p.device_name → body_limit < length (body_given l p)
      → written_number (message_written l p room) ≡ 3
  pub unfit : (p : Parts) (room : ℕ) → WellTexts p.type_text p.device_name → length (body_given l p) ≤ body_limit → Unfit l p.version p.sections
      → written_number (message_written l p room) ≡ 6
  pub no_metadata : (p : Parts) (room : ℕ) → WellTexts p.type_text p.device_name → length (body_given l p) ≤ body_limit → IsVersion p.version
      → (Unfit l p.version p.sections → ⊥) → Bytes p.sections.metadata → (IsMetadata p.sections.metadata → ⊥)
      → written_number (message_written l p room) ≡ 7
  -- else the reader's number for the message with its content as given, then 20
  pub as_reader : (p : Parts) (room : ℕ) → Given l p → WellTexts p.type_text p.device_name → (Unfit l p.version p.sections → ⊥)
      → HasIndex l p.version p.sections.metadata
      → written_number (message_written l p room) ≡ or_else (read_of l (encode_parts l p)).number (room_fault (length (encode_parts l p)) room)
  -- what is promised of the writer is this answer and this buffer
  pub promised : (p : Parts) (out left : List ℕ) (answer : Written) → MessagePromise l p out answer left
      → (answer ≡ message_written l p (length out)) × (left ≡ message_out l p out)
  -- a refusal leaves the buffer as it was
  pub untouched : (p : Parts) (out : List ℕ) → (written_number (message_written l p (length out)) ≡ 0 → ⊥) → message_out l p out ≡ out
  -- else it writes that message, its content cleaned
  pub read_back : (p : Parts) (out : List ℕ) → Given l p → Bytes p.sections.content → written_number (message_written l p (length out)) ≡ 0
      → ReadBack l p out

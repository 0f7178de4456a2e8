-- What is proved of headers: a stream's front is accepted as a header exactly when some well formed header is written as it, only one is,
-- and it is what is handed out, marked clean exactly when its two rests are zeros; what is refused is 1, 2 or 3 in that order; the writer
-- writes it back with its rests zeroed.
use Rattle.std.specs.Prelude.{ℕ, ◌<◌, ◌≤◌, ◌≡◌, ◌↔◌, true, false, List, [], ◌++◌, length, take, drop}
use Rattle.fields.specs.Bytes.{Bytes, part}
use Rattle.fields.specs.Numbers.{be_at}
use Rattle.fields.specs.Text.{Text}
use Rattle.fields.specs.Received.{Rest}
use Rattle.fields.specs.Answer.{Written, Wrote, written_number}
use Rattle.fields.specs.Writers.{writer_fault}
use Rattle.header.specs.Header.{Header, WellTexts, HeaderFits, WellHeader, encode_header, body_limit, cleaned_header, CleanHeader}
use Rattle.header.specs.HeaderReader.{header_of, header_fault, handed, refused, header_read, type_in, name_in}
use Rattle.header.specs.HeaderWriter.{given, header_written, header_out, HeaderPromise}

-- some well formed header is written as the front of these bytes
pub record BeginsWith (s : List ℕ) (h : Header) : Type 0 where
  pub well : WellHeader h
  pub rest : List ℕ
  pub bytes : encode_header h ++ rest ≡ s

-- the field of n bytes at a place is some text and some rest
abbrev pub IsTextField : ℕ → ℕ → List ℕ → Type 0
IsTextField n at s = (t : List ℕ) × (r : List ℕ) × Text t × Rest r × (t ++ r ≡ part n at s)

-- TYPE and DEVICE_NAME are
abbrev pub TextsHeld : List ℕ → Type 0
TextsHeld s = IsTextField 12 2 s × IsTextField 20 14 s

-- what the writer is given when its arguments are what `read_header`, `type_text` and `device_name` hand out
abbrev pub given_back : List ℕ → Header
given_back s =
    given
    (record {
      version = (header_read s).version;
      time_stamp = (header_read s).time_stamp;
      body_size = (header_read s).body_size;
      crc = (header_read s).crc;
    })
    (type_in s (header_read s)) (name_in s (header_read s))

pub record HeaderTheorems : Type 0 where
  pub width : (h : Header) → length (encode_header h) ≡ 58
  pub accepted : (s : List ℕ) → Bytes s → header_fault s ≡ 0 → BeginsWith s (header_of s)
  pub begun : (s : List ℕ) (h : Header) → BeginsWith s h → header_read s ≡ handed h
  pub texts : (s : List ℕ) (h : Header) → BeginsWith s h → (type_in s (header_read s) ≡ h.type_text) × (name_in s (header_read s) ≡ h.device_name)
  pub only_one : (s : List ℕ) (g h : Header) → BeginsWith s g → BeginsWith s h → g ≡ h
  pub mark : (s : List ℕ) (h : Header) → BeginsWith s h → ((header_read s).clean ≡ true) ↔ CleanHeader h
  -- with its rests zeroed it is well formed and clean, and one that is clean already stays as it is
  pub meant : (h : Header) → WellHeader h → WellHeader (cleaned_header h) × CleanHeader (cleaned_header h)
  pub kept : (h : Header) → CleanHeader h → cleaned_header h ≡ h
  -- the number of each refusal, in the order of rule 5.2
  pub short : (s : List ℕ) → length s < 58 → header_read s ≡ refused 1
  pub no_text : (s : List ℕ) → 58 ≤ length s → (TextsHeld s → ⊥) → header_read s ≡ refused 2
  pub too_long : (s : List ℕ) → 58 ≤ length s → TextsHeld s → body_limit < be_at 8 42 s → header_read s ≡ refused 3
  -- a refusal hands out its number and nothing else, and names no texts
  pub nothing_handed : (s : List ℕ) → (header_fault s ≡ 0 → ⊥)
      → header_read s
      ≡ record { number = header_fault s; version = 0; type_len = 0; name_len = 0; time_stamp = 0; body_size = 0; crc = 0; clean = false }
  pub no_texts : (s : List ℕ) → (header_fault s ≡ 0 → ⊥) → (type_in s (header_read s) ≡ []) × (name_in s (header_read s) ≡ [])
  -- the writer: 2 exactly for what are no texts that fit; else its number is the reader's for the bytes that it would write, then 20;
  -- it writes back what was read with its rests zeroed, byte for byte exactly if it is marked clean, and keeps the bytes beyond
  pub names : (h : Header) (room : ℕ) → (WellTexts h.type_text h.device_name → ⊥) → written_number (header_written h room) ≡ 2
  pub number : (h : Header) (room : ℕ) → HeaderFits h
      → written_number (header_written h room) ≡ writer_fault (header_fault (encode_header h)) (encode_header h) room
  pub answered_back : (s : List ℕ) (room : ℕ) → Bytes s → header_fault s ≡ 0 → 58 ≤ room → header_written (given_back s) room ≡ Wrote 58
  pub written_back : (s out : List ℕ) → Bytes s → header_fault s ≡ 0 → 58 ≤ length out
      → header_out (given_back s) out ≡ encode_header (cleaned_header (header_of s)) ++ drop 58 out
  pub same_bytes : (s : List ℕ) → Bytes s → header_fault s ≡ 0 → (encode_header (cleaned_header (header_of s)) ≡ take 58 s) ↔ ((header_read s).clean ≡ true)
  -- what is promised of the writer is this answer and this buffer
  pub promised : (h : Header) (out left : List ℕ) (answer : Written) → HeaderPromise h out answer left
      → (answer ≡ header_written h (length out)) × (left ≡ header_out h out)
  -- a refusal leaves the buffer as it was
  pub untouched : (h : Header) (out : List ℕ) → (written_number (header_written h (length out)) ≡ 0 → ⊥) → header_out h out ≡ out

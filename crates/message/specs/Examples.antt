-- Cases P4 to P6 of rule 8.1, and a body byte by byte, in both layouts.
use Rattle.std.specs.Prelude.{ℕ, ◌^◌, ◌<◌, ◌≤◌, ◌≡◌, List, [], ◌∷◌, ◌++◌, length}
use Rattle.fields.specs.Bytes.{Bytes}
use Rattle.fields.specs.Numbers.{be_bytes}
use Rattle.fields.specs.Text.{Text, text_bytes}
use Rattle.fields.specs.Layout.{join}
use Rattle.crc64.specs.Crc.{crc_of}
use Rattle.message.specs.declared.Layout.{Layout}
use Rattle.message.specs.declared.Layout.TheVariants.{New, Old}
use Rattle.message.specs.Body.{Sections, encode_body}
use Rattle.message.specs.MessageReader.{refused, read_of, content_in}

-- a message of V 2 with this type, name, stamp and body, and the body's CRC
abbrev pub of_version2 : List ℕ → List ℕ → ℕ → List ℕ → List ℕ
of_version2 t n stamp b =
    join
    (be_bytes 2 2
    ∷ text_bytes 12 t
    ∷ text_bytes 20 n
    ∷ be_bytes 8 stamp
    ∷ be_bytes 8 (length b)
    ∷ be_bytes 8 (crc_of b)
    ∷ b
    ∷ [])

-- "GET_STATUS"
abbrev pub get_status_text : List ℕ
get_status_text = 71 ∷ 69 ∷ 84 ∷ 95 ∷ 83 ∷ 84 ∷ 65 ∷ 84 ∷ 85 ∷ 83 ∷ []

-- the sizes 12 and 0 and a MSG_ID; in the new layout the other size before it, in the old the reserved word behind it
abbrev pub body12 : Layout → ℕ → List ℕ
body12 New id = 0 ∷ 12 ∷ 0 ∷ 0 ∷ 0 ∷ 0 ∷ 0 ∷ 0 ∷ be_bytes 4 id
body12 Old id = 0 ∷ 12 ∷ 0 ∷ 0 ∷ (be_bytes 4 id ++ (0 ∷ 0 ∷ 0 ∷ 0 ∷ []))

-- MSG_ID 6, further byte 7, content 08 08, metadata 09 09 09
abbrev pub six_to_nine : Sections
six_to_nine = record { id = 6; further = 7 ∷ []; content = 8 ∷ 8 ∷ []; metadata = 9 ∷ 9 ∷ 9 ∷ [] }

pub record Accepted70 (l : Layout) (s : List ℕ) : Type 0 where
  pub number : (read_of l s).number ≡ 0
  pub step : (read_of l s).step ≡ 70
  pub content : content_in s (read_of l s) ≡ []

pub record Examples : Type 0 where
  -- P4: 57 bytes
  pub p4 : (l : Layout) (s : List ℕ) → length s ≡ 57 → read_of l s ≡ refused 1 0
  -- P5: for every name, stamp and id
  pub p5 : (l : Layout) (n : List ℕ) (stamp id : ℕ) → Text n → length n ≤ 20 → stamp < 256 ^ 8 → id < 256 ^ 4
      → Accepted70 l (of_version2 get_status_text n stamp (body12 l id))
  -- P6: a body of 11 bytes with the right CRC, for every type, name, stamp and body
  pub p6 : (l : Layout) (t n : List ℕ) (stamp : ℕ) (b : List ℕ) → Text t → length t ≤ 12 → Text n → length n ≤ 20 → stamp < 256 ^ 8 → Bytes b → length b ≡ 11
      → read_of l (of_version2 t n stamp b) ≡ refused 6 69
  -- a body of V 2 byte by byte: the extended header with its further byte, the content, the metadata, whose index is taken to be 2 bytes
  pub body_new : encode_body New 2 2 six_to_nine ≡ 0 ∷ 13 ∷ 0 ∷ 2 ∷ 0 ∷ 0 ∷ 0 ∷ 1 ∷ 0 ∷ 0 ∷ 0 ∷ 6 ∷ 7 ∷ 8 ∷ 8 ∷ 9 ∷ 9 ∷ 9 ∷ []
  pub body_old : encode_body Old 2 2 six_to_nine ≡ 0 ∷ 13 ∷ 0 ∷ 3 ∷ 0 ∷ 0 ∷ 0 ∷ 6 ∷ 0 ∷ 0 ∷ 0 ∷ 0 ∷ 7 ∷ 8 ∷ 8 ∷ 9 ∷ 9 ∷ 9 ∷ []

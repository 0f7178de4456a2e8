-- The header of a message (rule 3.1) as it is received, and its 58 bytes. Beside each of its two texts it has the rest of that text's field
-- (rule 2.4). Nothing here reads bytes.
use Rattle.std.specs.Prelude.{ℕ, ◌^◌, ◌<◌, ◌≤◌, ◌≡◌, List, [], ◌∷◌, length}
use Rattle.fields.specs.Numbers.{be_bytes}
use Rattle.fields.specs.Text.{Text}
use Rattle.fields.specs.Received.{field_bytes, zeroed, Fills}
use Rattle.fields.specs.Layout.{join}

-- how many bytes it has, and how many its two text fields have
abbrev pub header_size : ℕ
header_size = 58

abbrev pub type_size : ℕ
type_size = 12

abbrev pub name_size : ℕ
name_size = 20

pub record Header : Type 0 where
  pub version : ℕ
  pub type_text : List ℕ
  pub type_rest : List ℕ
  pub device_name : List ℕ
  pub name_rest : List ℕ
  pub time_stamp : ℕ
  pub body_size : ℕ
  pub crc : ℕ

-- the widths of its fields, in the order of rule 3.1
abbrev pub header_widths : List ℕ
header_widths = 2 ∷ type_size ∷ name_size ∷ 8 ∷ 8 ∷ 8 ∷ []

abbrev pub header_fields : Header → List (List ℕ)
header_fields h =
    be_bytes 2 h.version
    ∷ field_bytes type_size h.type_text h.type_rest
    ∷ field_bytes name_size h.device_name h.name_rest
    ∷ be_bytes 8 h.time_stamp
    ∷ be_bytes 8 h.body_size
    ∷ be_bytes 8 h.crc
    ∷ []

unfoldable pub encode_header : Header → List ℕ
encode_header h = join (header_fields h)

-- what a writer takes: TYPE and DEVICE_NAME are texts that fit their fields
pub record WellTexts (t n : List ℕ) : Type 0 where
  pub type-text : Text t
  pub type_fits : length t ≤ type_size
  pub name_text : Text n
  pub name_fits : length n ≤ name_size

-- every field fits its width
pub record HeaderFits (h : Header) : Type 0 where
  pub version_fits : h.version < 256 ^ 2
  pub type_fills : Fills type_size h.type_text h.type_rest
  pub name_fills : Fills name_size h.device_name h.name_rest
  pub stamp_fits : h.time_stamp < 256 ^ 8
  pub size_fits : h.body_size < 256 ^ 8
  pub crc_fits : h.crc < 256 ^ 8

-- the largest body (rule 3.3)
abbrev pub body_limit : ℕ
body_limit = 16777216

-- a well formed header: besides, the body's size keeps the limit
pub record WellHeader (h : Header) : Type 0 where
  pub fits : HeaderFits h
  pub size-limit : h.body_size ≤ body_limit

-- ---- rests

-- the header with both rests zeroed
abbrev pub cleaned_header : Header → Header
cleaned_header h =
    record {
      version = h.version;
      type_text = h.type_text;
      type_rest = zeroed h.type_rest;
      device_name = h.device_name;
      name_rest = zeroed h.name_rest;
      time_stamp = h.time_stamp;
      body_size = h.body_size;
      crc = h.crc;
    }

-- both rests are zeros
abbrev pub CleanHeader : Header → Type 0
CleanHeader h = (h.type_rest ≡ zeroed h.type_rest) × (h.name_rest ≡ zeroed h.name_rest)

-- What the writer answers and leaves in the buffer, for any arguments. It checks as the reader does, and 20 last (rule 5.8). What it writes is
-- cleaned (rule 13.6).
use Rattle.std.specs.Prelude.{ℕ, ◌+◌, ◌-◌, ◌≤◌, ◌≡◌, Bool, cond, ◌&&◌, List, eqb, leb, length, replicate}
use Rattle.fields.specs.Answer.{Written}
use Rattle.fields.specs.Numbers.{size_limit}
use Rattle.fields.specs.Checks.{or_else}
use Rattle.fields.specs.Writers.{written_by, out_by, WriterPromise}
use Rattle.header.specs.Header.{header_size, type_size, name_size, body_limit}
use Rattle.header.specs.declared.HeaderFields.{HeaderFields}
use Rattle.header.specs.HeaderReader.{limit_fault}
use Rattle.header.specs.HeaderWriter.{names_fault}
use Rattle.metadata.specs.MetadataCheck.{index_size_in}
use Rattle.content.specs.ContentCheck.{deepest}
use Rattle.cleaning.specs.CleanBytes.{clean_bytes}
use Rattle.message.specs.declared.Layout.{Layout}
use Rattle.message.specs.declared.Layout.TheVariants.{New, Old}
use Rattle.message.specs.declared.MessageFields.{MessageFields}
use Rattle.message.specs.Body.{extended_least, Sections, MetadataFits, encode_body}
use Rattle.message.specs.Message.{Parts, body_of, encode_with}
use Rattle.message.specs.MessageReader.{version_fault, sections_fault}

-- the fields that have a fixed size: V, TIME_STAMP, MSG_ID
pub record FixedFields : Type 0 where
  pub version : ℕ
  pub time_stamp : ℕ
  pub id : ℕ

abbrev pub sections_given : ℕ → List ℕ → List ℕ → List ℕ → Sections
sections_given id further content metadata = record { id = id; further = further; content = content; metadata = metadata }

-- the message that is given: its fixed fields, type, device name, further bytes, content and metadata; zeros after the two texts
abbrev pub given : FixedFields → List ℕ → List ℕ → List ℕ → List ℕ → List ℕ → Parts
given f type_text device_name further content metadata =
    record {
      version = f.version;
      type_text = type_text;
      type_rest = replicate (type_size - length type_text) 0;
      device_name = device_name;
      name_rest = replicate (name_size - length device_name) 0;
      time_stamp = f.time_stamp;
      sections = sections_given f.id further content metadata;
    }

-- the same of the value that the writer takes
abbrev pub fixed_of : MessageFields → FixedFields
fixed_of m = record { version = m.version; time_stamp = m.time_stamp; id = m.id }

abbrev pub given_of : MessageFields → Parts
given_of m = given (fixed_of m) m.type_text.now m.device_name.now m.further.now m.content.now m.metadata.now

-- the body and the bytes of what is given: the index is as long as INDEX_COUNT says
abbrev pub body_given : Layout → Parts → List ℕ
body_given l p = body_of l (index_size_in p.sections.metadata) p

abbrev pub encode_parts : Layout → Parts → List ℕ
encode_parts l p = encode_with l (index_size_in p.sections.metadata) p

-- the length that check 3 of a writer compares with the limit (rule 5.11)
abbrev pub body_length : ℕ → ℕ → ℕ → ℕ → ℕ
body_length version further content metadata = cond (eqb version 2) (extended_least + further + content + metadata) content

abbrev pub length_given : MessageFields → ℕ
length_given m = body_length m.version (length m.further.now) (length m.content.now) (length m.metadata.now)

-- what a body is written from: in V 2 the sizes of further bytes and metadata fit their fields, the content keeps the limit, and a buffer of this
-- length has room for the body
abbrev pub BodyFits : Layout → ℕ → List ℕ → List ℕ → List ℕ → ℕ → Type 0
BodyFits l version further content metadata room =
    (version ≡ 2 → (extended_least + length further ≤ size_limit) × MetadataFits l (index_size_in metadata) (length metadata))
    × (length content ≤ body_limit)
    × (body_length version (length further) (length content) (length metadata) ≤ room)

-- the body that is written from MSG_ID, the type's text, further bytes, content and metadata: the content cleaned
abbrev pub body_written : Layout → ℕ → ℕ → List ℕ → List ℕ → List ℕ → List ℕ → List ℕ
body_written l version id t further content metadata =
    encode_body l version (index_size_in metadata) (sections_given id further (clean_bytes deepest t content) metadata)

-- of V 2: the metadata's size of two bytes fits: in the new layout that of the index, in the old that of the whole metadata
abbrev pub size_fits : Layout → ℕ → ℕ → Bool
size_fits New index metadata = leb index size_limit
size_fits Old index metadata = leb metadata size_limit

-- check 6 of a writer (rule 5.9), by MSG_ID and the lengths of further bytes, index and metadata: V 1 has none of them; in V 2 they fit
unfoldable pub fits : Layout → ℕ → ℕ → ℕ → ℕ → ℕ → Bool
fits l version id further index metadata =
    cond (eqb version 2)
    (leb (extended_least + further) size_limit && size_fits l index metadata)
    (eqb id 0 && (eqb further 0 && eqb metadata 0))

abbrev pub fit_ok : Layout → ℕ → Sections → Bool
fit_ok l version x = fits l version x.id (length x.further) (index_size_in x.metadata) (length x.metadata)

unfoldable pub fit_fault : Layout → ℕ → Sections → ℕ
fit_fault l version x = cond (fit_ok l version x) 0 6

-- checks 4 to 11
unfoldable pub given_sections_fault : Layout → ℕ → List ℕ → Sections → ℕ
given_sections_fault l version t x = or_else (version_fault version) (or_else (fit_fault l version x) (sections_fault t x))

-- checks 2, 3, then 4 to 11
unfoldable pub given_fault : Layout → Parts → ℕ
given_fault l p =
    or_else (names_fault p.type_text p.device_name)
    (or_else (limit_fault (length (body_given l p))) (given_sections_fault l p.version p.type_text p.sections))

-- the message that is written: its content cleaned
abbrev pub clean_sections : List ℕ → Sections → Sections
clean_sections t x = sections_given x.id x.further (clean_bytes deepest t x.content) x.metadata

abbrev pub clean_parts : Parts → Parts
clean_parts p =
    record {
      version = p.version;
      type_text = p.type_text;
      type_rest = p.type_rest;
      device_name = p.device_name;
      name_rest = p.name_rest;
      time_stamp = p.time_stamp;
      sections = clean_sections p.type_text p.sections;
    }

abbrev pub message_bytes : Layout → Parts → List ℕ
message_bytes l p = encode_parts l (clean_parts p)

-- what a message is written from: it passed the checks, its body has this size, and a buffer of this length has room for it
abbrev pub MessageFits : Layout → Parts → ℕ → ℕ → Type 0
MessageFits l p size room = (given_fault l p ≡ 0) × (size ≡ length (body_given l p)) × (header_size + size ≤ room)

-- the fields of its header, for a body of this size and CRC
abbrev pub header_given : FixedFields → ℕ → ℕ → HeaderFields
header_given f size crc = record { version = f.version; time_stamp = f.time_stamp; body_size = size; crc = crc }

-- the answer for a buffer of this length, and the buffer that is left: these checks, then 20
abbrev pub message_written : Layout → Parts → ℕ → Written
message_written l p room = written_by (given_fault l p) (message_bytes l p) room

abbrev pub message_out : Layout → Parts → List ℕ → List ℕ
message_out l p out = out_by (given_fault l p) (message_bytes l p) out

-- what the writer promises of its answer and of the buffer left
abbrev pub MessagePromise : Layout → Parts → List ℕ → Written → List ℕ → Type 0
MessagePromise l p out answer left = WriterPromise (given_fault l p) (message_bytes l p) out answer left

-- What the reader answers to the front of a byte stream, for any bytes: the number, the step, and where the message's parts stand.
use Rattle.std.specs.Prelude.{ℕ, ◌+◌, ◌-◌, ◌≤◌, Bool, true, false, cond, ◌&&◌, ◌||◌, List, eqb, leb, length, replicate}
use Rattle.fields.specs.Bytes.{part}
use Rattle.fields.specs.Numbers.{be_at}
use Rattle.fields.specs.Checks.{or_else}
use Rattle.fields.specs.Answer.{Checked, checked}
use Rattle.crc64.specs.Crc.{crc_of}
use Rattle.header.specs.declared.HeaderRead.{HeaderRead}
use Rattle.header.specs.Header.{header_size, type_size, name_size}
use Rattle.header.specs.HeaderReader.{header_of, header_fault}
use Rattle.header.specs.HeaderReader as header
use Rattle.metadata.specs.MetadataCheck.{index_size_in, metadata_fault}
use Rattle.content.specs.ContentCheck.{content_fault, content_clean, deepest}
use Rattle.message.specs.declared.Layout.{Layout}
use Rattle.message.specs.declared.Layout.TheVariants.{New, Old}
use Rattle.message.specs.declared.Answer.{Answer}
use Rattle.message.specs.declared.body.Places.{Places}
use Rattle.message.specs.Body.{extended_least, Sections}
use Rattle.message.specs.Message.{Parts}

-- ---- the sections of a body

-- EXT_HEADER_SIZE
abbrev pub extended_size : List ℕ → ℕ
extended_size b = be_at 2 0 b

-- METADATA_HEADER_SIZE, which the new layout alone has
abbrev pub index_at : List ℕ → ℕ
index_at b = be_at 2 2 b

-- how many bytes the metadata has: METADATA_HEADER_SIZE and METADATA_SIZE together, or METADATA_SIZE
abbrev pub section_size : Layout → List ℕ → ℕ
section_size New b = index_at b + be_at 4 4 b
section_size Old b = be_at 2 2 b

-- MSG_ID
abbrev pub id_at : Layout → List ℕ → ℕ
id_at New b = be_at 4 8 b
id_at Old b = be_at 4 4 b

-- the reserved word, which the old layout alone has, is 0
abbrev pub reserved_ok : Layout → List ℕ → Bool
reserved_ok New b = true
reserved_ok Old b = eqb (be_at 4 8 b) 0

-- check 7 of METADATA_HEADER_SIZE, which the new layout alone has: it is the size of the index of s. METADATA_SIZE is what is left of s
abbrev pub index_size_fault : Layout → List ℕ → List ℕ → ℕ
index_size_fault New b s = cond (eqb (index_at b) (index_size_in s)) 0 7
index_size_fault Old b s = 0

-- check 6, of V 2: the twelve bytes are there, EXT_HEADER_SIZE includes them, the reserved word is 0, and the sizes do not exceed the body
unfoldable pub extended_ok : Layout → List ℕ → Bool
extended_ok l b =
    leb extended_least (length b)
    && (leb extended_least (extended_size b)
    && (reserved_ok l b
    && leb (extended_size b + section_size l b) (length b)))

unfoldable pub extended_fault : Layout → ℕ → List ℕ → ℕ
extended_fault l version b = cond (eqb version 2) (cond (extended_ok l b) 0 6) 0

-- of V 2 alone
unfoldable pub sizes_fault : Layout → ℕ → List ℕ → List ℕ → ℕ
sizes_fault l version b s = cond (eqb version 2) (index_size_fault l b s) 0

-- where the sections stand in the body: the content is what the extended header and the metadata leave (rule 3.7)
abbrev pub extended_places : Layout → List ℕ → Places
extended_places l b =
    record {
      id = id_at l b;
      further_at = extended_least;
      further_len = extended_size b - extended_least;
      content_at = extended_size b;
      content_len = length b - (extended_size b + section_size l b);
      metadata_at = length b - section_size l b;
      metadata_len = section_size l b;
    }

-- V 1: all of the body is content
abbrev pub plain_places : List ℕ → Places
plain_places b =
    record {
      id = 0;
      further_at = 0;
      further_len = 0;
      content_at = 0;
      content_len = length b;
      metadata_at = length b;
      metadata_len = 0;
    }

unfoldable pub places_of : Layout → ℕ → List ℕ → Places
places_of l version b = cond (eqb version 2) (extended_places l b) (plain_places b)

-- the places lie within a body of n bytes
pub record Within (p : Places) (n : ℕ) : Type 0 where
  pub further : p.further_at + p.further_len ≤ n
  pub content : p.content_at + p.content_len ≤ n
  pub metadata : p.metadata_at + p.metadata_len ≤ n

-- the sections at these places
abbrev pub sections_at : Places → List ℕ → Sections
sections_at p b =
    record {
      id = p.id;
      further = part p.further_len p.further_at b;
      content = part p.content_len p.content_at b;
      metadata = part p.metadata_len p.metadata_at b;
    }

abbrev pub sections_of : Layout → ℕ → List ℕ → Sections
sections_of l version b = sections_at (places_of l version b) b

-- ---- the checks in order

-- check 1 of the whole: the rest of the message has not arrived
unfoldable pub whole_fault : List ℕ → ℕ
whole_fault s = cond (leb (header_size + (header_of s).body_size) (length s)) 0 1

-- check 4
unfoldable pub version_fault : ℕ → ℕ
version_fault version = cond (eqb version 1 || eqb version 2) 0 4

-- check 5, of the whole body
unfoldable pub crc_fault : ℕ → List ℕ → ℕ
crc_fault crc b = cond (eqb (crc_of b) crc) 0 5

-- check 7, and those of the content of the type with this text; with the content's mark; of sections
abbrev pub contents_fault : List ℕ → List ℕ → List ℕ → ℕ
contents_fault t content metadata = or_else (metadata_fault metadata) (content_fault deepest t content)

abbrev pub contents_checked : List ℕ → List ℕ → List ℕ → Checked
contents_checked t content metadata = checked (contents_fault t content metadata) (content_clean deepest t content)

unfoldable pub sections_fault : List ℕ → Sections → ℕ
sections_fault t x = contents_fault t x.content x.metadata

-- of sections x that were found in the body b: first the sizes in b, then these
unfoldable pub found_fault : Layout → ℕ → List ℕ → List ℕ → Sections → ℕ
found_fault l version t b x = or_else (sizes_fault l version b x.metadata) (sections_fault t x)

-- checks 4 to 11, of a body whose header has this version, CRC and type
unfoldable pub body_fault : Layout → ℕ → ℕ → List ℕ → List ℕ → ℕ
body_fault l version crc t b =
    or_else (version_fault version)
    (or_else (crc_fault crc b)
    (or_else (extended_fault l version b) (found_fault l version t b (sections_of l version b))))

-- the mark of its content
unfoldable pub body_clean : Layout → ℕ → List ℕ → List ℕ → Bool
body_clean l version t b = content_clean deepest t (sections_of l version b).content

unfoldable pub body_checked : Layout → ℕ → ℕ → List ℕ → List ℕ → Checked
body_checked l version crc t b = checked (body_fault l version crc t b) (body_clean l version t b)

abbrev pub body_at : List ℕ → List ℕ
body_at s = part (header_of s).body_size header_size s

-- the checks before a step is known: 1, 2, 3, 1
unfoldable pub front_fault : List ℕ → ℕ
front_fault s = or_else (header_fault s) (whole_fault s)

unfoldable pub stream_fault : Layout → List ℕ → ℕ
stream_fault l s = or_else (front_fault s) (body_fault l (header_of s).version (header_of s).crc (header_of s).type_text (body_at s))

-- the step (rule 5.3): the length of the message, but 0 where the number is 1, 2 or 3
unfoldable pub step_of : List ℕ → ℕ
step_of s = cond (eqb (front_fault s) 0) (header_size + (header_of s).body_size) 0

-- ---- the answer

-- a refusal: all but the number and the step is 0, and the mark is false
abbrev pub refused : ℕ → ℕ → Answer
refused number step =
    record {
      number = number;
      step = step;
      version = 0;
      type_len = 0;
      name_len = 0;
      time_stamp = 0;
      id = 0;
      further_at = 0;
      further_len = 0;
      content_at = 0;
      content_len = 0;
      metadata_at = 0;
      metadata_len = 0;
      clean = false;
    }

-- a message with this header and mark whose sections stand at these places of its body; the answer's places are those in the stream
abbrev pub accepted : HeaderRead → Places → Bool → Answer
accepted h p mark =
    record {
      number = 0;
      step = header_size + h.body_size;
      version = h.version;
      type_len = h.type_len;
      name_len = h.name_len;
      time_stamp = h.time_stamp;
      id = p.id;
      further_at = header_size + p.further_at;
      further_len = p.further_len;
      content_at = header_size + p.content_at;
      content_len = p.content_len;
      metadata_at = header_size + p.metadata_at;
      metadata_len = p.metadata_len;
      clean = mark;
    }

-- the mark: both texts of the header and all those in the content are clean (rule 13.2)
abbrev pub clean_of : Layout → List ℕ → Bool
clean_of l s = (header.handed (header_of s)).clean && body_clean l (header_of s).version (header_of s).type_text (body_at s)

unfoldable pub read_of : Layout → List ℕ → Answer
read_of l s =
    cond (eqb (stream_fault l s) 0)
    (accepted (header.handed (header_of s)) (places_of l (header_of s).version (body_at s)) (clean_of l s))
    (refused (stream_fault l s) (step_of s))

-- ---- the parts of a stream that an answer names; for an answer that is not this stream's, as many of their bytes as there are

abbrev pub type_in : List ℕ → Answer → List ℕ
type_in s a = part a.type_len 2 s

abbrev pub name_in : List ℕ → Answer → List ℕ
name_in s a = part a.name_len 14 s

abbrev pub further_in : List ℕ → Answer → List ℕ
further_in s a = part a.further_len a.further_at s

abbrev pub content_in : List ℕ → Answer → List ℕ
content_in s a = part a.content_len a.content_at s

abbrev pub metadata_in : List ℕ → Answer → List ℕ
metadata_in s a = part a.metadata_len a.metadata_at s

-- all that an answer hands out of a stream: of TYPE and DEVICE_NAME the texts alone, so their rests are zeros
abbrev pub handed : List ℕ → Answer → Parts
handed s a =
    record {
      version = a.version;
      type_text = type_in s a;
      type_rest = replicate (type_size - length (type_in s a)) 0;
      device_name = name_in s a;
      name_rest = replicate (name_size - length (name_in s a)) 0;
      time_stamp = a.time_stamp;
      sections = record { id = a.id; further = further_in s a; content = content_in s a; metadata = metadata_in s a };
    }

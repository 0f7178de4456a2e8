-- The header read from the front of a byte stream, and judged by checks 1, 2 and 3.
use Rattle.std.specs.Prelude.{ℕ, Bool, false, cond, ◌&&◌, List, eqb, leb, length}
use Rattle.fields.specs.Bytes.{part}
use Rattle.fields.specs.Numbers.{be_at}
use Rattle.fields.specs.Text.{text_of, all_zero, text_ok}
use Rattle.fields.specs.Received.{rest_of}
use Rattle.fields.specs.Checks.{or_else}
use Rattle.header.specs.declared.HeaderRead.{HeaderRead}
use Rattle.header.specs.Header.{header_size, type_size, name_size, Header, body_limit}

-- the header that stands at the front of these bytes
unfoldable pub header_of : List ℕ → Header
header_of s =
    record {
      version = be_at 2 0 s;
      type_text = text_of (part type_size 2 s);
      type_rest = rest_of (part type_size 2 s);
      device_name = text_of (part name_size 14 s);
      name_rest = rest_of (part name_size 14 s);
      time_stamp = be_at 8 34 s;
      body_size = be_at 8 42 s;
      crc = be_at 8 50 s;
    }

-- check 1 of the header: it has not arrived whole
unfoldable pub short_fault : List ℕ → ℕ
short_fault s = cond (leb header_size (length s)) 0 1

-- check 2: TYPE or DEVICE_NAME breaks rule 2.4
unfoldable pub texts_fault : List ℕ → ℕ
texts_fault s = cond (text_ok (part type_size 2 s) && text_ok (part name_size 14 s)) 0 2

-- check 3: BODY_SIZE breaks rule 3.3
unfoldable pub limit_fault : ℕ → ℕ
limit_fault n = cond (leb n body_limit) 0 3

unfoldable pub header_fault : List ℕ → ℕ
header_fault s = or_else (short_fault s) (or_else (texts_fault s) (limit_fault (header_of s).body_size))

-- what a header hands out with these lengths of its texts and this mark
abbrev pub handed_with : Header → ℕ → ℕ → Bool → HeaderRead
handed_with h type name mark =
    record {
      number = 0;
      version = h.version;
      type_len = type;
      name_len = name;
      time_stamp = h.time_stamp;
      body_size = h.body_size;
      crc = h.crc;
      clean = mark;
    }

-- what an accepted header hands out, and a refused one
abbrev pub handed : Header → HeaderRead
handed h = handed_with h (length h.type_text) (length h.device_name) (all_zero h.type_rest && all_zero h.name_rest)

abbrev pub refused : ℕ → HeaderRead
refused n =
    record { number = n; version = 0; type_len = 0; name_len = 0; time_stamp = 0; body_size = 0; crc = 0; clean = false }

unfoldable pub header_read : List ℕ → HeaderRead
header_read s = cond (eqb (header_fault s) 0) (handed (header_of s)) (refused (header_fault s))

-- the two texts that such an answer names in the stream
abbrev pub type_in : List ℕ → HeaderRead → List ℕ
type_in s r = part r.type_len 2 s

abbrev pub name_in : List ℕ → HeaderRead → List ℕ
name_in s r = part r.name_len 14 s

-- The writer of a header: checks 2, 3 and 20, and what it writes.
use Rattle.std.specs.Prelude.{ℕ, ◌-◌, cond, ◌&&◌, List, [], ◌∷◌, leb, length, replicate}
use Rattle.fields.specs.Numbers.{be_bytes}
use Rattle.fields.specs.Text.{is_text, text_bytes}
use Rattle.fields.specs.Checks.{or_else}
use Rattle.fields.specs.Writers.{written_by, out_by, WriterPromise}
use Rattle.fields.specs.Answer.{Written}
use Rattle.header.specs.declared.HeaderFields.{HeaderFields}
use Rattle.header.specs.Header.{type_size, name_size, Header, encode_header}
use Rattle.header.specs.HeaderReader.{limit_fault}

-- check 2 of a writer: a name is no text that fits its field (rule 5.8)
unfoldable pub names_fault : List ℕ → List ℕ → ℕ
names_fault t n = cond (leb (length t) type_size && (leb (length n) name_size && (is_text t && is_text n))) 0 2

-- the header given to the writer: zeros after the texts
abbrev pub given : HeaderFields → List ℕ → List ℕ → Header
given f t n =
    record {
      version = f.version;
      type_text = t;
      type_rest = replicate (type_size - length t) 0;
      device_name = n;
      name_rest = replicate (name_size - length n) 0;
      time_stamp = f.time_stamp;
      body_size = f.body_size;
      crc = f.crc;
    }

-- its fields as the writer puts them: each text, then zeros
abbrev pub given_fields : HeaderFields → List ℕ → List ℕ → List (List ℕ)
given_fields f t n =
    be_bytes 2 f.version
    ∷ text_bytes type_size t
    ∷ text_bytes name_size n
    ∷ be_bytes 8 f.time_stamp
    ∷ be_bytes 8 f.body_size
    ∷ be_bytes 8 f.crc
    ∷ []

-- checks 2 and 3
unfoldable pub given_fault : Header → ℕ
given_fault h = or_else (names_fault h.type_text h.device_name) (limit_fault h.body_size)

-- the answer for a buffer of this length, and the buffer that is left
abbrev pub header_written : Header → ℕ → Written
header_written h room = written_by (given_fault h) (encode_header h) room

abbrev pub header_out : Header → List ℕ → List ℕ
header_out h out = out_by (given_fault h) (encode_header h) out

-- what the writer promises of its answer and of the buffer left
abbrev pub HeaderPromise : Header → List ℕ → Written → List ℕ → Type 0
HeaderPromise h out answer left = WriterPromise (given_fault h) (encode_header h) out answer left

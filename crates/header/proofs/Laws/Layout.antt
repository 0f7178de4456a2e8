-- The 58 bytes of a header, both ways.
use Prim.Native.Nat.{ℕ, ◌≤◌}
use mathlib.Core.Path.{◌≡◌, refl, sym, ap, ◌∙◌}
use mathlib.Core.List.{List, [], ◌++◌}
use native.Mathlib.Omega.{arith}
use lib.ListN.{length, take, drop, length-append}
use lib.Seq.{sets, take-take}
use Rattle.fields.specs.Bytes.{Bytes, part}
use Rattle.fields.specs.Numbers.{be_val, be_bytes, be_at}
use Rattle.fields.specs.Text.{text_of, text_ok}
use Rattle.fields.specs.Received.{rest_of, field_bytes}
use Rattle.fields.specs.Layout.{join, cut, Widths, stores}
use Rattle.fields.proofs.Laws.Numbers.{length-be_bytes, be_val-be_bytes, be_at-lt, be_bytes-be_at}
use Rattle.fields.proofs.Laws.Text.{text-take, length-text_of-part}
use Rattle.fields.proofs.Laws.Received.{length-field_bytes, text_ok-field, text_of-field, rest_of-field, fills-part, field_bytes-part}
use Rattle.fields.proofs.Laws.Layout.{length-join, join-cut, cut-join}
use Rattle.fields.proofs.Laws.Stores.{stores-join}
use Rattle.header.specs.Header.{Header, header_widths, header_fields, encode_header, WellTexts, HeaderFits, WellHeader}
use Rattle.header.specs.HeaderReader.{header_of, limit_fault, header_fault}
use Rattle.header.proofs.Laws.Faults.{fault-passed, texts-pass, fault-limit}

-- ---- a header's fields

header-widths : (h : Header) → Widths (header_fields h) header_widths
header-widths h = (
  length-be_bytes 2 h.version,
  (
    length-field_bytes 12 h.type_text h.type_rest,
    (
      length-field_bytes 20 h.device_name h.name_rest,
      (length-be_bytes 8 h.time_stamp, (length-be_bytes 8 h.body_size, (length-be_bytes 8 h.crc, tt))),
    ),
  ),
)

pub length-header : (h : Header) → length (encode_header h) ≡ 58
unfolding encode_header
length-header h = length-join (header_fields h) header_widths (header-widths h)

-- the stores of the fields are one store
pub stores-header : (h : Header) (out : List ℕ) → stores out 0 (header_fields h) header_widths ≡ sets out 0 (encode_header h)
unfolding encode_header
stores-header h out = stores-join out 0 (header_fields h) header_widths (header-widths h)

-- the two texts, as a writer takes them
pub fits-texts : (h : Header) → HeaderFits h → WellTexts h.type_text h.device_name
fits-texts h f =
    record {
      type-text = f.type_fills.text;
      type_fits = omega (arith, f.type_fills.width);
      name_text = f.name_fills.text;
      name_fits = omega (arith, f.name_fills.width);
    }

-- ---- what was written is read, for a size above the limit too

-- what stands at each place of a stream that begins with a header
record Front (h : Header) (s : List ℕ) : Type 0 where
  version-at : part 2 0 s ≡ be_bytes 2 h.version
  type_at : part 12 2 s ≡ field_bytes 12 h.type_text h.type_rest
  name-at : part 20 14 s ≡ field_bytes 20 h.device_name h.name_rest
  stamp-at : part 8 34 s ≡ be_bytes 8 h.time_stamp
  size-at : part 8 42 s ≡ be_bytes 8 h.body_size
  crc-at : part 8 50 s ≡ be_bytes 8 h.crc

front : (h : Header) (rest : List ℕ) → Front h (encode_header h ++ rest)
unfolding encode_header
front h rest =
    let fields : cut 0 header_widths (join (header_fields h) ++ rest) ≡ header_fields h =
    cut-join [] (header_fields h) header_widths rest 0 refl (header-widths h) in
    record { version-at = cc; type_at = cc; name-at = cc; stamp-at = cc; size-at = cc; crc-at = cc }

pub header_read_lem : (h : Header) (rest : List ℕ) → HeaderFits h → header_of (encode_header h ++ rest) ≡ h
unfolding header_of
header_read_lem h rest f =
    let p = front h rest in
    λ i.
    record {
      version = (ap be_val p.version-at ∙ be_val-be_bytes 2 h.version f.version_fits) i;
      type_text = (ap text_of p.type_at ∙ text_of-field 12 h.type_text h.type_rest f.type_fills) i;
      type_rest = (ap rest_of p.type_at ∙ rest_of-field 12 h.type_text h.type_rest f.type_fills) i;
      device_name = (ap text_of p.name-at ∙ text_of-field 20 h.device_name h.name_rest f.name_fills) i;
      name_rest = (ap rest_of p.name-at ∙ rest_of-field 20 h.device_name h.name_rest f.name_fills) i;
      time_stamp = (ap be_val p.stamp-at ∙ be_val-be_bytes 8 h.time_stamp f.stamp_fits) i;
      body_size = (ap be_val p.size-at ∙ be_val-be_bytes 8 h.body_size f.size_fits) i;
      crc = (ap be_val p.crc-at ∙ be_val-be_bytes 8 h.crc f.crc_fits) i;
    }

pub header-number : (h : Header) (rest : List ℕ) → HeaderFits h → header_fault (encode_header h ++ rest) ≡ limit_fault h.body_size
header-number h rest f =
    let p = front h rest in
    let long : 58 ≤ length (encode_header h ++ rest) = omega (arith, length-append (encode_header h) rest, length-header h) in
    let texts =
    texts-pass (encode_header h ++ rest)
    (ap text_ok p.type_at ∙ text_ok-field 12 h.type_text h.type_rest f.type_fills)
    (ap text_ok p.name-at ∙ text_ok-field 20 h.device_name h.name_rest f.name_fills) in
    fault-limit (encode_header h ++ rest) long texts ∙ ap (λ (g : Header). limit_fault g.body_size) (header_read_lem h rest f)

-- ---- what is accepted is written back, and is well formed

pub header_back : (s : List ℕ) → Bytes s → header_fault s ≡ 0 → encode_header (header_of s) ≡ take 58 s
unfolding encode_header header_of
header_back s b h =
    let p = fault-passed s h in
    let long = p.long in
    let version : be_bytes 2 (be_at 2 0 s) ≡ part 2 0 s = be_bytes-be_at 2 0 s b (omega arith) in
    let type : field_bytes 12 (text_of (part 12 2 s)) (rest_of (part 12 2 s)) ≡ part 12 2 s = field_bytes-part 12 2 s (omega arith) in
    let name : field_bytes 20 (text_of (part 20 14 s)) (rest_of (part 20 14 s)) ≡ part 20 14 s = field_bytes-part 20 14 s (omega arith) in
    let stamp : be_bytes 8 (be_at 8 34 s) ≡ part 8 34 s = be_bytes-be_at 8 34 s b (omega arith) in
    let size : be_bytes 8 (be_at 8 42 s) ≡ part 8 42 s = be_bytes-be_at 8 42 s b (omega arith) in
    let crc : be_bytes 8 (be_at 8 50 s) ≡ part 8 50 s = be_bytes-be_at 8 50 s b (omega arith) in
    let fields : header_fields (header_of s) ≡ cut 0 header_widths s = cc in
    ap join fields ∙ join-cut 0 header_widths s

pub header-fits : (s : List ℕ) → Bytes s → header_fault s ≡ 0 → WellHeader (header_of s)
unfolding header_of
header-fits s b h =
    let p = fault-passed s h in
    let long = p.long in
    record {
      fits =
          record {
            version_fits = be_at-lt 2 0 s b;
            type_fills = fills-part 12 2 s b (omega arith) p.type-ok;
            name_fills = fills-part 20 14 s b (omega arith) p.name-ok;
            stamp_fits = be_at-lt 8 34 s b;
            size_fits = be_at-lt 8 42 s b;
            crc_fits = be_at-lt 8 50 s b;
          };
      size-limit = p.size-limit;
    }

-- ---- the texts as parts of the stream

-- a field's text is a part of the stream at the field's place
text_at : (w at : ℕ) (s : List ℕ) → part (length (text_of (part w at s))) at s ≡ text_of (part w at s)
text_at w at s =
    sym (take-take (length (text_of (part w at s))) w (drop at s) (length-text_of-part w at s)) ∙ sym (text-take (part w at s))

pub type-part : (s : List ℕ) → part (length (header_of s).type_text) 2 s ≡ (header_of s).type_text
unfolding header_of
type-part s = text_at 12 2 s

pub name-part : (s : List ℕ) → part (length (header_of s).device_name) 14 s ≡ (header_of s).device_name
unfolding header_of
name-part s = text_at 20 14 s

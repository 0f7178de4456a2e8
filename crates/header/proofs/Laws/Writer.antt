-- The writer of a header: its checks as the code makes them, and what it stores.
use Prim.Native.Nat.{ℕ, ◌≤◌}
use mathlib.Core.Path.{◌≡◌, ap, ap₂, sym, subst⁻¹, ◌∙◌}
use mathlib.Core.List.{List, [], ◌∷◌, ◌++◌}
use lib.ListN.{length, drop}
use lib.Seq.{sets}
use Rattle.fields.specs.Checks.{or_else}
use Rattle.fields.specs.Numbers.{be_bytes}
use Rattle.fields.specs.Layout.{stores}
use Rattle.fields.specs.Answer.{room_fault}
use Rattle.fields.specs.Writers.{writer_fault}
use Rattle.fields.proofs.Laws.Checks.{else-else, else-zero}
use Rattle.fields.proofs.Laws.Received.{field_bytes-zeros}
use Rattle.fields.proofs.Laws.Writers.{writer-theorems}
use Rattle.header.specs.declared.HeaderFields.{HeaderFields}
use Rattle.header.specs.Header.{Header, header_widths, header_fields, encode_header}
use Rattle.header.specs.HeaderReader.{limit_fault}
use Rattle.header.specs.HeaderWriter.{names_fault, given, given_fields, given_fault, header_out}
use Rattle.header.proofs.Laws.Layout.{length-header, stores-header}

pub header-room : (h : Header) (room : ℕ)
    → or_else (names_fault h.type_text h.device_name) (or_else (limit_fault h.body_size) (room_fault 58 room)) ≡ writer_fault (given_fault h) (encode_header h) room
unfolding given_fault
header-room h room =
    sym (else-else (names_fault h.type_text h.device_name) (limit_fault h.body_size) (room_fault 58 room))
    ∙ ap (λ (n : ℕ). or_else (given_fault h) (room_fault n room)) (sym (length-header h))

pub given-passes : (h : Header) → names_fault h.type_text h.device_name ≡ 0 → limit_fault h.body_size ≡ 0 → given_fault h ≡ 0
unfolding given_fault
given-passes h n l = else-zero (names_fault h.type_text h.device_name) (limit_fault h.body_size) n l

-- what is written where there is no fault
pub out-header : (h : Header) (out : List ℕ) → given_fault h ≡ 0 → 58 ≤ length out → header_out h out ≡ encode_header h ++ drop 58 out
out-header h out z k =
    (writer-theorems (given_fault h) (encode_header h)).buffer out z (subst⁻¹ (λ (n : ℕ). n ≤ length out) (length-header h) k)
    ∙ ap (λ (n : ℕ). encode_header h ++ drop n out) (length-header h)

-- the fields that it stores are those of the header given
given-fields : (f : HeaderFields) (t n : List ℕ) → given_fields f t n ≡ header_fields (given f t n)
given-fields f t n =
    ap₂ {C = List (List ℕ)} (λ (x y : List ℕ). be_bytes 2 f.version ∷ x ∷ y ∷ be_bytes 8 f.time_stamp ∷ be_bytes 8 f.body_size ∷ be_bytes 8 f.crc ∷ [])
    (sym (field_bytes-zeros 12 t)) (sym (field_bytes-zeros 20 n))

pub stores-given : (f : HeaderFields) (t n out : List ℕ) → stores out 0 (given_fields f t n) header_widths ≡ sets out 0 (encode_header (given f t n))
stores-given f t n out = ap (λ (x : List (List ℕ)). stores out 0 x header_widths) (given-fields f t n) ∙ stores-header (given f t n) out

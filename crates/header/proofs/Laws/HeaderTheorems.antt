-- What is proved of headers, as it is stated.
use Prim.Native.Nat.{ℕ, ◌≤◌, ◌<◌}
use mathlib.Core.Path.{◌≡◌, sym, ap, subst, ◌∙◌}
use mathlib.Core.Bool.{true, ◌&&◌}
use mathlib.Core.List.{List, [], ◌++◌, append-nil}
use native.Mathlib.Omega.{arith}
use lib.ListN.{length, take, drop, take-append-drop}
use Rattle.fields.specs.Bytes.{Bytes, part}
use Rattle.fields.specs.Numbers.{be_at}
use Rattle.fields.specs.Text.{Text, text_of, all_zero, text_ok}
use Rattle.fields.specs.Received.{rest_of, Rest}
use Rattle.fields.specs.Answer.{Wrote, written_number}
use Rattle.fields.specs.Writers.{writer_fault, WriterTheorems}
use Rattle.fields.proofs.Laws.Checks.{else-fault, else-second, and_split, and-join}
use Rattle.fields.proofs.Laws.Writers.{writer-theorems}
use Rattle.fields.proofs.Laws.Text.{text-ok}
use Rattle.fields.proofs.Laws.Received.{rest-rest, field-parts, ok-is, zeros-to, zeros-from, zeroed-fills, zeroed-zeroed, fills-zeros}
use Rattle.header.specs.declared.HeaderRead.{HeaderRead}
use Rattle.header.specs.declared.HeaderFields.{HeaderFields}
use Rattle.header.specs.Header.{Header, WellTexts, HeaderFits, WellHeader, encode_header, body_limit, cleaned_header, CleanHeader}
use Rattle.header.specs.HeaderReader.{header_of, texts_fault, header_fault, handed, header_read, type_in, name_in}
use Rattle.header.specs.HeaderWriter.{names_fault, given, given_fault, header_written, header_out}
use Rattle.header.specs.HeaderTheorems.{BeginsWith, TextsHeld, given_back, HeaderTheorems}
use Rattle.header.proofs.Laws.Faults.{texts-pass, texts-passed, names-pass, names-broken, limit-pass, limit-refused, fault-short, fault-texts, fault-limit, header-read-passed, header-read-refused, refused-with}
use Rattle.header.proofs.Laws.Layout.{length-header, fits-texts, header_read_lem, header-number, header_back, header-fits, type-part, name-part}
use Rattle.header.proofs.Laws.Writer.{given-passes, out-header}

-- ---- the reader

accepted : (s : List ℕ) → Bytes s → header_fault s ≡ 0 → BeginsWith s (header_of s)
accepted s b h =
    record {
      well = header-fits s b h;
      rest = drop 58 s;
      bytes = ap (λ (l : List ℕ). l ++ drop 58 s) (header_back s b h) ∙ take-append-drop 58 s;
    }

-- the header that a stream begins with is the one that stands at its front
begun-same : (s : List ℕ) (h : Header) → BeginsWith s h → header_of s ≡ h
begun-same s h w = ap header_of (sym w.bytes) ∙ header_read_lem h w.rest w.well.fits

begun-fault : (s : List ℕ) (h : Header) → BeginsWith s h → header_fault s ≡ 0
begun-fault s h w =
    ap header_fault (sym w.bytes)
    ∙ header-number h w.rest w.well.fits
    ∙ limit-pass h.body_size w.well.size-limit

-- check 2 passes exactly what holds two texts
texts-held : (s : List ℕ) → texts_fault s ≡ 0 → TextsHeld s
texts-held s h =
    let k = texts-passed s h in
    (held (part 12 2 s) k.0, held (part 20 14 s) k.1)
  where
    held : (f : List ℕ) → text_ok f ≡ true → (t : List ℕ) × (r : List ℕ) × Text t × Rest r × (t ++ r ≡ f)
    held f e = (text_of f, rest_of f, text-ok f e, rest-rest f, field-parts f)

held-texts : (s : List ℕ) → TextsHeld s → texts_fault s ≡ 0
held-texts s h = texts-pass s (passed (part 12 2 s) h.0) (passed (part 20 14 s) h.1)
  where
    passed : (f : List ℕ) → (t : List ℕ) × (r : List ℕ) × Text t × Rest r × (t ++ r ≡ f) → text_ok f ≡ true
    passed f k = ap text_ok (sym k.4) ∙ ok-is k.0 k.1 k.2 k.3

above-limit : (s : List ℕ) → 58 ≤ length s → TextsHeld s → body_limit < be_at 8 42 s → header_fault s ≡ 3
unfolding header_of
above-limit s h t k = fault-limit s h (held-texts s t) ∙ limit-refused (be_at 8 42 s) k

-- ---- the writer

abbrev written : (h : Header) → WriterTheorems (given_fault h) (encode_header h)
written h = writer-theorems (given_fault h) (encode_header h)

written-names : (h : Header) (room : ℕ) → (WellTexts h.type_text h.device_name → ⊥) → written_number (header_written h room) ≡ 2
unfolding given_fault
written-names h room k =
    (written h).number room ∙ else-fault (given_fault h) _ 1 (else-fault (names_fault h.type_text h.device_name) _ 1 (names-broken h.type_text h.device_name k))

-- of what fits its fields, its number is the reader's
as_reader : (h : Header) → HeaderFits h → given_fault h ≡ header_fault (encode_header h)
unfolding given_fault
as_reader h f =
    else-second (names_fault h.type_text h.device_name) _ (names-pass h.type_text h.device_name (fits-texts h f))
    ∙ sym (ap header_fault (sym (append-nil (encode_header h))) ∙ header-number h [] f)

-- ---- rests

rests-to : (h : Header) → (all_zero h.type_rest && all_zero h.name_rest) ≡ true → CleanHeader h
rests-to h e = let k = and_split (all_zero h.type_rest) (all_zero h.name_rest) e in (zeros-to h.type_rest k.0, zeros-to h.name_rest k.1)

rests-from : (h : Header) → CleanHeader h → (all_zero h.type_rest && all_zero h.name_rest) ≡ true
rests-from h k = and-join (all_zero h.type_rest) (all_zero h.name_rest) (zeros-from h.type_rest k.0) (zeros-from h.name_rest k.1)

pub clean-kept : (h : Header) → CleanHeader h → cleaned_header h ≡ h
clean-kept h k =
    λ i.
    record {
      version = h.version;
      type_text = h.type_text;
      type_rest = sym k.0 i;
      device_name = h.device_name;
      name_rest = sym k.1 i;
      time_stamp = h.time_stamp;
      body_size = h.body_size;
      crc = h.crc;
    }

pub cleaned-fits : (h : Header) → HeaderFits h → HeaderFits (cleaned_header h)
cleaned-fits h f =
    record {
      version_fits = f.version_fits;
      type_fills = zeroed-fills 12 h.type_text h.type_rest f.type_fills;
      name_fills = zeroed-fills 20 h.device_name h.name_rest f.name_fills;
      stamp_fits = f.stamp_fits;
      size_fits = f.size_fits;
      crc_fits = f.crc_fits;
    }

meant : (h : Header) → WellHeader h → WellHeader (cleaned_header h) × CleanHeader (cleaned_header h)
meant h w = (
  record { fits = cleaned-fits h w.fits; size-limit = w.size-limit },
  (zeroed-zeroed h.type_rest, zeroed-zeroed h.name_rest),
)

-- the texts that are handed out
texts : (s : List ℕ) → header_fault s ≡ 0 → (type_in s (header_read s) ≡ (header_of s).type_text) × (name_in s (header_read s) ≡ (header_of s).device_name)
texts s h = let e = header-read-passed s h in (ap (type_in s) e ∙ type-part s, ap (name_in s) e ∙ name-part s)

-- what is handed out and given back is the header that was read, with its rests zeroed
given_back_lem : (s : List ℕ) → Bytes s → header_fault s ≡ 0 → given_back s ≡ cleaned_header (header_of s)
given_back_lem s b h =
    let e : header_read s ≡ handed (header_of s) = header-read-passed s h in
    let f = (header-fits s b h).fits in
    let g = header_of s in
    let fields : HeaderRead → HeaderFields = λ r.
    record { version = r.version; time_stamp = r.time_stamp; body_size = r.body_size; crc = r.crc } in
    (λ i. given (fields (e i)) ((texts s h).0 i) ((texts s h).1 i))
    ∙ (λ i.
    record {
      version = g.version;
      type_text = g.type_text;
      type_rest = fills-zeros 12 g.type_text g.type_rest f.type_fills i;
      device_name = g.device_name;
      name_rest = fills-zeros 20 g.device_name g.name_rest f.name_fills i;
      time_stamp = g.time_stamp;
      body_size = g.body_size;
      crc = g.crc;
    })

-- what was read passes the writer's checks
write_read : (s : List ℕ) → Bytes s → header_fault s ≡ 0 → given_fault (cleaned_header (header_of s)) ≡ 0
write_read s b h =
    let w = header-fits s b h in
    given-passes (cleaned_header (header_of s)) (names-pass (header_of s).type_text (header_of s).device_name (fits-texts (header_of s) w.fits)) (limit-pass (header_of s).body_size w.size-limit)

clean-bytes : (s : List ℕ) → Bytes s → header_fault s ≡ 0 → (header_read s).clean ≡ true → encode_header (cleaned_header (header_of s)) ≡ take 58 s
clean-bytes s b h c =
    let m = sym (ap (λ (r : HeaderRead). r.clean) (header-read-passed s h)) ∙ c in
    ap encode_header (clean-kept (header_of s) (rests-to (header_of s) m)) ∙ header_back s b h

-- two headers with the same bytes are one
bytes-clean : (s : List ℕ) → Bytes s → header_fault s ≡ 0 → encode_header (cleaned_header (header_of s)) ≡ take 58 s → (header_read s).clean ≡ true
bytes-clean s b h e =
    let g = header_of s in
    let c : BeginsWith s (cleaned_header g) =
    record { well = (meant g (header-fits s b h)).0; rest = drop 58 s; bytes = ap (λ (x : List ℕ). x ++ drop 58 s) e ∙ take-append-drop 58 s } in
    ap (λ (r : HeaderRead). r.clean) (header-read-passed s h)
    ∙ rests-from g (subst CleanHeader (sym (begun-same s (cleaned_header g) c)) (meant g (header-fits s b h)).1)

-- ---- the laws, as they are stated

pub header-theorems : HeaderTheorems
header-theorems =
    record {
      width = length-header;
      accepted = accepted;
      begun = λ s h w. header-read-passed s (begun-fault s h w) ∙ ap handed (begun-same s h w);
      texts = λ s h w.
          let k = texts s (begun-fault s h w) in
          let e = begun-same s h w in
          (k.0 ∙ ap (λ (g : Header). g.type_text) e, k.1 ∙ ap (λ (g : Header). g.device_name) e);
      only_one = λ s g h v w. sym (begun-same s g v) ∙ begun-same s h w;
      mark = λ s h w.
          let e = ap (λ (r : HeaderRead). r.clean) (header-read-passed s (begun-fault s h w) ∙ ap handed (begun-same s h w)) in
          ((λ c. rests-to h (sym e ∙ c)), (λ k. e ∙ rests-from h k));
      meant = meant;
      kept = clean-kept;
      short = λ s h. refused-with s 1 (fault-short s h) (λ e. omega arith);
      no_text = λ s h k. refused-with s 2 (fault-texts s h (λ e. k (texts-held s e))) (λ e. omega arith);
      too_long = λ s h t k. refused-with s 3 (above-limit s h t k) (λ e. omega arith);
      nothing_handed = header-read-refused;
      no_texts = λ s h. let e = header-read-refused s h in (ap (type_in s) e, ap (name_in s) e);
      names = written-names;
      number = λ h room f. (written h).number room ∙ ap (λ (n : ℕ). writer_fault n (encode_header h) room) (as_reader h f);
      answered_back = λ s room b h k.
          let g = cleaned_header (header_of s) in
          ap (λ (x : Header). header_written x room) (given_back_lem s b h)
          ∙ (written g).wrote room (write_read s b h) (omega (arith, length-header g, k)) ∙ ap Wrote (length-header g);
      written_back = λ s out b h k.
          ap (λ (x : Header). header_out x out) (given_back_lem s b h) ∙ out-header (cleaned_header (header_of s)) out (write_read s b h) k;
      same_bytes = λ s b h. (bytes-clean s b h, clean-bytes s b h);
      promised = λ h out left answer p. (p.written, p.buffer);
      untouched = λ h out. (written h).untouched out;
    }

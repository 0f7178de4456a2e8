-- Which number the reader and the writer give, in the order of their checks.
use Prim.Native.Nat.{ℕ, zero, suc, ◌+◌, ◌-◌, ◌^◌, ◌<◌, ◌≤◌}
use mathlib.Core.Path.{◌≡◌, refl, sym, ap, ap₂, ◌∙◌, subst}
use mathlib.Core.Logic.{inl, inr, ⊎_elim}
use mathlib.Core.Bool.{true, false, cond, ◌&&◌}
use mathlib.Core.List.{List, [], ◌++◌, append-nil}
use native.Mathlib.Omega.{arith}
use native.Mathlib.Nat.{lt_of_not-le}
use lib.ListN.{length, drop}
use Rattle.fields.specs.Bytes.{Bytes}
use Rattle.fields.specs.Checks.{or_else}
use Rattle.fields.specs.Answer.{written_number, written_count, room_fault}
use Rattle.fields.specs.Received.{Fills}
use Rattle.fields.proofs.Laws.Bytes.{bytes-part}
use Rattle.fields.proofs.Laws.Checks.{zero-else, else-zero, else-fault, else-second, else_same, and-join}
use Rattle.fields.specs.Text.{all_zero}
use Rattle.fields.proofs.Laws.Text.{all-zeros}
use Rattle.fields.proofs.Laws.Tests.{by-test, by_zero, is_false, true-false}
use Rattle.fields.specs.Writers.{WriterTheorems}
use Rattle.fields.proofs.Laws.Writers.{writer-passed, answer-wrote, out-filled, writer-theorems}
use Rattle.fields.proofs.Laws.Received.{zero-fills}
use Rattle.crc64.specs.Crc.{crc_of}
use Rattle.crc64.proofs.Laws.{crc-lt}
use Rattle.header.specs.declared.HeaderRead.{HeaderRead}
use Rattle.header.specs.Header.{Header, WellTexts, HeaderFits, body_limit}
use Rattle.header.specs.HeaderReader.{header_of, header_fault, header_read, limit_fault}
use Rattle.header.specs.HeaderWriter.{names_fault}
use Rattle.header.specs.HeaderReader as header
use Rattle.header.specs.HeaderTheorems.{BeginsWith}
use Rattle.metadata.specs.MetadataCheck.{metadata_fault}
use Rattle.metadata.specs.MetadataTheorems.{IsMetadata}
use Rattle.content.specs.ContentCheck.{content_fault, content_clean, deepest}
use Rattle.content.specs.Tree.{Content, type_text, cleaned, IsClean}
use Rattle.content.specs.Tree as tree
use Rattle.content.proofs.Laws.Contents.{IsContent}
use Rattle.content.proofs.ContentTheorems.{content-theorems}
use Rattle.content.proofs.Laws.Cleaned.{cleaned-type}
use Rattle.content.proofs.Laws.Marks.{content-mark, mark-from}
use Rattle.cleaning.specs.CleanBytes.{clean_bytes}
use Rattle.cleaning.proofs.Laws.CleaningTheorems.{cleaning-theorems}
use Rattle.message.specs.declared.Layout.{Layout}
use Rattle.message.specs.declared.body.Places.{Places}
use Rattle.message.specs.Body.{Sections, Plain, MetadataFits, WellSections}
use Rattle.message.specs.Message.{Parts, header_for}
use Rattle.message.specs.MessageReader.{refused, version_fault, extended_fault, sizes_fault, sections_fault, found_fault, places_of, sections_of, body_fault, body_at, front_fault, stream_fault, read_of}
use Rattle.message.specs.MessageWriter.{body_given, encode_parts, clean_parts, fit_ok, fit_fault, given_sections_fault, given_fault, message_bytes, message_written}
use Rattle.message.specs.BodyTheorems.{IsVersion, BreaksExtended, Agrees}
use Rattle.message.specs.MessageNumbers.{Whole, Sound, LaidOut, number_and_step, Refusals, Given, Unfit, HasIndex, ReadBack, WriterNumbers}
use Rattle.header.proofs.Laws.Layout.{header_read_lem, header-number}
use Rattle.header.proofs.Laws.Faults.{names-pass, names-passed, names-broken, limit-pass, limit-passed, header-read-number}
use Rattle.header.proofs.Laws.HeaderTheorems.{header-theorems}
use Rattle.metadata.proofs.Laws.MetadataTheorems.{metadata-theorems}
use Rattle.message.proofs.Laws.Layout.{fit-metadata, unfit-size, fit-size}
use Rattle.message.proofs.Laws.Body.{body-well, body-read, body-agreed, body-disagreed, sizes-seven, extended-refused, length-2}
use Rattle.message.proofs.Laws.Stream.{is_some, whole-refused, version-pass, version-passed, version-refused, checks-version, checks-crc, checks-body, checks-rest, whole-header, whole-body, whole-front, read-refused, read_number, parts_at, zero_texts, handed-parts, clean_for, read-mark, number_read, index_of}
use Rattle.message.proofs.Laws.Read.{front-refused, header_refused, body_refused}
use Rattle.message.proofs.Laws.Writer.{plain-pass, plain-passed, sizes-pass, sizes-passed, written-index, fit_passed, well-fit, sections-version, sections-unfit, sections-rest, write-names, write-texts, write-limit, write-rest, parts-number, checks-sections, writable, length-cleaned-body, length-cleaned, parts-read}

-- ---- a refusal before a step is known

header-says : (l : Layout) (s : List ℕ) (n : ℕ) → header_read s ≡ header.refused (suc n) → read_of l s ≡ refused (suc n) 0
header-says l s n e =
    let k : header_fault s ≡ suc n = sym (header-read-number s) ∙ ap (λ (r : HeaderRead). r.number) e in
    header_refused l s (is_some (header_fault s) n k) ∙ ap (λ (m : ℕ). refused m 0) k

cut_short : (l : Layout) (s : List ℕ) (h : Header) → BeginsWith s h → length s < 58 + h.body_size → read_of l s ≡ refused 1 0
unfolding front_fault
cut_short l s h b n =
    let e : header_of s ≡ h = ap header_of (sym b.bytes) ∙ header_read_lem h b.rest b.well.fits in
    let z : header_fault s ≡ 0 =
    ap header_fault (sym b.bytes) ∙ header-number h b.rest b.well.fits ∙ limit-pass h.body_size b.well.size-limit in
    let k : length s < 58 + (header_of s).body_size = subst (λ (g : Header). length s < 58 + g.body_size) (sym e) n in
    let f : front_fault s ≡ 1 = else-second (header_fault s) _ z ∙ whole-refused s k in
    front-refused l s (is_some (front_fault s) 0 f) ∙ ap (λ (m : ℕ). refused m 0) f

-- ---- a refusal of the whole

module _ (l : Layout) (s : List ℕ) (h : Header) (b : List ℕ) (w : Whole s h b) where
  body-says : (n : ℕ) → body_fault l h.version h.crc h.type_text b ≡ suc n → read_of l s ≡ refused (suc n) (58 + h.body_size)
  body-says n e =
      let f : HeaderFits h = w.well.fits in
      let o : front_fault s ≡ 0 =
      ap front_fault (sym w.front) ∙ whole-front h b w.rest f w.size ∙ limit-pass h.body_size w.well.size-limit in
      let g : header_of s ≡ h = ap header_of (sym w.front) ∙ whole-header h b w.rest f w.size in
      let k : body_at s ≡ b = ap body_at (sym w.front) ∙ whole-body h b w.rest f w.size in
      let c : body_fault l (header_of s).version (header_of s).crc (header_of s).type_text (body_at s) ≡ suc n =
      ap₂ (λ (x : Header) (y : List ℕ). body_fault l x.version x.crc x.type_text y) g k ∙ e in
      sym (body_refused l s o (suc n) (sym c) (is_some (suc n) n refl)) ∙ ap (λ (x : Header). refused (suc n) (58 + x.body_size)) g

  says-version : (h.version ≡ 1 → ⊥) → (h.version ≡ 2 → ⊥) → read_of l s ≡ refused 4 (58 + h.body_size)
  says-version a c =
      body-says 3 (sym (checks-version l h.version h.crc h.type_text b 4 (sym (version-refused h.version a c)) (is_some 4 3 refl)))

  says-crc : IsVersion h.version → (crc_of b ≡ h.crc → ⊥) → read_of l s ≡ refused 5 (58 + h.body_size)
  says-crc v c = body-says 4 (sym (checks-crc l h.version h.crc h.type_text b (version-pass h.version v) c))

  says-extended : Sound h b → h.version ≡ 2 → BreaksExtended l b → read_of l s ≡ refused 6 (58 + h.body_size)
  says-extended o v k =
      body-says 5
      (sym (checks-body l h.version h.crc h.type_text b 6 (version-pass h.version o.version) o.crc (sym (extended-refused l h.version b v k)) (is_some 6 5 refl)))

  -- a body laid out as sections, with k as the size of the metadata's index
  module _ (k : ℕ) (x : Sections) (o : LaidOut l h b k x) where
    read_as : sections_of l h.version b ≡ x
    read_as = ap (sections_of l h.version) (sym o.body) ∙ body-read l h.version k x o.well

    laid-checks : body_fault l h.version h.crc h.type_text b
        ≡ or_else (sizes_fault l h.version b x.metadata) (or_else (metadata_fault x.metadata) (content_fault deepest h.type_text x.content))
    unfolding found_fault sections_fault
    laid-checks =
        sym (checks-rest l h.version h.crc h.type_text b (version-pass h.version o.sound.version) o.sound.crc (ap (extended_fault l h.version) (sym o.body) ∙ body-well l h.version k x o.well))
        ∙ ap (found_fault l h.version h.type_text b) read_as

    metadata-bytes : Bytes x.metadata
    metadata-bytes =
        let p : Places = places_of l h.version b in
        subst (λ (y : Sections). Bytes y.metadata) read_as (bytes-part p.metadata_len p.metadata_at b w.bytes)

    -- the sizes agree, or are 7
    sizes-agreed : Agrees l h.version k x.metadata → sizes_fault l h.version b x.metadata ≡ 0
    sizes-agreed a =
        ap (λ (y : List ℕ). sizes_fault l h.version y x.metadata) (sym o.body) ∙ body-agreed l h.version k x o.well x.metadata a

    says-sizes : (Agrees l h.version k x.metadata → ⊥) → read_of l s ≡ refused 7 (58 + h.body_size)
    says-sizes d =
        let e : sizes_fault l h.version b x.metadata ≡ 7 =
        ap (λ (y : List ℕ). sizes_fault l h.version y x.metadata) (sym o.body) ∙ body-disagreed l h.version k x o.well x.metadata d in
        body-says 6 (laid-checks ∙ else-fault (sizes_fault l h.version b x.metadata) _ 6 e)

    says-metadata : (IsMetadata x.metadata → ⊥) → read_of l s ≡ refused 7 (58 + h.body_size)
    says-metadata d =
        let e : metadata_fault x.metadata ≡ 7 = metadata-theorems.two_way.refused x.metadata metadata-bytes d in
        let f : or_else (metadata_fault x.metadata) (content_fault deepest h.type_text x.content) ≡ 7 = else-fault (metadata_fault x.metadata) _ 6 e in
        body-says 6
        (laid-checks
        ∙ by_zero (sizes_fault l h.version b x.metadata)
        (λ z. else-second (sizes_fault l h.version b x.metadata) _ z ∙ f)
        (λ z. else-fault (sizes_fault l h.version b x.metadata) _ 6 (sizes-seven l h.version b x.metadata z)))

    says-content : IsMetadata x.metadata → Agrees l h.version k x.metadata → (content_fault deepest h.type_text x.content ≡ 0 → ⊥)
        → read_of l s ≡ refused (content_fault deepest h.type_text x.content) (58 + h.body_size)
    says-content m a d = go (content_fault deepest h.type_text x.content) refl
      where
        checks : body_fault l h.version h.crc h.type_text b ≡ content_fault deepest h.type_text x.content
        checks =
            laid-checks
            ∙ else-second (sizes_fault l h.version b x.metadata) _ (sizes-agreed a)
            ∙ else-second (metadata_fault x.metadata) _ (ap metadata_fault (sym m.2) ∙ metadata-theorems.two_way.well_accepted m.0 m.1)

        go : (n : ℕ) → content_fault deepest h.type_text x.content ≡ n → read_of l s ≡ refused (content_fault deepest h.type_text x.content) (58 + h.body_size)
        go zero e = absurd (d e)
        go (suc n) e = body-says n (checks ∙ e) ∙ ap (λ (j : ℕ). refused j (58 + h.body_size)) (sym e)

pub refusals : (l : Layout) → Refusals l
refusals l =
    record {
      short = λ s h. header-says l s 0 (header-theorems.short s h);
      no_text = λ s h k. header-says l s 1 (header-theorems.no_text s h k);
      too_long = λ s h k o. header-says l s 2 (header-theorems.too_long s h k o);
      cut_short = cut_short l;
      version = says-version l;
      crc = says-crc l;
      extended = says-extended l;
      metadata = λ s h b k x w o d. says-metadata l s h b w k x o d;
      sizes = λ s h b k x w o d. says-sizes l s h b w k x o d;
      content = λ s h b k x w o m a d. says-content l s h b w k x o m a d;
      nothing_handed = λ s h. let e = read-refused l s (λ z. h (read_number l s ∙ z)) in e ∙ sym (ap number_and_step e);
    }

-- ---- the writer

abbrev written : (l : Layout) (p : Parts) → WriterTheorems (given_fault l p) (message_bytes l p)
written l p = writer-theorems (given_fault l p) (message_bytes l p)

checks-say : (l : Layout) (p : Parts) (room n : ℕ) → given_fault l p ≡ suc n → written_number (message_written l p room) ≡ suc n
checks-say l p room n e = (written l p).number room ∙ else-fault (given_fault l p) _ n e

says-names : (l : Layout) (p : Parts) (room : ℕ) → (WellTexts p.type_text p.device_name → ⊥) → written_number (message_written l p room) ≡ 2
says-names l p room h =
    checks-say l p room 1 (sym (write-names l p 2 (sym (names-broken p.type_text p.device_name h)) (is_some 2 1 refl)))

says-too-long : (l : Layout) (p : Parts) (room : ℕ) → WellTexts p.type_text p.device_name → body_limit < length (body_given l p)
    → written_number (message_written l p room) ≡ 3
says-too-long l p room t h = checks-say l p room 2 (sym (write-limit l p (names-pass p.type_text p.device_name t) h))

-- sections that don't fit are refused, others are those of a body
unfit-version : (l : Layout) (v : ℕ) (x : Sections) → Unfit l v x → IsVersion v
unfit-version l v x u = ⊎_elim (λ e. inl e.0) (λ e. inr e.0) u

unfit-refused : (l : Layout) (v : ℕ) (x : Sections) → Unfit l v x → fit_ok l v x ≡ false
unfit-refused l v x u =
    is_false (fit_ok l v x)
    (λ k.
    ⊎_elim (λ e. e.1 (plain-passed l v x (λ f. omega (arith, e.0, f)) k))
    (λ e. let q = sizes-passed l v x e.0 k in ⊎_elim (λ a. omega (arith, q.0)) (λ a. unfit-size l x.metadata a q.1) e.1)
    u)

says-unfit : (l : Layout) (p : Parts) (room : ℕ) → WellTexts p.type_text p.device_name → length (body_given l p) ≤ body_limit → Unfit l p.version p.sections
    → written_number (message_written l p room) ≡ 6
says-unfit l p room t n u =
    checks-say l p room 5
    (sym (write-rest l p (names-pass p.type_text p.device_name t) n)
    ∙ sym (sections-unfit l p.version p.type_text p.sections (version-pass p.version (unfit-version l p.version p.sections u)) (unfit-refused l p.version p.sections u)))

fit-plain : (l : Layout) (v : ℕ) (x : Sections) → v ≡ 1 → (Unfit l v x → ⊥) → Plain x
fit-plain l v x e h =
    let two : v ≡ 2 → ⊥ = λ f. omega (arith, e, f) in
    by-test (fit_ok l v x) (plain-passed l v x two) (λ k. absurd (h (inl (e, λ p. true-false (fit_ok l v x) (plain-pass l v x two p) k))))

-- what is not unfit passes
fit-ok : (l : Layout) (v : ℕ) (x : Sections) → IsVersion v → (Unfit l v x → ⊥) → fit_ok l v x ≡ true
fit-ok l v x o h =
    ⊎_elim (λ e. plain-pass l v x (λ f. omega (arith, e, f)) (fit-plain l v x e h))
    (λ e. sizes-pass l v x e (omega (arith, lt_of_not-le (λ k. h (inr (e, inl k))))) (fit-size l x.metadata (λ k. h (inr (e, inr k)))))
    o

-- n: the body keeps the limit
fit-sizes : (l : Layout) (p : Parts) → p.version ≡ 2 → length (body_given l p) ≤ body_limit → (Unfit l p.version p.sections → ⊥)
    → HasIndex l p.version p.sections.metadata → MetadataFits l (index_of p) (length p.sections.metadata)
fit-sizes l p e n h i =
    let x : Sections = p.sections in
    fit-metadata l p.version x.metadata e (fit-size l x.metadata (λ k. h (inr (e, inr k)))) i (omega (arith, length-2 l p.version (index_of p) x e, n))

fit-well : (l : Layout) (p : Parts) → Given l p → IsVersion p.version → length (body_given l p) ≤ body_limit → (Unfit l p.version p.sections → ⊥)
    → HasIndex l p.version p.sections.metadata → WellSections l p.version (index_of p) p.sections
fit-well l p g o n h i =
    ⊎_elim (λ e. inl (e, fit-plain l p.version p.sections e h))
    (λ e.
    inr (
      e,
      record {
        id_fits = g.id_fits;
        further_bytes = g.further_bytes;
        further_fits = lt_of_not-le (λ k. h (inr (e, inl k)));
        metadata_fits = fit-sizes l p e n h i;
      },
    ))
    o

-- of sections that fit, the writer's checks are the reader's
same-checks : (l : Layout) (p : Parts) → Given l p → (Unfit l p.version p.sections → ⊥) → HasIndex l p.version p.sections.metadata
    → length (body_given l p) ≤ body_limit
    → given_sections_fault l p.version p.type_text p.sections ≡ body_fault l p.version (crc_of (body_given l p)) p.type_text (body_given l p)
same-checks l p g h i n =
    by_zero (version_fault p.version)
    (λ e.
    let w : WellSections l p.version (index_of p) p.sections = fit-well l p g (version-passed p.version e) n h i in
    sym (sections-rest l p.version p.type_text p.sections e (fit_passed l p.version p.sections (well-fit l p.version p.sections w)))
    ∙ sym (checks-sections l (index_of p) p w refl))
    (λ z.
    sym (sections-version l p.version p.type_text p.sections (version_fault p.version) refl z)
    ∙ checks-version l p.version (crc_of (body_given l p)) p.type_text (body_given l p) (version_fault p.version) refl z)

given-header : (l : Layout) (p : Parts) → Given l p → WellTexts p.type_text p.device_name → HeaderFits (header_for l (index_of p) p)
given-header l p g t =
    record {
      version_fits = g.version_fits;
      type_fills = subst (Fills 12 p.type_text) (sym g.type_zeros) (zero-fills 12 p.type_text t.type-text t.type_fits);
      name_fills = subst (Fills 20 p.device_name) (sym g.name_zeros) (zero-fills 20 p.device_name t.name_text t.name_fits);
      stamp_fits = g.stamp_fits;
      size_fits = g.body_fits;
      crc_fits = crc-lt (body_given l p);
    }

checks-reader : (l : Layout) (p : Parts) → Given l p → WellTexts p.type_text p.device_name → (Unfit l p.version p.sections → ⊥)
    → HasIndex l p.version p.sections.metadata → given_fault l p ≡ (read_of l (encode_parts l p)).number
checks-reader l p g t h i =
    write-texts l p (names-pass p.type_text p.device_name t)
    ∙ else_same (limit_fault (length (body_given l p))) _ _ (λ z. same-checks l p g h i (limit-passed (length (body_given l p)) z))
    ∙ sym (parts-number l (index_of p) p [] (given-header l p g t))
    ∙ ap (stream_fault l) (append-nil (encode_parts l p))
    ∙ sym (read_number l (encode_parts l p))

says-no-metadata : (l : Layout) (p : Parts) (room : ℕ) → WellTexts p.type_text p.device_name → length (body_given l p) ≤ body_limit → IsVersion p.version
    → (Unfit l p.version p.sections → ⊥) → Bytes p.sections.metadata → (IsMetadata p.sections.metadata → ⊥)
    → written_number (message_written l p room) ≡ 7
unfolding sections_fault
says-no-metadata l p room t n o h b d =
    let x : Sections = p.sections in
    let e : metadata_fault x.metadata ≡ 7 = metadata-theorems.two_way.refused x.metadata b d in
    checks-say l p room 6
    (sym (write-rest l p (names-pass p.type_text p.device_name t) n)
    ∙ sym (sections-rest l p.version p.type_text x (version-pass p.version o) (fit-ok l p.version x o h))
    ∙ else-fault (metadata_fault x.metadata) _ 6 e)

-- ---- what is written is read back

-- the bytes of p are accepted, and p stands in them
parts-accepted : (l : Layout) (p : Parts) → Given l p → given_fault l p ≡ 0 → (stream_fault l (encode_parts l p) ≡ 0) × (parts_at l (encode_parts l p) ≡ p)
parts-accepted l p g z =
    let w = writable l p z in
    let t = names-passed p.type_text p.device_name w.names in
    let i = written-index l p w in
    let fit : Unfit l p.version p.sections → ⊥ =
    λ u. true-false (fit_ok l p.version p.sections) w.fit (unfit-refused l p.version p.sections u) in (
      number_read l (encode_parts l p) (sym (checks-reader l p g t fit i) ∙ z),
      ap (parts_at l) (sym (append-nil (encode_parts l p)))
          ∙ parts-read l (index_of p) p [] (given-header l p g t) (fit-well l p g w.version w.short fit i),
    )

-- it has the writer's zeros behind its texts
given-zeros : (l : Layout) (p : Parts) → Given l p → zero_texts p ≡ p
given-zeros l p g = λ i.
    record {
      version = p.version;
      type_text = p.type_text;
      type_rest = sym g.type_zeros i;
      device_name = p.device_name;
      name_rest = sym g.name_zeros i;
      time_stamp = p.time_stamp;
      sections = p.sections;
    }

-- a content that passes, cleaned: a content that is well formed and clean
pub record CleanedContent (t c : List ℕ) : Type 0 where
  pub content : Content
  pub well : tree.WellFormed content deepest
  pub clean : IsClean content
  pub type : type_text content ≡ t
  pub bytes : tree.encode content ≡ clean_bytes deepest t c

cleaned-content : (t c : List ℕ) → Bytes c → content_fault deepest t c ≡ 0 → CleanedContent t c
cleaned-content t c b z =
    let k : IsContent deepest t c = (content-theorems.two_way deepest t).accepted c b z in
    let x : Content = k.0 in
    record {
      content = cleaned x;
      well = content-theorems.cleaned_well deepest x k.1.0;
      clean = content-theorems.cleaned_clean x;
      type = cleaned-type x ∙ k.1.1;
      bytes = sym (cleaning-theorems.cleaned_bytes deepest x k.1.0) ∙ ap₂ (clean_bytes deepest) k.1.1 k.2;
    }

-- it passes, and its mark is true
module _ (t c : List ℕ) (k : CleanedContent t c) where
  cleaned-passes : content_fault deepest t (clean_bytes deepest t c) ≡ 0
  cleaned-passes =
      ap (content_fault deepest t) (sym k.bytes) ∙ (content-theorems.two_way deepest t).well_accepted k.content (k.well, k.type)

  cleaned-marked : content_clean deepest t (clean_bytes deepest t c) ≡ true
  cleaned-marked =
      ap₂ (content_clean deepest) (sym k.type) (sym k.bytes)
      ∙ sym (content-mark deepest k.content k.well)
      ∙ mark-from deepest k.content k.well k.clean

-- the content of what passes the writer's checks passes
content-passes : (l : Layout) (p : Parts) → given_fault l p ≡ 0 → content_fault deepest p.type_text p.sections.content ≡ 0
unfolding given_fault given_sections_fault sections_fault
content-passes l p z =
    let a = zero-else (names_fault p.type_text p.device_name) _ z in
    let b = zero-else (limit_fault (length (body_given l p))) _ a.1 in
    let v = zero-else (version_fault p.version) _ b.1 in
    let f = zero-else (fit_fault l p.version p.sections) _ v.1 in
    (zero-else (metadata_fault p.sections.metadata) _ f.1).1

cleaned-checks : (l : Layout) (p : Parts) → CleanedContent p.type_text p.sections.content → given_fault l p ≡ 0 → given_fault l (clean_parts p) ≡ 0
unfolding given_fault given_sections_fault fit_fault sections_fault
cleaned-checks l p k z =
    let a = zero-else (names_fault p.type_text p.device_name) _ z in
    let b = zero-else (limit_fault (length (body_given l p))) _ a.1 in
    let v = zero-else (version_fault p.version) _ b.1 in
    let f = zero-else (cond (fit_ok l p.version p.sections) 0 6) _ v.1 in
    let m = zero-else (metadata_fault p.sections.metadata) _ f.1 in
    else-zero (names_fault p.type_text p.device_name) _ a.0
    (else-zero (limit_fault (length (body_given l (clean_parts p)))) _ (ap limit_fault (length-cleaned-body l p) ∙ b.0)
    (else-zero (version_fault p.version) _ v.0
    (else-zero (cond (fit_ok l p.version p.sections) 0 6) _ f.0
    (else-zero (metadata_fault p.sections.metadata) _ m.0 (cleaned-passes p.type_text p.sections.content k)))))

cleaned-given : (l : Layout) (p : Parts) → Given l p → Given l (clean_parts p)
cleaned-given l p g =
    record {
      version_fits = g.version_fits;
      stamp_fits = g.stamp_fits;
      id_fits = g.id_fits;
      further_bytes = g.further_bytes;
      type_zeros = g.type_zeros;
      name_zeros = g.name_zeros;
      body_fits = subst (λ (n : ℕ). n < 256 ^ 8) (sym (length-cleaned-body l p)) g.body_fits;
    }

cleaned-mark : (l : Layout) (p : Parts) → Given l p → CleanedContent p.type_text p.sections.content → clean_for (clean_parts p) ≡ true
cleaned-mark l p g k =
    and-join (all_zero p.type_rest && all_zero p.name_rest) _
    (and-join (all_zero p.type_rest) _
    (ap all_zero g.type_zeros ∙ all-zeros (12 - length p.type_text))
    (ap all_zero g.name_zeros ∙ all-zeros (20 - length p.device_name)))
    (cleaned-marked p.type_text p.sections.content k)

says-read-back : (l : Layout) (p : Parts) (out : List ℕ) → Given l p → Bytes p.sections.content → written_number (message_written l p (length out)) ≡ 0
    → ReadBack l p out
says-read-back l p out g b h =
    let q : Parts = clean_parts p in
    let z = sym ((written l p).number (length out)) ∙ h in
    let y = (writer-passed (given_fault l p) (message_bytes l p) (length out) z).0 in
    let k = cleaned-content p.type_text p.sections.content b (content-passes l p y) in
    let r = parts-accepted l q (cleaned-given l p g) (cleaned-checks l p k y) in
    record {
      count = ap written_count (answer-wrote (given_fault l p) (message_bytes l p) (length out) z) ∙ length-cleaned l p;
      bytes = out-filled (given_fault l p) (message_bytes l p) out z ∙ ap (λ (i : ℕ). encode_parts l q ++ drop i out) (length-cleaned l p);
      accepted = read_number l (encode_parts l q) ∙ r.0;
      clean = read-mark l (encode_parts l q) r.0 ∙ ap clean_for r.1 ∙ cleaned-mark l p g k;
      handed_out = handed-parts l (encode_parts l q) r.0 ∙ ap zero_texts r.1 ∙ given-zeros l q (cleaned-given l p g);
    }

pub writer-numbers : (l : Layout) → WriterNumbers l
writer-numbers l =
    record {
      names = says-names l;
      too_long = says-too-long l;
      unfit = says-unfit l;
      no_metadata = says-no-metadata l;
      as_reader = λ p room g t h i.
          (written l p).number room ∙ ap₂ (λ (n k : ℕ). or_else n (room_fault k room)) (checks-reader l p g t h i) (length-cleaned l p);
      promised = λ p out left answer k. (k.written, k.buffer);
      untouched = λ p out. (written l p).untouched out;
      read_back = says-read-back l;
    }

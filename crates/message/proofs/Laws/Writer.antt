-- The writer's checks: what passes them, and how they stand to the reader's.
use Prim.Native.Nat.{ℕ, ◌+◌, ◌<◌, ◌≤◌}
use mathlib.Core.Path.{◌≡◌, refl, sym, ap, ap₂, subst, ◌∙◌}
use mathlib.Core.Logic.{inl, inr, ⊎_elim}
use mathlib.Core.Bool.{Bool, true, false, cond, ◌&&◌}
use mathlib.Core.List.{List, [], ◌++◌, append_assoc, append-nil}
use native.Mathlib.Omega.{arith}
use lib.Dec.{eqb, leb}
use lib.ListN.{length, take, drop, length-append, drop_of_length-le}
use lib.Seq.{sets, take_all, take_at, drop_at, drop-drop, length-take-le}
use borrow.Rule.Slice.PartMut.{put_mid}
use borrow.Author.Tests.{eqb-true, eqb-false, leb-true, leb-false, le-leb, eq-eqb, ne_eqb}
use Rattle.fields.specs.Bytes.{part}
use Rattle.fields.specs.Checks.{or_else}
use Rattle.fields.proofs.Laws.Bytes.{length_part}
use Rattle.fields.proofs.Laws.Stores.{sets-front}
use Rattle.fields.proofs.Laws.Checks.{zero-else, else-first, else-fault, else-second, cond-pass, and_split, and-join}
use Rattle.fields.proofs.Laws.Tests.{by-test}
use Rattle.fields.proofs.Laws.Writers.{refuses, writes}
use Rattle.std.specs.Prelude.{Result, IsErr}
use Rattle.fields.specs.declared.fault.Fault.{Fault}
use Rattle.fields.specs.Fault.{number_of}
use Rattle.fields.proofs.Laws.Answer.{err_number}
use Rattle.fields.specs.Answer.{Written, Wrote, written_of, room_fault}
use Rattle.fields.specs.Writers.{writer_fault, WriterPromise}
use Rattle.crc64.specs.Crc.{crc_of}
use Rattle.header.specs.Header.{Header, HeaderFits, encode_header, body_limit}
use Rattle.header.specs.HeaderReader.{header_of, limit_fault}
use Rattle.header.specs.HeaderWriter.{names_fault, header_out}
use Rattle.metadata.specs.MetadataCheck.{index_size_in, metadata_fault}
use Rattle.metadata.proofs.Laws.MetadataTheorems.{metadata-theorems}
use Rattle.content.specs.ContentCheck.{deepest}
use Rattle.cleaning.proofs.Laws.Lengths.{length-clean}
use Rattle.message.specs.declared.Layout.{Layout}
use Rattle.message.specs.Body.{Sections, Plain, MetadataFits, WellSections, encode_body}
use Rattle.message.specs.Message.{Parts, body_of, header_for, encode_with}
use Rattle.message.specs.MessageReader.{version_fault, sizes_fault, sections_fault, found_fault, sections_of, body_fault, body_at, stream_fault}
use Rattle.message.specs.MessageWriter.{body_given, encode_parts, body_length, size_fits, fits, fit_ok, fit_fault, given_sections_fault, given_fault, clean_parts, message_bytes}
use Rattle.message.specs.BodyTheorems.{IsVersion}
use Rattle.message.specs.MessageNumbers.{HasIndex}
use Rattle.header.proofs.Laws.Layout.{length-header}
use Rattle.header.proofs.Laws.Writer.{given-passes, out-header}
use Rattle.header.proofs.Laws.Faults.{limit-pass, limit-passed, limit-refused}
use Rattle.message.proofs.Laws.Layout.{agrees-same, fits-well, fit-metadata, has-index}
use Rattle.message.proofs.Laws.Body.{body-well, body-read, body-agreed, length-1, length-2}
use Rattle.message.proofs.Laws.Stream.{version-pass, version-passed, checks-rest, whole-number, parts_at, whole-header, whole-body, index_of}

-- ---- check 6

fit-1 : (l : Layout) (v : ℕ) (x : Sections) → (v ≡ 2 → ⊥)
    → fit_ok l v x ≡ (eqb x.id 0 && (eqb (length x.further) 0 && eqb (length x.metadata) 0))
unfolding fits
fit-1 l v x h = simp (ne_eqb v 2 h)

fit-2 : (l : Layout) (v : ℕ) (x : Sections) → v ≡ 2
    → fit_ok l v x ≡ (leb (12 + length x.further) 65535 && size_fits l (index_size_in x.metadata) (length x.metadata))
unfolding fits
fit-2 l v x h = simp (eq-eqb v 2 h)

-- ---- the length of a body

module _ (v f c m : ℕ) where
  pub long-1 : (v ≡ 2 → ⊥) → body_length v f c m ≡ c
  long-1 h = simp (ne_eqb v 2 h)

  pub long-2 : v ≡ 2 → body_length v f c m ≡ 12 + f + c + m
  long-2 h = simp (eq-eqb v 2 h)

  -- it is at least the content's
  pub content-long : c ≤ body_length v f c m
  content-long = go (eqb v 2)
    where
      go : (t : Bool) → c ≤ cond t (12 + f + c + m) c
      go true = omega arith
      go false = omega arith

pub length-body : (l : Layout) (v j : ℕ) (x : Sections) → length (encode_body l v j x) ≡ body_length v (length x.further) (length x.content) (length x.metadata)
length-body l v j x =
    by-test (eqb v 2)
    (λ e.
    let k : v ≡ 2 = eqb-true v 2 e in
    length-2 l v j x k ∙ sym (long-2 v (length x.further) (length x.content) (length x.metadata) k))
    (λ e.
    let k : v ≡ 2 → ⊥ = eqb-false v 2 e in
    length-1 l v j x k ∙ sym (long-1 v (length x.further) (length x.content) (length x.metadata) k))

empty : (s : List ℕ) → length s ≡ 0 → s ≡ []
empty s h = sym (take_all 0 s (omega arith))

-- V 1
pub plain-pass : (l : Layout) (v : ℕ) (x : Sections) → (v ≡ 2 → ⊥) → Plain x → fit_ok l v x ≡ true
plain-pass l v x h p =
    fit-1 l v x h
    ∙ and-join (eqb x.id 0) _ (eq-eqb x.id 0 p.no_id)
    (and-join (eqb (length x.further) 0) _ (eq-eqb (length x.further) 0 (ap length p.no_further))
    (eq-eqb (length x.metadata) 0 (ap length p.no_metadata)))

pub plain-passed : (l : Layout) (v : ℕ) (x : Sections) → (v ≡ 2 → ⊥) → fit_ok l v x ≡ true → Plain x
plain-passed l v x h k =
    let a = and_split (eqb x.id 0) _ (sym (fit-1 l v x h) ∙ k) in
    let b = and_split (eqb (length x.further) 0) _ a.1 in
    record {
      no_id = eqb-true _ _ a.0;
      no_further = empty x.further (eqb-true _ _ b.0);
      no_metadata = empty x.metadata (eqb-true _ _ b.1);
    }

-- V 2
pub sizes-pass : (l : Layout) (v : ℕ) (x : Sections) → v ≡ 2 → 12 + length x.further ≤ 65535
    → size_fits l (index_size_in x.metadata) (length x.metadata) ≡ true → fit_ok l v x ≡ true
sizes-pass l v x h a b = fit-2 l v x h ∙ and-join (leb (12 + length x.further) 65535) _ (le-leb (12 + length x.further) 65535 a) b

pub sizes-passed : (l : Layout) (v : ℕ) (x : Sections) → v ≡ 2 → fit_ok l v x ≡ true
    → (12 + length x.further ≤ 65535) × (size_fits l (index_size_in x.metadata) (length x.metadata) ≡ true)
sizes-passed l v x h k =
    let a = and_split (leb (12 + length x.further) 65535) _ (sym (fit-2 l v x h) ∙ k) in
    (leb-true _ _ a.0, a.1)

fit-pass : (l : Layout) (v : ℕ) (x : Sections) → fit_ok l v x ≡ true → fit_fault l v x ≡ 0
unfolding fit_fault
fit-pass l v x h = ap (λ (t : Bool). cond t 0 6) h

pub fit_passed : (l : Layout) (v : ℕ) (x : Sections) → fit_fault l v x ≡ 0 → fit_ok l v x ≡ true
unfolding fit_fault
fit_passed l v x h = (cond-pass (fit_ok l v x) 5 0 h).0

fit_refused : (l : Layout) (v : ℕ) (x : Sections) → fit_ok l v x ≡ false → fit_fault l v x ≡ 6
unfolding fit_fault
fit_refused l v x h = ap (λ (t : Bool). cond t 0 6) h

-- the sections of a body pass
pub well-fit : (l : Layout) (v : ℕ) (x : Sections) → WellSections l v (index_size_in x.metadata) x → fit_fault l v x ≡ 0
well-fit l v x w =
    fit-pass l v x
    (⊎_elim (λ e. plain-pass l v x (λ f. omega (arith, e.0, f)) e.1)
    (λ e.
    sizes-pass l v x e.0 (omega (arith, e.1.further_fits)) (fits-well l (index_size_in x.metadata) (length x.metadata) e.1.metadata_fits))
    w)

pub well-version : (l : Layout) (v k : ℕ) (x : Sections) → WellSections l v k x → IsVersion v
well-version l v k x w = ⊎_elim (λ e. inl e.0) (λ e. inr e.0) w

-- ---- checks 4 to 11 in turn, as the code makes them: n is the number of a check that is not passed

module _ (l : Layout) (v : ℕ) (t : List ℕ) (x : Sections) where
  pub sections-version : (n : ℕ) → n ≡ version_fault v → (n ≡ 0 → ⊥) → n ≡ given_sections_fault l v t x
  unfolding given_sections_fault
  sections-version n e h = e ∙ sym (else-first (version_fault v) _ (λ z. h (e ∙ z)))

  pub sections-unfit : version_fault v ≡ 0 → fit_ok l v x ≡ false → 6 ≡ given_sections_fault l v t x
  unfolding given_sections_fault
  sections-unfit e h =
      let k : fit_fault l v x ≡ 6 = fit_refused l v x h in
      sym (else-second (version_fault v) _ e ∙ else-fault (fit_fault l v x) _ 5 k)

  pub sections-rest : version_fault v ≡ 0 → fit_ok l v x ≡ true → sections_fault t x ≡ given_sections_fault l v t x
  unfolding given_sections_fault
  sections-rest e h = sym (else-second (version_fault v) _ e ∙ else-second (fit_fault l v x) _ (fit-pass l v x h))

-- ---- all checks but that of the room

-- the body's length by those of its sections
abbrev pub long_of : Parts → ℕ
long_of p = body_length p.version (length p.sections.further) (length p.sections.content) (length p.sections.metadata)

pub length-given : (l : Layout) (p : Parts) → length (body_given l p) ≡ long_of p
length-given l p = length-body l p.version (index_of p) p.sections

module _ (l : Layout) (p : Parts) where
  pub write-names : (n : ℕ) → n ≡ names_fault p.type_text p.device_name → (n ≡ 0 → ⊥) → n ≡ given_fault l p
  unfolding given_fault
  write-names n e h = e ∙ sym (else-first (names_fault p.type_text p.device_name) _ (λ z. h (e ∙ z)))

  -- what is left where the texts are right
  pub write-texts : names_fault p.type_text p.device_name ≡ 0
      → given_fault l p ≡ or_else (limit_fault (length (body_given l p))) (given_sections_fault l p.version p.type_text p.sections)
  unfolding given_fault
  write-texts e = else-second (names_fault p.type_text p.device_name) _ e

  pub write-limit : names_fault p.type_text p.device_name ≡ 0 → body_limit < length (body_given l p) → 3 ≡ given_fault l p
  write-limit e h =
      let k : limit_fault (length (body_given l p)) ≡ 3 = limit-refused (length (body_given l p)) h in
      sym (write-texts e ∙ else-fault (limit_fault (length (body_given l p))) _ 2 k)

  pub write-rest : names_fault p.type_text p.device_name ≡ 0 → length (body_given l p) ≤ body_limit
      → given_sections_fault l p.version p.type_text p.sections ≡ given_fault l p
  write-rest e h = sym (write-texts e ∙ else-second (limit_fault (length (body_given l p))) _ (limit-pass (length (body_given l p)) h))

  -- the limit as the code tests it
  pub long-body : leb (long_of p) body_limit ≡ false → body_limit < length (body_given l p)
  long-body h = omega (arith, length-given l p, leb-false (long_of p) body_limit h)

  pub short-body : leb (long_of p) body_limit ≡ true → length (body_given l p) ≤ body_limit
  short-body h = omega (arith, length-given l p, leb-true (long_of p) body_limit h)

-- what passes them
pub record Writable (l : Layout) (p : Parts) : Type 0 where
  pub names : names_fault p.type_text p.device_name ≡ 0
  pub short : length (body_given l p) ≤ body_limit
  pub version : IsVersion p.version
  pub fit : fit_ok l p.version p.sections ≡ true
  pub metadata : metadata_fault p.sections.metadata ≡ 0

pub writable : (l : Layout) (p : Parts) → given_fault l p ≡ 0 → Writable l p
unfolding given_fault given_sections_fault sections_fault
writable l p h =
    let a = zero-else (names_fault p.type_text p.device_name) _ h in
    let b = zero-else (limit_fault (length (body_given l p))) _ a.1 in
    let c = zero-else (version_fault p.version) _ b.1 in
    let d = zero-else (fit_fault l p.version p.sections) _ c.1 in
    record {
      names = a.0;
      short = limit-passed (length (body_given l p)) b.0;
      version = version-passed p.version c.0;
      fit = fit_passed l p.version p.sections d.0;
      metadata = (zero-else (metadata_fault p.sections.metadata) _ d.1).0;
    }

-- its metadata has its index
pub written-index : (l : Layout) (p : Parts) → Writable l p → HasIndex l p.version p.sections.metadata
written-index l p w = has-index l p.version p.sections.metadata (metadata-theorems.index_within p.sections.metadata w.metadata)

-- and the sizes fit their fields, where they are stored
pub written-sizes : (l : Layout) (p : Parts) → Writable l p → p.version ≡ 2
    → (12 + length p.sections.further ≤ 65535) × MetadataFits l (index_of p) (length p.sections.metadata)
written-sizes l p w e =
    let x : Sections = p.sections in
    let q = sizes-passed l p.version x e w.fit in
    let n : length x.metadata ≤ body_limit = omega (arith, length-2 l p.version (index_of p) x e, w.short) in
    (q.0, fit-metadata l p.version x.metadata e q.1 (written-index l p w) n)

-- ---- the bytes of a message, k being the size of the metadata's index

module _ (l : Layout) (k : ℕ) (p : Parts) where
  abbrev body : List ℕ
  body = body_of l k p

  pub length-parts : length (encode_with l k p) ≡ 58 + length body
  unfolding encode_with
  length-parts = length-append (encode_header (header_for l k p)) body ∙ ap (λ (n : ℕ). n + length body) (length-header (header_for l k p))

  pub parts-front : (rest : List ℕ) → encode_with l k p ++ rest ≡ encode_header (header_for l k p) ++ (body ++ rest)
  unfolding encode_with
  parts-front rest = append_assoc (encode_header (header_for l k p)) body rest

  -- the reader's number for them: that of the limit, then those of the body
  pub parts-number : (rest : List ℕ) → HeaderFits (header_for l k p)
      → stream_fault l (encode_with l k p ++ rest) ≡ or_else (limit_fault (length body)) (body_fault l p.version (crc_of body) p.type_text body)
  parts-number rest f = ap (stream_fault l) (parts-front rest) ∙ whole-number (header_for l k p) body rest f refl l

  -- what stands in them: the message itself
  pub parts-read : (rest : List ℕ) → HeaderFits (header_for l k p) → WellSections l p.version k p.sections → parts_at l (encode_with l k p ++ rest) ≡ p
  parts-read rest f w =
      let s : List ℕ = encode_with l k p ++ rest in
      let h : header_of s ≡ header_for l k p = ap header_of (parts-front rest) ∙ whole-header (header_for l k p) body rest f refl in
      let b : body_at s ≡ body = ap body_at (parts-front rest) ∙ whole-body (header_for l k p) body rest f refl in
      let x : sections_of l (header_of s).version (body_at s) ≡ p.sections =
      ap₂ (sections_of l) (ap (λ (g : Header). g.version) h) b ∙ body-read l p.version k p.sections w in
      λ i.
      record {
        version = (h i).version;
        type_text = (h i).type_text;
        type_rest = (h i).type_rest;
        device_name = (h i).device_name;
        name_rest = (h i).name_rest;
        time_stamp = (h i).time_stamp;
        sections = x i;
      }

  -- where the sections can be written and k is the metadata's, those are the metadata's and the content's
  pub checks-sections : WellSections l p.version k p.sections → k ≡ index_of p
      → body_fault l p.version (crc_of body) p.type_text body ≡ sections_fault p.type_text p.sections
  unfolding found_fault
  checks-sections w e =
      let v : ℕ = p.version in
      let x : Sections = p.sections in
      sym (checks-rest l v (crc_of body) p.type_text body (version-pass v (well-version l v k x w)) refl (body-well l v k x w))
      ∙ ap (found_fault l v p.type_text body) (body-read l v k x w)
      ∙ else-second (sizes_fault l v body x.metadata) _ (body-agreed l v k x w x.metadata (agrees-same l v k x.metadata e))

-- ---- with its content cleaned

pub length-cleaned-body : (l : Layout) (p : Parts) → length (body_given l (clean_parts p)) ≡ length (body_given l p)
length-cleaned-body l p =
    let x : Sections = p.sections in
    length-given l (clean_parts p)
    ∙ ap (λ (n : ℕ). body_length p.version (length x.further) n (length x.metadata)) (length-clean deepest p.type_text x.content)
    ∙ sym (length-given l p)

pub length-cleaned : (l : Layout) (p : Parts) → length (encode_parts l (clean_parts p)) ≡ length (encode_parts l p)
length-cleaned l p =
    length-parts l (index_of p) (clean_parts p) ∙ ap (λ (n : ℕ). 58 + n) (length-cleaned-body l p) ∙ sym (length-parts l (index_of p) p)

pub writable-cleaned : (l : Layout) (p : Parts) → Writable l p → Writable l (clean_parts p)
writable-cleaned l p w =
    record {
      names = w.names;
      short = subst (λ (n : ℕ). n ≤ body_limit) (sym (length-cleaned-body l p)) w.short;
      version = w.version;
      fit = w.fit;
      metadata = w.metadata;
    }

-- ---- the buffer, once the body is stored from 58 on and then the header

-- a part that is lent and comes back filled
pub filled : (out b : List ℕ) (at n : ℕ) → length b ≡ n → at + n ≤ length out → sets (part n at out) 0 b ≡ b
filled out b at n e h =
    let l : length (part n at out) ≡ n = length_part n at out h in
    sets-front (part n at out) b (omega arith)
    ∙ ap (λ (r : List ℕ). b ++ r) (drop_of_length-le (part n at out) {i = length b} (omega arith))
    ∙ append-nil b

-- what stands from there on
rest-filled : (out b : List ℕ) (at n : ℕ) → at ≤ length out → drop at (put_mid at n out b) ≡ b ++ drop (at + n) out
rest-filled out b at n h =
    drop_at (take at out) (b ++ drop n (drop at out)) at (length-take-le at out h) ∙ ap (λ (r : List ℕ). b ++ r) (drop-drop n at out)

-- k is the length of the part that was lent, y what came back in it, and crc what was computed of that
module _ (l : Layout) (p : Parts) (out : List ℕ) (n k crc : ℕ) (y : List ℕ) (w : Writable l p) (e : n ≡ length (body_given l p)) (fits : 58 + n ≤ length out) (same : k ≡ n)
    (stored : y ≡ sets (part k 58 out) 0 (body_given l p)) (checked : crc ≡ crc_of (part k 58 (put_mid 58 k out y))) where
  abbrev after : List ℕ
  after = put_mid 58 k out y

  body-stored : y ≡ body_given l p
  body-stored = stored ∙ ap (λ (j : ℕ). sets (part j 58 out) 0 (body_given l p)) same ∙ filled out (body_given l p) 58 n (sym e) fits

  after-rest : drop 58 after ≡ body_given l p ++ drop (58 + n) out
  after-rest = rest-filled out y 58 k (omega arith) ∙ ap₂ (λ (b : List ℕ) (j : ℕ). b ++ drop (58 + j) out) body-stored same

  crc-stored : crc ≡ crc_of (body_given l p)
  crc-stored = checked ∙ ap crc_of (ap (take k) after-rest ∙ take_at (body_given l p) (drop (58 + n) out) k (sym e ∙ sym same))

  after-length : 58 ≤ length after
  after-length = omega (arith, length-append (take 58 out) (y ++ drop k (drop 58 out)), length-take-le 58 out (omega arith))

  pub message-stored : header_out
      (record { version = p.version; type_text = p.type_text; type_rest = p.type_rest; device_name = p.device_name; name_rest = p.name_rest; time_stamp = p.time_stamp; body_size = n; crc = crc })
      after
      ≡ encode_parts l p ++ drop (58 + n) out
  unfolding encode_with
  message-stored =
      ap (λ (h : Header). header_out h after)
      (λ i. record { version = p.version; type_text = p.type_text; type_rest = p.type_rest; device_name = p.device_name; name_rest = p.name_rest; time_stamp = p.time_stamp; body_size = e i; crc = crc-stored i })
      ∙ out-header (header_for l (index_of p) p) after (given-passes (header_for l (index_of p) p) w.names (limit-pass (length (body_given l p)) w.short)) after-length
      ∙ ap (λ (r : List ℕ). encode_header (header_for l (index_of p) p) ++ r) after-rest
      ∙ sym (append_assoc (encode_header (header_for l (index_of p) p)) (body_given l p) (drop (58 + n) out))

-- ---- the answer and the buffer

module _ (l : Layout) (p : Parts) (out : List ℕ) where
  abbrev Promise : Written → List ℕ → Type 0
  Promise answer left = WriterPromise (given_fault l p) (message_bytes l p) out answer left

  pub answers-checks : (r : Result ℕ Fault) → IsErr r → number_of r ≡ given_fault l p → Promise (written_of r) out
  answers-checks r h e =
      refuses (given_fault l p) (message_bytes l p) out r h (e ∙ sym (else-first (given_fault l p) _ (λ z. err_number r h (e ∙ z))))

  -- n is the length of the body, and k what the room's check gave
  module _ (n k : ℕ) (e : n ≡ length (body_given l p)) (z : given_fault l p ≡ 0) (r : k ≡ room_fault (58 + n) (length out)) where
    whole_length : 58 + n ≡ length (encode_parts l (clean_parts p))
    whole_length = ap (λ (j : ℕ). 58 + j) e ∙ sym (length-parts l (index_of p) p) ∙ sym (length-cleaned l p)

    checked : k ≡ writer_fault (given_fault l p) (message_bytes l p) (length out)
    checked = r ∙ ap (λ (j : ℕ). room_fault j (length out)) whole_length ∙ sym (else-second (given_fault l p) _ z)

    pub answers-room : (q : Result ℕ Fault) → IsErr q → number_of q ≡ k → Promise (written_of q) out
    answers-room q h f = refuses (given_fault l p) (message_bytes l p) out q h (f ∙ checked)

    pub answers-written : k ≡ 0 → (left : List ℕ) → left ≡ encode_parts l (clean_parts p) ++ drop (58 + n) out → Promise (Wrote (58 + n)) left
    answers-written h left f = writes (given_fault l p) (message_bytes l p) out left (58 + n) (sym checked ∙ h) whole_length f

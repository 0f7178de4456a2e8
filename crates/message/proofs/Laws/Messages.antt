-- Messages: the front of a stream is accepted exactly when some message is written as it.
use Prim.Native.Nat.{ℕ, ◌+◌, ◌^◌, ◌<◌, ◌≤◌}
use mathlib.Core.Path.{◌≡◌, refl, sym, ap, ap₂, ◌∙◌, subst, subst⁻¹}
use mathlib.Core.Logic.{inl, inr, ⊎_elim}
use mathlib.Core.Bool.{true, false, ◌&&◌}
use mathlib.Core.List.{List, ◌++◌}
use native.Mathlib.Omega.{arith}
use lib.ListN.{length, take, drop, take-append-drop}
use lib.Seq.{take_at}
use Rattle.fields.specs.Answer.{Wrote}
use Rattle.fields.specs.Bytes.{Bytes}
use Rattle.fields.specs.Numbers.{be_at}
use Rattle.fields.specs.Text.{all_zero}
use Rattle.fields.specs.Received.{zeroed, Fills}
use Rattle.fields.proofs.Laws.Bytes.{bytes-part, length_part}
use Rattle.fields.proofs.Laws.Checks.{else-zero, and_split, and-join}
use Rattle.fields.proofs.Laws.Received.{zeros-to, zeros-from, zeroed-fills, zeroed-zeroed, fills-zeros}
use Rattle.fields.proofs.Laws.Writers.{writer-theorems}
use Rattle.crc64.specs.Crc.{crc_of}
use Rattle.crc64.proofs.Laws.{crc-lt}
use Rattle.header.specs.Header.{Header, WellTexts, HeaderFits, WellHeader, body_limit}
use Rattle.header.specs.HeaderReader.{header_of, limit_fault}
use Rattle.header.specs.HeaderWriter.{names_fault}
use Rattle.metadata.specs.Metadata.{encode_metadata, index_size}
use Rattle.metadata.specs.MetadataCheck.{index_size_in, metadata_fault}
use Rattle.metadata.specs.MetadataTheorems.{IsMetadata}
use Rattle.content.specs.Tree.{type_text}
use Rattle.content.specs.Tree as tree
use Rattle.content.specs.ContentCheck.{content_clean, deepest}
use Rattle.content.proofs.Laws.Contents.{IsContent}
use Rattle.content.proofs.ContentTheorems.{content-theorems}
use Rattle.content.proofs.Laws.Cleaned.{cleaned-type, length-cleaned}
use Rattle.content.proofs.Laws.Marks.{content-mark, mark-to, mark-from}
use Rattle.cleaning.proofs.Laws.CleaningTheorems.{cleaning-theorems}
use Rattle.message.specs.declared.Layout.{Layout}
use Rattle.message.specs.declared.Answer.{Answer}
use Rattle.message.specs.declared.body.Places.{Places}
use Rattle.message.specs.Body.{Sections, WellSections}
use Rattle.message.specs.Message.{Message, Parts, parts_of, body_of, header_for, encode_with, message_body, encode, WellFormed, RestsFill, cleaned, Clean, handed_out}
use Rattle.message.specs.MessageReader.{index_at, version_fault, sections_fault, sections_of, body_at, stream_fault, read_of, handed, places_of}
use Rattle.message.specs.MessageWriter.{body_length, body_given, encode_parts, clean_parts, fit_fault, given_sections_fault, given_fault, message_bytes, message_written, message_out}
use Rattle.message.specs.Demand2.{Begins, given_back, Demand2}
use Rattle.header.proofs.Laws.Layout.{header-fits, fits-texts}
use Rattle.header.proofs.Laws.Faults.{names-pass, limit-pass}
use Rattle.metadata.proofs.Laws.MetadataTheorems.{metadata-theorems}
use Rattle.message.proofs.Laws.Body.{body-accepted, well-same}
use Rattle.message.proofs.Laws.Stream.{Accepted, number-accepted, read-accepted, read-refused, read_number, number_read, version-pass, parts_at, zero_texts, handed-parts, clean_for, read-mark, index_of, sizes-agree, body-read-back, parts-back, whole-header}
use Rattle.message.proofs.Laws.Writer.{length-body, well-fit, well-version, length-parts, parts-front, parts-number, checks-sections, parts-read, length-cleaned as length-written}

-- ---- a well formed message

version_fits : (l : Layout) (v k : ℕ) (x : Sections) → WellSections l v k x → v < 256 ^ 2
version_fits l v k x w = ⊎_elim (λ e. omega (arith, e.0)) (λ e. omega (arith, e.0)) w

header_of_lem : (l : Layout) (m : Message) → WellFormed l m → HeaderFits (header_for l (index_size m.metadata) (parts_of m))
header_of_lem l m w =
    record {
      version_fits = version_fits l m.version (index_size m.metadata) (parts_of m).sections w.sections;
      type_fills = w.type_fills;
      name_fills = w.name_fills;
      stamp_fits = w.stamp_fits;
      size_fits = omega (arith, w.size-limit);
      crc_fits = crc-lt (message_body l m);
    }

-- its two texts, as a writer takes them
pub well-texts : (l : Layout) (m : Message) → WellFormed l m → WellTexts (type_text m.content) m.device_name
well-texts l m w = fits-texts (header_for l (index_size m.metadata) (parts_of m)) (header_of_lem l m w)

sections-passed : (l : Layout) (m : Message) → WellFormed l m → sections_fault (type_text m.content) (parts_of m).sections ≡ 0
unfolding sections_fault
sections-passed l m w =
    else-zero (metadata_fault (encode_metadata m.metadata)) _ (metadata-theorems.two_way.well_accepted m.metadata w.metadata)
    ((content-theorems.two_way deepest (type_text m.content)).well_accepted m.content (w.content, refl))

-- the index's size is the one that its bytes have, so that its bytes are those of its parts
index-of : (l : Layout) (m : Message) → WellFormed l m → index_of (parts_of m) ≡ index_size m.metadata
index-of l m w = metadata-theorems.index_in m.metadata w.metadata

same_bytes : (l : Layout) (m : Message) → WellFormed l m → encode_parts l (parts_of m) ≡ encode l m
same_bytes l m w = ap (λ (k : ℕ). encode_with l k (parts_of m)) (index-of l m w)

-- ---- a stream that begins with it

begun-number : (l : Layout) (s : List ℕ) (m : Message) → Begins l s m → stream_fault l s ≡ 0
begun-number l s m b =
    ap (stream_fault l) (sym b.bytes)
    ∙ parts-number l (index_size m.metadata) (parts_of m) b.rest (header_of_lem l m b.well)
    ∙ else-zero (limit_fault (length (message_body l m))) _ (limit-pass (length (message_body l m)) b.well.size-limit)
    (checks-sections l (index_size m.metadata) (parts_of m) b.well.sections (sym (index-of l m b.well)) ∙ sections-passed l m b.well)

begun-parts : (l : Layout) (s : List ℕ) (m : Message) → Begins l s m → parts_at l s ≡ parts_of m
begun-parts l s m b = ap (parts_at l) (sym b.bytes) ∙ parts-read l (index_size m.metadata) (parts_of m) b.rest (header_of_lem l m b.well) b.well.sections

begun-handed : (l : Layout) (s : List ℕ) (m : Message) → Begins l s m → handed s (read_of l s) ≡ handed_out m
begun-handed l s m b =
    let t = fills-zeros 12 (type_text m.content) m.type_rest b.well.type_fills in
    let n = fills-zeros 20 m.device_name m.name_rest b.well.name_fills in
    handed-parts l s (begun-number l s m b)
    ∙ ap zero_texts (begun-parts l s m b)
    ∙ (λ i.
    record {
      version = m.version;
      type_text = type_text m.content;
      type_rest = t i;
      device_name = m.device_name;
      name_rest = n i;
      time_stamp = m.time_stamp;
      sections = (parts_of m).sections;
    })

begun-header : (l : Layout) (s : List ℕ) (m : Message) → Begins l s m → header_of s ≡ header_for l (index_size m.metadata) (parts_of m)
begun-header l s m b =
    let p : Parts = parts_of m in
    let k : ℕ = index_size m.metadata in
    let e : s ≡ _ = sym b.bytes ∙ parts-front l k p b.rest in
    ap header_of e ∙ whole-header (header_for l k p) (body_of l k p) b.rest (header_of_lem l m b.well) refl

begun-step : (l : Layout) (s : List ℕ) (m : Message) → Begins l s m → (read_of l s).step ≡ length (encode l m)
begun-step l s m b =
    ap (λ (a : Answer). a.step) (read-accepted l s (begun-number l s m b))
    ∙ ap (λ (g : Header). 58 + g.body_size) (begun-header l s m b)
    ∙ sym (length-parts l (index_size m.metadata) (parts_of m))

begun-crc : (l : Layout) (s : List ℕ) (m : Message) → Begins l s m → be_at 8 50 s ≡ crc_of (message_body l m)
unfolding header_of
begun-crc l s m b = ap (λ (g : Header). g.crc) (begun-header l s m b)

-- ---- an accepted stream begins with a message

accepted-message : (l : Layout) (s : List ℕ) → Bytes s → Accepted l s → (m : Message) × Begins l s m
accepted-message l s b a =
    let h : Header = header_of s in
    let v : ℕ = h.version in
    let bb : Bytes (body_at s) = bytes-part h.body_size 58 s b in
    let x : Sections = sections_of l v (body_at s) in
    let q : Places = places_of l v (body_at s) in
    let bc : Bytes x.content = bytes-part q.content_len q.content_at (body_at s) bb in
    let bm : Bytes x.metadata = bytes-part q.metadata_len q.metadata_at (body_at s) bb in
    let c : IsContent deepest h.type_text x.content = (content-theorems.two_way deepest h.type_text).accepted x.content bc a.content in
    let d : IsMetadata x.metadata = metadata-theorems.two_way.accepted x.metadata bm a.metadata in
    let w : WellHeader h = header-fits s b a.header in
    let m : Message =
    record {
      version = v;
      type_rest = h.type_rest;
      device_name = h.device_name;
      name_rest = h.name_rest;
      time_stamp = h.time_stamp;
      id = x.id;
      further = x.further;
      content = c.0;
      metadata = d.0;
    } in
    let y : (parts_of m).sections ≡ x = λ i. record { id = x.id; further = x.further; content = c.2 i; metadata = d.2 i } in
    let p : parts_of m ≡ parts_at l s = λ i.
    record {
      version = v;
      type_text = c.1.1 i;
      type_rest = h.type_rest;
      device_name = h.device_name;
      name_rest = h.name_rest;
      time_stamp = h.time_stamp;
      sections = y i;
    } in
    let k : index_size d.0 ≡ index_of (parts_at l s) = sym (metadata-theorems.index_in d.0 d.1) ∙ ap index_size_in d.2 in
    let g : WellSections l v (index_size_in x.metadata) x =
    well-same l v (index_at (body_at s)) x x.metadata (sizes-agree l s a) (body-accepted l v (body_at s) bb a.version a.body) in
    let n : length (message_body l m) ≡ h.body_size =
    ap₂ (λ (i : ℕ) (q : Parts). length (body_of l i q)) k p
    ∙ ap length (body-read-back l s b a)
    ∙ length_part h.body_size 58 s a.whole in (
      m,
      record {
        well =
            record {
              type_fills = subst (λ (t : List ℕ). Fills 12 t h.type_rest) (sym c.1.1) w.fits.type_fills;
              name_fills = w.fits.name_fills;
              stamp_fits = w.fits.stamp_fits;
              sections = subst (λ (i : ℕ). WellSections l v i (parts_of m).sections) (sym k) (subst (WellSections l v (index_size_in x.metadata)) (sym y) g);
              content = c.1.0;
              metadata = d.1;
              size-limit = subst (λ (k : ℕ). k ≤ body_limit) (sym n) w.size-limit;
            };
        rest = drop (58 + h.body_size) s;
        bytes =
            ap (λ (r : List ℕ). r ++ drop (58 + h.body_size) s) (ap₂ (encode_with l) k p ∙ parts-back l s b a)
            ∙ take-append-drop (58 + h.body_size) s;
      },
    )

-- ---- only one message does

parts-unique : (l : Layout) (m n : Message) → WellFormed l m → WellFormed l n → parts_of m ≡ parts_of n → m ≡ n
parts-unique l m n wm wn e =
    let c : m.content ≡ n.content =
    content-theorems.unique deepest deepest m.content n.content wm.content wn.content (ap (λ (p : Parts). p.type_text) e) (ap (λ (p : Parts). p.sections.content) e) in
    let d : m.metadata ≡ n.metadata =
    metadata-theorems.two_way.only_one m.metadata n.metadata wm.metadata wn.metadata (ap (λ (p : Parts). p.sections.metadata) e) in
    λ i.
    record {
      version = (e i).version;
      type_rest = (e i).type_rest;
      device_name = (e i).device_name;
      name_rest = (e i).name_rest;
      time_stamp = (e i).time_stamp;
      id = (e i).sections.id;
      further = (e i).sections.further;
      content = c i;
      metadata = d i;
    }

pub only_one : (l : Layout) (s : List ℕ) (m n : Message) → Begins l s m → Begins l s n → m ≡ n
only_one l s m n bm bn = parts-unique l m n bm.well bn.well (sym (begun-parts l s m bm) ∙ begun-parts l s n bn)

-- ---- rests

begun-mark : (l : Layout) (s : List ℕ) (m : Message) → Begins l s m → (read_of l s).clean ≡ clean_for (parts_of m)
begun-mark l s m b = read-mark l s (begun-number l s m b) ∙ ap clean_for (begun-parts l s m b)

mark-clean : (l : Layout) (m : Message) → WellFormed l m → clean_for (parts_of m) ≡ true → Clean m
mark-clean l m w e =
    let k = and_split (all_zero m.type_rest && all_zero m.name_rest) (content_clean deepest (type_text m.content) (tree.encode m.content)) e in
    let t = and_split (all_zero m.type_rest) (all_zero m.name_rest) k.0 in
    record {
      type_clean = zeros-to m.type_rest t.0;
      name_clean = zeros-to m.name_rest t.1;
      content-clean = mark-to deepest m.content w.content (content-mark deepest m.content w.content ∙ k.1);
    }

clean-mark : (l : Layout) (m : Message) → WellFormed l m → Clean m → clean_for (parts_of m) ≡ true
clean-mark l m w c =
    and-join (all_zero m.type_rest && all_zero m.name_rest) (content_clean deepest (type_text m.content) (tree.encode m.content))
    (and-join (all_zero m.type_rest) (all_zero m.name_rest) (zeros-from m.type_rest c.type_clean) (zeros-from m.name_rest c.name_clean))
    (sym (content-mark deepest m.content w.content) ∙ mark-from deepest m.content w.content c.content-clean)

-- the size fields do not speak of the content
other-content : (l : Layout) (v k : ℕ) (x : Sections) (c : List ℕ) → WellSections l v k x
    → WellSections l v k (record { id = x.id; further = x.further; content = c; metadata = x.metadata })
other-content l v k x c w =
    ⊎_elim (λ e. inl (e.0, record { no_id = e.1.no_id; no_further = e.1.no_further; no_metadata = e.1.no_metadata }))
    (λ e.
    inr
    (e.0, record { id_fits = e.1.id_fits; further_bytes = e.1.further_bytes; further_fits = e.1.further_fits; metadata_fits = e.1.metadata_fits }))
    w

cleaned-length : (l : Layout) (m : Message) → length (message_body l (cleaned m)) ≡ length (message_body l m)
cleaned-length l m =
    let k : ℕ = index_size m.metadata in
    length-body l m.version k (parts_of (cleaned m)).sections
    ∙ ap (λ (n : ℕ). body_length m.version (length m.further) n (length (encode_metadata m.metadata))) (length-cleaned m.content)
    ∙ sym (length-body l m.version k (parts_of m).sections)

cleaned_well : (l : Layout) (m : Message) → WellFormed l m → WellFormed l (cleaned m)
cleaned_well l m w =
    record {
      type_fills =
          subst (λ (t : List ℕ). Fills 12 t (zeroed m.type_rest)) (sym (cleaned-type m.content)) (zeroed-fills 12 (type_text m.content) m.type_rest w.type_fills);
      name_fills = zeroed-fills 20 m.device_name m.name_rest w.name_fills;
      stamp_fits = w.stamp_fits;
      sections = other-content l m.version (index_size m.metadata) (parts_of m).sections (parts_of (cleaned m)).sections.content w.sections;
      content = content-theorems.cleaned_well deepest m.content w.content;
      metadata = w.metadata;
      size-limit = subst (λ (n : ℕ). n ≤ body_limit) (sym (cleaned-length l m)) w.size-limit;
    }

any_rests : (l : Layout) (m : Message) → RestsFill m → WellFormed l (cleaned m) → WellFormed l m
any_rests l m f w =
    record {
      type_fills = f.type_fills;
      name_fills = f.name_fills;
      stamp_fits = w.stamp_fits;
      sections = other-content l m.version (index_size m.metadata) (parts_of (cleaned m)).sections (parts_of m).sections.content w.sections;
      content = content-theorems.any_rests deepest m.content f.content_fills w.content;
      metadata = w.metadata;
      size-limit = subst (λ (n : ℕ). n ≤ body_limit) (cleaned-length l m) w.size-limit;
    }

cleaned_clean : (m : Message) → Clean (cleaned m)
cleaned_clean m =
    record {
      type_clean = zeroed-zeroed m.type_rest;
      name_clean = zeroed-zeroed m.name_rest;
      content-clean = content-theorems.cleaned_clean m.content;
    }

clean-kept : (m : Message) → Clean m → cleaned m ≡ m
clean-kept m c =
    let x = content-theorems.clean_same m.content c.content-clean in
    λ i.
    record {
      version = m.version;
      type_rest = sym c.type_clean i;
      device_name = m.device_name;
      name_rest = sym c.name_clean i;
      time_stamp = m.time_stamp;
      id = m.id;
      further = m.further;
      content = x i;
      metadata = m.metadata;
    }

no_mark : (l : Layout) (s : List ℕ) → ((read_of l s).number ≡ 0 → ⊥) → (read_of l s).clean ≡ false
no_mark l s h = ap (λ (a : Answer). a.clean) (read-refused l s (λ z. h (read_number l s ∙ z)))

-- ---- the writer writes it, cleaned

-- its length does not depend on the rests
handed-length : (l : Layout) (m : Message) → WellFormed l m → length (encode_parts l (handed_out m)) ≡ length (encode l m)
handed-length l m w =
    length-parts l (index_of (handed_out m)) (handed_out m) ∙ sym (length-parts l (index_of (parts_of m)) (parts_of m)) ∙ ap length (same_bytes l m w)

pub well-written : (l : Layout) (m : Message) → WellFormed l m → given_fault l (handed_out m) ≡ 0
unfolding given_fault given_sections_fault
well-written l m w =
    let p : Parts = handed_out m in
    let n : length (body_given l p) ≤ body_limit = subst (λ (k : ℕ). length (body_of l k p) ≤ body_limit) (sym (index-of l m w)) w.size-limit in
    let g : WellSections l m.version (index_of p) p.sections =
    subst (λ (k : ℕ). WellSections l m.version k p.sections) (sym (index-of l m w)) w.sections in
    else-zero (names_fault (type_text m.content) m.device_name) _ (names-pass (type_text m.content) m.device_name (well-texts l m w))
    (else-zero (limit_fault (length (body_given l p))) _ (limit-pass (length (body_given l p)) n)
    (else-zero (version_fault m.version) _ (version-pass m.version (well-version l m.version (index_of p) p.sections g))
    (else-zero (fit_fault l m.version p.sections) _ (well-fit l m.version p.sections g) (sections-passed l m w))))

begun-take : (l : Layout) (s : List ℕ) (m : Message) → Begins l s m → take (length (encode l m)) s ≡ encode l m
begun-take l s m b = ap (take (length (encode l m))) (sym b.bytes) ∙ take_at (encode l m) b.rest (length (encode l m)) refl

-- what is handed out, cleaned, is the cleaned message
cleaned-parts : (l : Layout) (m : Message) → WellFormed l m → clean_parts (handed_out m) ≡ parts_of (cleaned m)
cleaned-parts l m w =
    let t = cleaned-type m.content in
    let x = cleaning-theorems.cleaned_bytes deepest m.content w.content in
    λ i.
    record {
      version = m.version;
      type_text = sym t i;
      type_rest = zeroed m.type_rest;
      device_name = m.device_name;
      name_rest = zeroed m.name_rest;
      time_stamp = m.time_stamp;
      sections = record { id = m.id; further = m.further; content = x i; metadata = encode_metadata m.metadata };
    }

cleaned-whole : (l : Layout) (m : Message) → length (encode l (cleaned m)) ≡ length (encode l m)
cleaned-whole l m =
    let k : ℕ = index_size m.metadata in
    length-parts l k (parts_of (cleaned m)) ∙ ap (λ (n : ℕ). 58 + n) (cleaned-length l m) ∙ sym (length-parts l k (parts_of m))

-- k: there is room
module _ (l : Layout) (s : List ℕ) (m : Message) (b : Begins l s m) where
  long : length (message_bytes l (handed_out m)) ≡ (read_of l s).step
  long = length-written l (handed_out m) ∙ handed-length l m b.well ∙ sym (begun-step l s m b)

  begun-answered : (room : ℕ) → (read_of l s).step ≤ room → message_written l (given_back s (read_of l s)) room ≡ Wrote (read_of l s).step
  begun-answered room k =
      ap (λ (p : Parts). message_written l p room) (begun-handed l s m b)
      ∙ (writer-theorems (given_fault l (handed_out m)) (message_bytes l (handed_out m))).wrote room (well-written l m b.well) (subst⁻¹ (λ (n : ℕ). n ≤ room) long k)
      ∙ ap Wrote long

  begun-written : (out : List ℕ) → (read_of l s).step ≤ length out
      → message_out l (given_back s (read_of l s)) out ≡ encode l (cleaned m) ++ drop (read_of l s).step out
  begun-written out k =
      ap (λ (p : Parts). message_out l p out) (begun-handed l s m b)
      ∙ (writer-theorems (given_fault l (handed_out m)) (message_bytes l (handed_out m))).buffer out (well-written l m b.well) (subst⁻¹ (λ (n : ℕ). n ≤ length out) long k)
      ∙ ap₂ (λ (r : List ℕ) (n : ℕ). r ++ drop n out) (ap (encode_parts l) (cleaned-parts l m b.well) ∙ same_bytes l (cleaned m) (cleaned_well l m b.well)) long

-- byte for byte if it is clean, and only then
same-clean : (l : Layout) (s : List ℕ) (m : Message) → Begins l s m → encode l (cleaned m) ≡ take (read_of l s).step s → Clean m
same-clean l s m b e =
    let k : encode l (cleaned m) ≡ encode l m = e ∙ ap (λ (n : ℕ). take n s) (begun-step l s m b) ∙ begun-take l s m b in
    let c : Begins l s (cleaned m) =
    record { well = cleaned_well l m b.well; rest = b.rest; bytes = ap (λ (r : List ℕ). r ++ b.rest) k ∙ b.bytes } in
    subst Clean (only_one l s (cleaned m) m c b) (cleaned_clean m)

clean-bytes : (l : Layout) (s : List ℕ) (m : Message) → Begins l s m → Clean m → encode l (cleaned m) ≡ take (read_of l s).step s
clean-bytes l s m b c = ap (encode l) (clean-kept m c) ∙ sym (begun-take l s m b) ∙ ap (λ (n : ℕ). take n s) (sym (begun-step l s m b))

-- ---- rules 1.4 to 1.6

pub demand-2 : (l : Layout) → Demand2 l
demand-2 l =
    record {
      accepted = λ s b h. accepted-message l s b (number-accepted l s (number_read l s h));
      begun = λ s m b. read_number l s ∙ begun-number l s m b;
      only_one = only_one l;
      crc = begun-crc l;
      meant = λ m w. (cleaned_well l m w, cleaned_clean m);
      kept = clean-kept;
      fills = λ m w.
          record { type_fills = w.type_fills; name_fills = w.name_fills; content_fills = content-theorems.fills deepest m.content w.content };
      any_rests = any_rests l;
      handed_out = begun-handed l;
      step = begun-step l;
      size = λ m. length-parts l (index_size m.metadata) (parts_of m);
      same_length = cleaned-whole l;
      mark = λ s m b.
          ((λ e. mark-clean l m b.well (sym (begun-mark l s m b) ∙ e)), (λ c. begun-mark l s m b ∙ clean-mark l m b.well c));
      no_mark = no_mark l;
      answered_back = λ s room b h k.
          let a = accepted-message l s b (number-accepted l s (number_read l s h)) in
          begun-answered l s a.0 a.1 room k;
      written_back = λ s out m b k. begun-written l s m b out k;
      same_bytes = λ s m b. (
        (λ e. begun-mark l s m b ∙ clean-mark l m b.well (same-clean l s m b e)),
        (λ e. clean-bytes l s m b (mark-clean l m b.well (sym (begun-mark l s m b) ∙ e))),
      );
    }

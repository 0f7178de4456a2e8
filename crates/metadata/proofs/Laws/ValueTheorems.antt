-- Look-ups in an accepted section give its entries: those of the metadata that is written as it.
use Prim.Native.Nat.{ℕ, suc, ◌+◌, ◌-◌, ◌*◌, ◌^◌, ◌<◌}
use mathlib.Core.Path.{◌≡◌, refl, sym, ap, ap₂, subst, ◌∙◌}
use mathlib.Core.Logic.{◌⊎◌, inl, inr, ⊎_elim}
use mathlib.Core.List.{List, [], ◌∷◌, ◌++◌, append-nil}
use native.Mathlib.Omega.{arith}
use lib.ListN.{length, take, drop, length-append}
use lib.Seq.{take_at, drop_at, drop-drop}
use borrow.Author.Tests.{eq-eqb, ne_eqb}
use Rattle.fields.specs.Bytes.{part, same}
use Rattle.fields.specs.Lists.{Each, flat}
use Rattle.fields.specs.Numbers.{be_val}
use Rattle.fields.proofs.Laws.Bytes.{same_refl, not_same}
use Rattle.fields.proofs.Laws.Lists.{flat-cons, flat_append, each-middle, first_or_none}
use Rattle.fields.proofs.Laws.Tests.{by_zero}
use Rattle.metadata.specs.Metadata.{Entry, Metadata, absent, section, entry_header, entry_data, encode_metadata, WellEntry, WellMetadata}
use Rattle.metadata.specs.MetadataCheck.{index_count, headers_of, data_of, metadata_fault}
use Rattle.metadata.specs.ValueLookup.{ValuePlace, refused, place_in, searched, value_place, value_of}
use Rattle.metadata.specs.ValueTheorems.{entries_of, HasEntries, NoneKeyed, FirstKeyed, place_among, ValueTheorems}
use Rattle.metadata.proofs.Laws.Entries.{length-entry_data, header-rest, header-key, header-encoding, header-value, data-past-key, key-written, rest_written}
use Rattle.metadata.proofs.Laws.Sections.{length-written, count-written, headers-written, data-written}
use Rattle.metadata.proofs.Laws.MetadataTheorems.{metadata-theorems}
use Rattle.metadata.proofs.Laws.Search.{search-end, search-found, search-next, search-refused}

-- ---- the answers, by cases

module _ (s x : List ℕ) where
  place-accepted : metadata_fault s ≡ 0 → value_place s x ≡ searched s x
  unfolding value_place
  place-accepted h = simp (eq-eqb (metadata_fault s) 0 h)

  place-refused : (metadata_fault s ≡ 0 → ⊥) → value_place s x ≡ refused (metadata_fault s)
  unfolding value_place
  place-refused h = simp (ne_eqb (metadata_fault s) 0 h)

  -- the part that comes with a refusal has no bytes
  empty-value : ((value_place s x).number ≡ 0 → ⊥) → value_of s x ≡ []
  empty-value z =
      by_zero (metadata_fault s)
      (λ e.
      let f = place-accepted e in
      none 19 (f ∙ search-refused (length s) (index_count s) (headers_of s) (data_of s) x (λ q. z (ap (λ (p : ValuePlace). p.number) f ∙ q))))
      (λ e. none (metadata_fault s) (place-refused e))
    where
      none : (n : ℕ) → value_place s x ≡ refused n → value_of s x ≡ []
      none n e = ap (λ (p : ValuePlace). part p.len p.at s) e

-- ---- the search over what entries are written as, and further bytes r

module _ (n : ℕ) (x : List ℕ) (r : List ℕ) where
  -- the search among entries
  abbrev among : List Entry → ValuePlace
  among es = place_in n (length es) (flat entry_header es ++ r) (flat entry_data es) x

  module _ (e : Entry) (es : List Entry) (w : WellEntry e) where
    abbrev headers : List ℕ
    headers = flat entry_header es ++ r

    among-front : among (e ∷ es) ≡ place_in n (suc (length es)) (entry_header e ++ headers) (entry_data e ++ flat entry_data es) x
    unfolding flat
    among-front = ap (λ (h : List ℕ). place_in n (suc (length es)) h (entry_data e ++ flat entry_data es) x) (flat-cons entry_header e es r)

    among-found : e.key ≡ x
        → among (e ∷ es) ≡ record { number = 0; encoding = e.encoding; at = n - length (e.value ++ flat entry_data es); len = length e.value }
    among-found k =
        let d = entry_data e ++ flat entry_data es in
        let t = ap₂ same (key-written e w headers (flat entry_data es)) (sym k) ∙ same_refl e.key in
        let p = ap (λ (m : ℕ). drop m d) (header-key e headers w) ∙ data-past-key e (flat entry_data es) in
        among-front
        ∙ search-found n (entry_header e ++ headers) d x (length es) t
        ∙ (λ i. record { number = 0; encoding = header-encoding e headers w i; at = n - length (p i); len = header-value e headers w i })

    among_next : (e.key ≡ x → ⊥) → among (e ∷ es) ≡ among es
    among_next k =
        let d = entry_data e ++ flat entry_data es in
        let t = ap (λ (l : List ℕ). same l x) (key-written e w headers (flat entry_data es)) ∙ not_same e.key x k in
        among-front
        ∙ search-next n (entry_header e ++ headers) d x (length es) t
        ∙ ap₂ (λ (h l : List ℕ). place_in n (length es) h l x) (header-rest e headers) (rest_written e w headers (flat entry_data es))

  -- past entries without the key
  among-past : (others es : List Entry) → Each WellEntry (es ++ others) → NoneKeyed x es → among (es ++ others) ≡ among others
  among-past others [] w k = refl
  among-past others (e ∷ es) w k = among_next e (es ++ others) w.0 k.0 ∙ among-past others es w.1 k.1

  among_none : (es : List Entry) → Each WellEntry es → NoneKeyed x es → among es ≡ refused 19
  among_none es w k =
      let e = append-nil es in
      ap among (sym e)
      ∙ among-past [] es (subst (Each WellEntry) (sym e) w) k
      ∙ search-end n (flat entry_header [] ++ r) (flat entry_data []) x

-- ---- a written section

module _ (x : List ℕ) (es : List Entry) (fits : length es < 256 ^ 2) (w : Each WellEntry es) where
  abbrev written : List ℕ
  written = encode_metadata (section es)

  accepted : metadata_fault written ≡ 0
  unfolding WellMetadata
  accepted = metadata-theorems.two_way.well_accepted (section es) (fits, w)

  place-written : value_place written x ≡ among (length written) x (flat entry_data es) es
  place-written =
      place-accepted written x accepted
      ∙ ap₂ (λ (k : ℕ) (h : List ℕ). place_in (length written) k h (data_of written) x) (count-written es fits) (headers-written es)
      ∙ ap (λ (d : List ℕ). place_in (length written) (length es) (flat entry_header es ++ flat entry_data es) d x) (data-written es fits)

  module _ (e : Entry) (f : FirstKeyed x e es) where
    abbrev after : List Entry
    after = f.after

    each : Each WellEntry (f.before ++ (e ∷ after))
    each = subst (Each WellEntry) (sym f.list) w

    data-split : flat entry_data es ≡ flat entry_data f.before ++ (entry_data e ++ flat entry_data after)
    unfolding flat
    data-split = ap (flat entry_data) (sym f.list) ∙ flat_append entry_data f.before (e ∷ after)

    at-written : length written - length (e.value ++ flat entry_data after) ≡ 2 + 8 * length es + length (flat entry_data f.before) + length e.key
    at-written =
        let a = ap length data-split in
        omega (
          arith,
          a,
          length-written es,
          length-append (flat entry_data f.before) (entry_data e ++ flat entry_data after),
          length-append (entry_data e) (flat entry_data after),
          length-append e.value (flat entry_data after),
          length-entry_data e,
        )

    place_found : value_place written x ≡ place_among es f.before e
    place_found =
        let n = length written in
        let r = flat entry_data es in
        place-written
        ∙ ap (among n x r) (sym f.list)
        ∙ among-past n x r (e ∷ after) f.before each f.first
        ∙ among-found n x r e after (each-middle WellEntry f.before e after each) f.keyed
        ∙ (λ i. record { number = 0; encoding = e.encoding; at = at-written i; len = length e.value })

    value_found : value_of written x ≡ e.value
    value_found =
        let b = flat entry_data f.before in
        let d = entry_data e ++ flat entry_data after in
        let m = 2 + 8 * length es in
        let o : m + length b + length e.key ≡ m + (length b + length e.key) = omega arith in
        let p : data_of written ≡ drop m written = ap (λ (k : ℕ). drop (2 + 8 * k) written) (count-written es fits) in
        let q : drop (m + length b + length e.key) written ≡ e.value ++ flat entry_data after =
        ap (λ (k : ℕ). drop k written) o
        ∙ sym (drop-drop (length b + length e.key) m written)
        ∙ ap (drop (length b + length e.key)) (sym p ∙ data-written es fits ∙ data-split)
        ∙ sym (drop-drop (length e.key) (length b) (b ++ d))
        ∙ ap (drop (length e.key)) (drop_at b d (length b) refl)
        ∙ data-past-key e (flat entry_data after) in
        ap (λ (k : ValuePlace). part k.len k.at written) place_found
        ∙ ap (take (length e.value)) q
        ∙ take_at e.value (flat entry_data after) (length e.value) refl

-- ---- any metadata

no_entries : (x : List ℕ) → value_place [] x ≡ refused 19
unfolding encode_metadata WellMetadata be_val
no_entries x =
    place-accepted [] x (metadata-theorems.two_way.well_accepted absent tt) ∙ search-end 0 [] [] x

missing-of : (x : List ℕ) (m : Metadata) → WellMetadata m → NoneKeyed x (entries_of m) → value_place (encode_metadata m) x ≡ refused 19
unfolding encode_metadata WellMetadata
missing-of x absent w k = no_entries x
missing-of x (section es) w k = place-written x es w.0 w.1 ∙ among_none (length (encode_metadata (section es))) x (flat entry_data es) es w.1 k

found_of : (x : List ℕ) (e : Entry) (m : Metadata) → WellMetadata m → (f : FirstKeyed x e (entries_of m))
    → (value_place (encode_metadata m) x ≡ place_among (entries_of m) f.before e) × (value_of (encode_metadata m) x ≡ e.value)
unfolding WellMetadata
found_of x e absent w f = absurd (let n = ap length f.list in omega (arith, n, length-append f.before (e ∷ f.after)))
found_of x e (section es) w f = (place_found x es w.0 w.1 e f, value_found x es w.0 w.1 e f)

module _ (s : List ℕ) (es : List Entry) (x : List ℕ) (h : HasEntries s es) where
  module _ (e : Entry) (f : FirstKeyed x e es) where
    abbrev found : (value_place (encode_metadata h.metadata) x ≡ place_among (entries_of h.metadata) f.before e) × (value_of (encode_metadata h.metadata) x ≡ e.value)
    found =
        found_of x e h.metadata h.well
        (record { before = f.before; after = f.after; list = f.list ∙ sym h.entries; keyed = f.keyed; first = f.first })

    found-place : value_place s x ≡ place_among es f.before e
    found-place =
        ap (λ (l : List ℕ). value_place l x) (sym h.bytes) ∙ found.0 ∙ ap (λ (l : List Entry). place_among l f.before e) h.entries

    found_value : value_of s x ≡ e.value
    found_value = ap (λ (l : List ℕ). value_of l x) (sym h.bytes) ∙ found.1

  missing : NoneKeyed x es → value_place s x ≡ refused 19
  missing k =
      ap (λ (l : List ℕ). value_place l x) (sym h.bytes)
      ∙ missing-of x h.metadata h.well (subst (NoneKeyed x) (sym h.entries) k)

-- a key is that of a first entry or of none
found_or_none : (k : List ℕ) (es : List Entry) → ((e : Entry) × FirstKeyed k e es) ⊎ NoneKeyed k es
found_or_none k es =
    ⊎_elim
    (λ r. inl (r.1, record { before = r.0; after = r.2; list = r.3; keyed = r.4; first = r.5 }))
    inr
    (first_or_none (λ e. e.key) k es)

pub value-theorems : ValueTheorems
value-theorems =
    record {
      some = λ s b a. let m = metadata-theorems.two_way.accepted s b a in
          (entries_of m.0, record { metadata = m.0; well = m.1; bytes = m.2; entries = refl });
      place = λ s es x e h f. found-place s es x h e f;
      value = λ s es x e h f. found_value s es x h e f;
      missing = missing;
      found_or_none = found_or_none;
      refused = place-refused;
      empty = empty-value;
    }

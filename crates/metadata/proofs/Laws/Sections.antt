-- A section that passes is what its entries are written as. One that is written passes, and is read back.
use Prim.Native.Nat.{ℕ, ◌+◌, ◌*◌, ◌^◌, ◌≤◌, ◌<◌}
use mathlib.Core.Path.{◌≡◌, refl, sym, ap, ◌∙◌}
use mathlib.Core.Bool.{true}
use mathlib.Core.List.{List, [], ◌++◌, append-nil}
use native.Mathlib.Omega.{arith}
use lib.Dec.{leb}
use lib.ListN.{length}
use borrow.Author.Tests.{leb-true, le-leb}
use Rattle.fields.specs.Bytes.{Bytes}
use Rattle.fields.specs.Lists.{Each, flat}
use Rattle.fields.specs.Tables.{counted}
use Rattle.fields.proofs.Laws.Bytes.{bytes_drop}
use Rattle.fields.proofs.Laws.Checks.{and_split, and-join}
use Rattle.fields.proofs.Laws.Tables.{items_from, puts-run, none_left, counted-headers, length-counted, counted-number, counted-after, counted-read, counted-written}
use Rattle.metadata.specs.Metadata.{Entry, section, entry_header, entry_data, encode_metadata, WellEntry, WellMetadata}
use Rattle.metadata.specs.MetadataCheck.{index_count, entries_ok, headers_of, data_of, section_ok}
use Rattle.metadata.proofs.Laws.Entries.{entry_items, entry-laws}

-- the entries of a section
abbrev pub entries_in : List ℕ → List Entry
entries_in s = items_from entry_items (index_count s) (headers_of s) (data_of s)

-- ---- a section that passes

module _ (s : List ℕ) (k : section_ok s ≡ true) where
  pub section-passed : (2 + 8 * index_count s ≤ length s) × (entries_ok (index_count s) (headers_of s) (data_of s) ≡ true)
  unfolding section_ok
  section-passed =
      let p = and_split (leb 2 (length s)) _ k in
      let q = and_split (leb (2 + 8 * index_count s) (length s)) _ p.1 in
      (leb-true (2 + 8 * index_count s) (length s) q.0, q.1)

  pub section-read : Bytes s → WellMetadata (section (entries_in s)) × (encode_metadata (section (entries_in s)) ≡ s)
  unfolding WellMetadata encode_metadata entries_ok
  section-read b =
      let r = counted-read entry-laws s b section-passed.0 (data_of s) (bytes_drop (2 + 8 * index_count s) s b) section-passed.1 in
      let d = sym (puts-run entry_items entry_data (λ l. l) (λ e l. refl) (entries_in s) r.3.1) ∙ r.3.2 in
      ((r.1, r.2), ap (counted entry_header (entries_in s)) (none_left (flat entry_data (entries_in s)) r.3.1 (data_of s) r.3.3 d) ∙ r.0)

-- ---- a written section

module _ (es : List Entry) where
  abbrev written : List ℕ
  written = encode_metadata (section es)

  pub length-written : length written ≡ 2 + 8 * length es + length (flat entry_data es)
  unfolding encode_metadata
  length-written = length-counted entry-laws es (flat entry_data es)

  pub headers-written : headers_of written ≡ flat entry_header es ++ flat entry_data es
  unfolding encode_metadata
  headers-written = counted-headers entry-laws es (flat entry_data es)

  module _ (fits : length es < 256 ^ 2) where
    pub count-written : index_count written ≡ length es
    unfolding encode_metadata
    count-written = counted-number entry-laws es (flat entry_data es) fits

    pub data-written : data_of written ≡ flat entry_data es
    unfolding encode_metadata
    data-written = counted-after entry-laws es (flat entry_data es) fits

    -- it is accepted and read back
    pub section-written : Each WellEntry es → (section_ok written ≡ true) × (entries_in written ≡ es)
    unfolding section_ok encode_metadata entries_ok
    section-written w =
        let l : 2 + 8 * index_count written ≤ length written = omega (arith, length-written, count-written) in
        let d = data-written ∙ sym (puts-run entry_items entry_data (λ l. l) (λ e l. refl) es [] ∙ append-nil (flat entry_data es)) in
        let r = counted-written entry-laws es (flat entry_data es) fits w [] refl in (
          and-join _ _ (le-leb 2 (length written) (omega (arith, length-written)))
              (and-join _ _ (le-leb _ _ l) (ap (entries_ok (index_count written) (headers_of written)) d ∙ r.0)),
          ap (items_from entry_items (index_count written) (headers_of written)) d ∙ r.1,
        )

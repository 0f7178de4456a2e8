-- What is the same in both layouts: where V is not 2; where the numbers are the same; which messages with short metadata are well formed.
use Prim.Native.Nat.{ℕ, ◌^◌, ◌<◌, ◌≤◌}
use mathlib.Core.Path.{◌≡◌, refl, sym, ap, subst, ◌∙◌}
use mathlib.Core.Logic.{inl, inr}
use mathlib.Core.List.{List}
use native.Mathlib.Omega.{arith}
use lib.ListN.{length}
use borrow.Author.Tests.{ne_eqb}
use Rattle.header.specs.Header.{body_limit}
use Rattle.header.specs.HeaderReader.{header_of}
use Rattle.metadata.specs.Metadata.{Metadata, WellMetadata, index_size, encode_metadata}
use Rattle.metadata.proofs.Laws.MetadataTheorems.{metadata-theorems}
use Rattle.message.specs.declared.Layout.{Layout}
use Rattle.message.specs.declared.Layout.TheVariants.{New, Old}
use Rattle.message.specs.Body.{Sections, extended_numbers, MetadataFits, WellSections, encode_body}
use Rattle.message.specs.Message.{Message, WellFormed, Parts, parts_of, encode_with, encode}
use Rattle.message.specs.MessageReader.{extended_fault, sizes_fault, found_fault, places_of, body_fault, body_clean, stream_fault, read_of}
use Rattle.message.specs.MessageWriter.{fits, fit_fault, given_sections_fault, given_fault, message_written, message_out}
use Rattle.message.specs.BothLayouts.{BothLayouts}
use Rattle.message.proofs.Laws.Body.{length-1, length-2}

module _ (l o : Layout) where
  same_read : (s : List ℕ) → ((header_of s).version ≡ 2 → ⊥) → read_of l s ≡ read_of o s
  unfolding read_of stream_fault body_fault body_clean found_fault sizes_fault extended_fault places_of
  same_read s h = rw (ne_eqb (header_of s).version 2 h) refl

  same-written : (p : Parts) (room : ℕ) → (p.version ≡ 2 → ⊥) → message_written l p room ≡ message_written o p room
  unfolding given_fault given_sections_fault fit_fault fits encode_with encode_body
  same-written p room h = rw (ne_eqb p.version 2 h) refl

  same_out : (p : Parts) (out : List ℕ) → (p.version ≡ 2 → ⊥) → message_out l p out ≡ message_out o p out
  unfolding given_fault given_sections_fault fit_fault fits encode_with encode_body
  same_out p out h = rw (ne_eqb p.version 2 h) refl

-- MSG_ID 0, and metadata that is no more than its index
same_numbers : (l : Layout) (k : ℕ) → extended_numbers l k k 0 ≡ record { second = k; third = 0; fourth = 0 }
same_numbers New k = ap (λ (d : ℕ). record { second = k; third = d; fourth = 0 }) (omega arith)
same_numbers Old k = refl

same_bytes : (l o : Layout) (m : Message) → m.id ≡ 0 → length (encode_metadata m.metadata) ≡ index_size m.metadata → encode l m ≡ encode o m
unfolding encode_with encode_body
same_bytes l o m i e = rw (i, e, same_numbers l (index_size m.metadata), same_numbers o (index_size m.metadata)) refl

-- metadata that is short enough for both
both-fit : (o : Layout) (k m : ℕ) → k ≤ m → m < 256 ^ 2 → MetadataFits o k m
both-fit New k m h n = (h, omega arith, omega arith)
both-fit Old k m h n = n

index_within : (m : Metadata) → WellMetadata m → index_size m ≤ length (encode_metadata m)
index_within m w =
    subst (λ (n : ℕ). n ≤ length (encode_metadata m)) (metadata-theorems.index_in m w)
    (metadata-theorems.index_within (encode_metadata m) (metadata-theorems.two_way.well_accepted m w))

module _ (l o : Layout) (v k : ℕ) (x : Sections) where
  same-sections : k ≤ length x.metadata → length x.metadata < 256 ^ 2 → WellSections l v k x → WellSections o v k x
  same-sections h n (inl p) = inl p
  same-sections h n (inr p) =
      let e = p.1 in
      inr (
        p.0,
        record {
          id_fits = e.id_fits;
          further_bytes = e.further_bytes;
          further_fits = e.further_fits;
          metadata_fits = both-fit o k (length x.metadata) h n;
        },
      )

  same_size : WellSections l v k x → length (encode_body l v k x) ≡ length (encode_body o v k x)
  same_size (inl p) = let n : v ≡ 2 → ⊥ = λ e. omega (arith, e, p.0) in length-1 l v k x n ∙ sym (length-1 o v k x n)
  same_size (inr p) = length-2 l v k x p.0 ∙ sym (length-2 o v k x p.0)

both-well : (l o : Layout) (m : Message) → length (encode_metadata m.metadata) < 256 ^ 2 → WellFormed l m → WellFormed o m
both-well l o m n w =
    let k : ℕ = index_size m.metadata in
    let x : Sections = (parts_of m).sections in
    record {
      type_fills = w.type_fills;
      name_fills = w.name_fills;
      stamp_fits = w.stamp_fits;
      sections = same-sections l o m.version k x (index_within m.metadata w.metadata) n w.sections;
      content = w.content;
      metadata = w.metadata;
      size-limit = subst (λ (j : ℕ). j ≤ body_limit) (same_size l o m.version k x w.sections) w.size-limit;
    }

pub both-layouts : (l o : Layout) → BothLayouts l o
both-layouts l o = record { read = same_read l o; written = same-written l o; out = same_out l o; bytes = same_bytes l o; well = both-well l o }

-- Messages from a sender that does not clear its text fields, by computation.
use Prim.Native.Nat.{◌^◌}
use mathlib.Core.Path.{refl}
use mathlib.Core.Logic.{inl, inr}
use mathlib.Core.List.{[], ◌∷◌}
use native.Mathlib.Omega.{arith}
use lib.ListN.{replicate}
use Rattle.fields.specs.Bytes.{same, sized}
use Rattle.fields.specs.Lists.{all_of, flat}
use Rattle.fields.specs.Numbers.{be_val, be_bytes}
use Rattle.fields.specs.Text.{is_text, text_of, past_text, all_zero, text_ok, text_clean, field_ok, text_bytes}
use Rattle.fields.specs.Received.{field_bytes, Fills}
use Rattle.fields.specs.Answer.{room_fault}
use Rattle.fields.specs.Writers.{written_by, out_by}
use Rattle.fields.proofs.Laws.Text.{is-text}
use Rattle.fields.proofs.Laws.Received.{zero-fills}
use Rattle.crc64.specs.Crc.{bit_step, run, bit_at, bits_of, bits, crc_of}
use Rattle.header.specs.Header.{encode_header}
use Rattle.header.specs.HeaderReader.{header_of, short_fault, texts_fault, limit_fault, header_fault}
use Rattle.header.specs.HeaderWriter.{names_fault}
use Rattle.metadata.specs.Metadata.{encode_metadata, WellMetadata}
use Rattle.metadata.specs.MetadataCheck.{entry_ok, entries_ok, section_ok, metadata_fault, index_size_in}
use Rattle.pose.specs.Words.{word_bytes}
use Rattle.pose.specs.Transform.{WellTransform}
use Rattle.pose.specs.TransformReader.{transform_fault}
use Rattle.bind_layout.specs.Children.{padded, child_header, child_name, child_data, name_table, encode_children}
use Rattle.bind_layout.specs.BindLayout.{types_ok, types_clean, name_ok, names_ok, table_ok, pad_ok, block_ok, data_ok, layout_ok, layout_fault}
use Rattle.content.specs.Kinds.{transform_text, bind_text, kind_of}
use Rattle.content.specs.ContentCheck.{children_fault, bind_fault, content_fault, children_clean, bind_clean, content_clean}
use Rattle.content.specs.Tree as tree
use Rattle.content.specs.Examples.{inner_rest, outer_rest}
use Rattle.cleaning.specs.CleanBytes.{clean_headers, clean_front, clean_blocks, clean_bind, clean_bytes}
use Rattle.message.specs.declared.Layout.{Layout}
use Rattle.message.specs.declared.Layout.TheVariants.{New, Old}
use Rattle.message.specs.Body.{encode_body}
use Rattle.message.specs.Message.{encode_with, WellFormed}
use Rattle.message.specs.MessageReader.{extended_ok, extended_fault, sizes_fault, places_of, whole_fault, version_fault, crc_fault, sections_fault, found_fault, body_fault, body_clean, front_fault, stream_fault, step_of, read_of}
use Rattle.message.specs.MessageWriter.{fits, fit_fault, given_sections_fault, given_fault}
use Rattle.message.specs.Samples.{arm_text}
use Rattle.message.specs.ReceivedSamples.{tracker_message, bundle_message, ReceivedSamples}
use Rattle.message.proofs.Laws.Below.{each_below, bytes_below}

sevens : WellTransform (replicate 12 0x07070707)
unfolding all_of
sevens = record { count = refl; words = each_below (256 ^ 4) (replicate 12 0x07070707) refl }

tracker-well : (l : Layout) → WellFormed l tracker_message
unfolding encode_metadata WellMetadata tree.WellFormed tree.encode encode_body word_bytes flat be_bytes is_text all_of
tracker-well l =
    record {
      type_fills =
          record {
            text = is-text transform_text refl;
            rest = inr (0xFF ∷ 0x80 ∷ [], refl);
            bytes = bytes_below (0 ∷ 0xFF ∷ 0x80 ∷ []) refl;
            width = refl;
          };
      name_fills =
          record {
            text = is-text arm_text refl;
            rest = inr (replicate 16 0x99, refl);
            bytes = bytes_below (0 ∷ replicate 16 0x99) refl;
            width = refl;
          };
      stamp_fits = omega arith;
      sections = inl (refl, record { no_id = refl; no_further = refl; no_metadata = refl });
      content = sevens;
      metadata = tt;
      size-limit = omega arith;
    }

inner-fills : Fills 12 transform_text inner_rest
unfolding is_text all_of
inner-fills =
    record { text = is-text transform_text refl; rest = inr (0xC8 ∷ 0xC8 ∷ [], refl); bytes = bytes_below inner_rest refl; width = refl }

outer-fills : Fills 12 bind_text outer_rest
unfolding is_text all_of
outer-fills = record { text = is-text bind_text refl; rest = inr (replicate 7 0xFF, refl); bytes = bytes_below outer_rest refl; width = refl }

bundle-well : (l : Layout) → WellFormed l bundle_message
unfolding encode_metadata WellMetadata tree.WellFormed tree.encode encode_body encode_children name_table padded child_header child_name child_data field_bytes sized word_bytes flat be_bytes is_text all_of
bundle-well l =
    record {
      type_fills = zero-fills 12 bind_text (is-text bind_text refl) (omega arith);
      name_fills = zero-fills 20 arm_text (is-text arm_text refl) (omega arith);
      stamp_fits = omega arith;
      sections = inl (refl, record { no_id = refl; no_further = refl; no_metadata = refl });
      content = (
        record {
          count_fits = omega arith;
          table_fits = omega arith;
          each = (record { type_fills = outer-fills; name_text = is-text (0x4E ∷ []) refl; size_fits = omega arith }, tt);
        },
        (
          (
            record {
              count_fits = omega arith;
              table_fits = omega arith;
              each = (record { type_fills = inner-fills; name_text = is-text (0x41 ∷ []) refl; size_fits = omega arith }, tt);
            },
            (sevens, tt),
          ),
          tt,
        ),
      );
      metadata = tt;
      size-limit = omega arith;
    }

pub received-samples : ReceivedSamples
unfolding encode_with encode_header encode_body encode_metadata tree.encode tree.cleaned word_bytes flat be_bytes text_bytes field_bytes sized crc_of bits bits_of bit_at run bit_step read_of stream_fault step_of front_fault body_fault body_clean found_fault sizes_fault sections_fault crc_fault version_fault whole_fault places_of extended_fault extended_ok content_fault content_clean kind_of transform_fault metadata_fault section_ok entries_ok entry_ok index_size_in header_of short_fault texts_fault limit_fault header_fault be_val text_of past_text all_zero text_ok text_clean field_ok is_text all_of same padded child_header child_name child_data name_table encode_children types_ok types_clean name_ok names_ok table_ok pad_ok block_ok data_ok layout_ok layout_fault children_fault bind_fault children_clean bind_clean clean_headers clean_front clean_blocks clean_bind clean_bytes written_by out_by given_fault given_sections_fault fit_fault fits names_fault room_fault
received-samples =
    record {
      tracker = λ l.
          record { well = tracker-well l; bytes = refl; cleaned_bytes = refl; read = refl; cleaned_read = refl; parts = refl; written = refl; out = refl };
      bundle = λ l.
          record { well = bundle-well l; bytes = refl; cleaned_bytes = refl; read = refl; cleaned_read = refl; parts = refl; written = refl; out = refl };
      extended = elim [ New ↦ refl | Old ↦ refl ];
      extended_out = elim [ New ↦ refl | Old ↦ refl ];
      deep_out = λ l. refl;
      one_text = λ l. refl;
      no_text = λ l. refl;
      other_crc = λ l. refl;
      empty_type = λ l. refl;
      no_name = λ l. refl;
    }

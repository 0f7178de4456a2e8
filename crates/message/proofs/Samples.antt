-- The samples, by computation; the largest bodies by the lengths of their parts.
use Prim.Native.Nat.{ℕ, ◌^◌}
use mathlib.Core.Path.{◌≡◌, refl, ap₂}
use mathlib.Core.Logic.{inl, inr}
use mathlib.Core.List.{List, [], ◌∷◌, append-nil}
use native.Mathlib.Omega.{arith}
use Rattle.fields.specs.Bytes.{same, sized}
use Rattle.fields.specs.Lists.{all_of, flat}
use Rattle.fields.specs.Numbers.{be_val, be_bytes}
use Rattle.fields.specs.Text.{is_text, text_of, past_text, all_zero, text_ok, text_clean, field_ok, text_bytes}
use Rattle.fields.specs.Received.{field_bytes}
use Rattle.fields.specs.Answer.{room_fault}
use Rattle.fields.specs.Writers.{written_by, out_by}
use Rattle.crc64.specs.Crc.{bit_step, run, bit_at, bits_of, bits, crc_of}
use Rattle.header.specs.Header.{encode_header}
use Rattle.header.specs.HeaderReader.{header_of, short_fault, texts_fault, limit_fault, header_fault}
use Rattle.header.specs.HeaderWriter.{names_fault}
use Rattle.metadata.specs.Metadata.{WellEntry, entry_header, entry_data, encode_metadata, WellMetadata}
use Rattle.metadata.specs.MetadataCheck.{entry_ok, entries_ok, section_ok, metadata_fault, index_size_in}
use Rattle.pose.specs.Words.{word_bytes}
use Rattle.pose.specs.TransformReader.{transform_fault}
use Rattle.pose.specs.Position.{six}
use Rattle.pose.specs.PositionReader.{count_fault, position_fault}
use Rattle.content.specs.Kinds.{transform_text, position_text, kind_of}
use Rattle.content.specs.ContentCheck.{content_fault, content_clean}
use Rattle.cleaning.specs.CleanBytes.{clean_bytes}
use Rattle.content.specs.Tree as tree
use Rattle.content.proofs.Examples as content
use Rattle.content.specs.Tree.{Opaque}
use Rattle.message.specs.declared.Layout.{Layout}
use Rattle.message.specs.declared.Layout.TheVariants.{New, Old}
use Rattle.message.specs.LayoutNumber.{layout_of}
use Rattle.message.specs.Body.{encode_body, MetadataFits}
use Rattle.message.specs.Message.{encode_with, WellFormed}
use Rattle.message.specs.MessageReader.{extended_ok, extended_fault, sizes_fault, places_of, whole_fault, version_fault, crc_fault, sections_fault, found_fault, body_fault, body_clean, front_fault, stream_fault, step_of, read_of, refused}
use Rattle.message.specs.MessageWriter.{fits, fit_fault, given_sections_fault, given_fault}
use Rattle.message.proofs.Laws.Below.{each_below, bytes_below}
use Rattle.fields.proofs.Laws.Text.{is-text}
use Rattle.fields.proofs.Laws.Received.{zero-fills}
use Rattle.message.specs.Samples.{arm_text, arm_message, arm_words, status_text, probe_text, probe_message, point_text, point_words, point_message, ProbeSample, PointSample, other_than, probe_bytes, point_bytes, Samples}

opaque : Opaque status_text
opaque =
    record {
      no-transform = λ e. let z : ◌≡◌ {A = ℕ} 83 84 = cc in omega arith;
      no-position = λ e. let z : ◌≡◌ {A = ℕ} 83 80 = cc in omega arith;
      no-image = λ e. let z : ◌≡◌ {A = ℕ} 83 73 = cc in omega arith;
      no-bind = λ e. let z : ◌≡◌ {A = ℕ} 83 66 = cc in omega arith;
    }

arm-well : (l : Layout) → WellFormed l arm_message
unfolding encode_metadata WellMetadata tree.WellFormed tree.encode encode_body word_bytes flat be_bytes is_text all_of
arm-well l =
    record {
      type_fills = zero-fills 12 transform_text (is-text transform_text refl) (omega arith);
      name_fills = zero-fills 20 arm_text (is-text arm_text refl) (omega arith);
      stamp_fits = omega arith;
      sections = inl (refl, record { no_id = refl; no_further = refl; no_metadata = refl });
      content = record { count = refl; words = each_below (256 ^ 4) arm_words refl };
      metadata = tt;
      size-limit = omega arith;
    }

entry-well : WellEntry (record { key = 75 ∷ []; encoding = 0x5152; value = 0x61 ∷ 0x62 ∷ [] })
unfolding is_text all_of
entry-well =
    record {
      key_text = is-text (75 ∷ []) refl;
      key_some = omega arith;
      key_fits = omega arith;
      encoding_fits = omega arith;
      value-bytes = bytes_below (0x61 ∷ 0x62 ∷ []) refl;
      value_fits = omega arith;
    }

metadata-13 : (l : Layout) → MetadataFits l 10 13
metadata-13 New = (omega arith, omega arith, omega arith)
metadata-13 Old = omega arith

probe-well : (l : Layout) → WellFormed l probe_message
unfolding encode_metadata entry_header entry_data WellMetadata tree.WellFormed tree.encode encode_body flat be_bytes is_text all_of
probe-well l =
    record {
      type_fills = zero-fills 12 status_text (is-text status_text refl) (omega arith);
      name_fills = zero-fills 20 probe_text (is-text probe_text refl) (omega arith);
      stamp_fits = omega arith;
      sections =
          inr (
            refl,
            record {
              id_fits = omega arith;
              further_bytes = bytes_below probe_message.further refl;
              further_fits = omega arith;
              metadata_fits = metadata-13 l;
            },
          );
      content = (opaque, bytes_below (0x41 ∷ 0x42 ∷ 0x43 ∷ []) refl);
      metadata = (omega arith, (entry-well, tt));
      size-limit = omega arith;
    }

point-well : (l : Layout) → WellFormed l point_message
unfolding encode_metadata entry_header entry_data WellMetadata tree.WellFormed tree.encode encode_body word_bytes flat be_bytes is_text all_of
point-well l =
    record {
      type_fills = zero-fills 12 position_text (is-text position_text refl) (omega arith);
      name_fills = zero-fills 20 point_text (is-text point_text refl) (omega arith);
      stamp_fits = omega arith;
      sections =
          inr (
            refl,
            record {
              id_fits = omega arith;
              further_bytes = bytes_below point_message.further refl;
              further_fits = omega arith;
              metadata_fits = metadata-13 l;
            },
          );
      content = record { count = six; words = each_below (256 ^ 4) point_words refl };
      metadata = (omega arith, (entry-well, tt));
      size-limit = omega arith;
    }

-- what holds in each layout
pub by_layout : (P : Layout → Type 0) → P New → P Old → (l : Layout) → P l
by_layout P n o New = n
by_layout P n o Old = o

pub samples : Samples
unfolding encode_with encode_header encode_body encode_metadata entry_header entry_data tree.encode word_bytes flat be_bytes text_bytes field_bytes sized crc_of bits bits_of bit_at run bit_step read_of stream_fault step_of front_fault body_fault body_clean found_fault sizes_fault sections_fault crc_fault version_fault whole_fault places_of extended_fault extended_ok content_fault content_clean kind_of transform_fault position_fault count_fault metadata_fault section_ok entries_ok entry_ok index_size_in header_of short_fault texts_fault limit_fault header_fault be_val text_of past_text all_zero text_ok text_clean field_ok is_text all_of same clean_bytes written_by out_by given_fault given_sections_fault fit_fault fits names_fault room_fault layout_of
samples =
    record {
      numbers = refl;
      arm = λ l. record { well = arm-well l; bytes = refl; read = refl; read_more = refl; damaged = refl; changed = refl; parts = refl; written = refl; out = refl };
      probe =
          by_layout ProbeSample
          (record { well = probe-well New; bytes = refl; read = refl; read_more = refl; damaged = refl; changed = refl; parts = refl; written = refl; out = refl })
          (record { well = probe-well Old; bytes = refl; read = refl; read_more = refl; damaged = refl; changed = refl; parts = refl; written = refl; out = refl });
      point =
          by_layout PointSample
          (record { well = point-well New; bytes = refl; read = refl; read_more = refl; damaged = refl; changed = refl; parts = refl; written = refl; out = refl })
          (record { well = point-well Old; bytes = refl; read = refl; read_more = refl; damaged = refl; changed = refl; parts = refl; written = refl; out = refl });
      other_probe = by_layout (λ l. read_of (other_than l) (probe_bytes l) ≡ refused 6 88) refl refl;
      other-point = by_layout (λ l. read_of (other_than l) (point_bytes l) ≡ refused 6 109) refl refl;
      zeros = λ l. refl;
      position_12 = λ l. refl;
      position_28 = λ l. refl;
      nothing = λ l. refl;
      front = λ l. refl;
      version_crc = λ l. refl;
      crc_left_out = λ l. refl;
      levels = ap₂ {C = List ℕ} (λ a b. a ∷ b ∷ []) (content.examples).level_4 (content.examples).level_5;
      names = λ l. refl;
      parts = refl;
      largest = λ l c e. rw e refl;
      largest_extended = λ c e. rw (append-nil c, e) refl;
      too_large = λ l c e. (rw e refl, rw e refl);
      too_large_extended = λ l c e. rw (append-nil c, e) refl;
      parts_counted = λ l c e. (rw (append-nil c, e) refl, rw (append-nil c, e) refl);
      parts_not_counted = λ l c e. (rw (e, fits) refl, rw (e, fits) refl, refl);
      room = λ l. refl;
    }

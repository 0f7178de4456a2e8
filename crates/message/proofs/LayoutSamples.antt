-- Bodies of V 2 and sections in both layouts, by computation; long ones by the lengths of their parts.
use mathlib.Core.Path.{◌≡◌, refl}
use mathlib.Core.List.{◌∷◌, append-nil, map}
use lib.ListN.{length-drop}
use Rattle.fields.specs.Bytes.{same, sized}
use Rattle.fields.specs.Lists.{all_of}
use Rattle.fields.specs.Numbers.{be_val, be_bytes}
use Rattle.fields.specs.Text.{is_text, text_of, past_text, all_zero, text_ok, text_clean, field_ok, text_bytes}
use Rattle.fields.specs.Received.{field_bytes}
use Rattle.fields.specs.Answer.{Wrote, room_fault}
use Rattle.fields.specs.Writers.{written_by}
use Rattle.cleaning.specs.CleanBytes.{clean_bytes}
use Rattle.crc64.specs.Crc.{bit_step, run, bit_at, bits_of, bits, crc_of}
use Rattle.header.specs.Header.{encode_header}
use Rattle.header.specs.HeaderReader.{header_of, short_fault, texts_fault, limit_fault, header_fault}
use Rattle.header.specs.HeaderWriter.{names_fault}
use Rattle.metadata.specs.MetadataCheck.{index_size_in, entry_ok, entries_ok, section_ok, metadata_fault}
use Rattle.pose.specs.TransformReader.{transform_fault}
use Rattle.content.specs.Kinds.{transform_text, kind_of}
use Rattle.content.specs.ContentCheck.{content_fault, content_clean}
use Rattle.message.specs.declared.Layout.TheVariants.{New}
use Rattle.message.specs.Body.{encode_body}
use Rattle.message.specs.Message.{encode_with}
use Rattle.message.specs.MessageReader.{extended_ok, extended_fault, sizes_fault, places_of, whole_fault, version_fault, crc_fault, sections_fault, found_fault, body_fault, body_clean, front_fault, stream_fault, step_of, read_of}
use Rattle.message.specs.MessageWriter.{fits, fit_fault, given_sections_fault, given_fault}
use Rattle.message.specs.Samples.{status_text}
use Rattle.message.specs.LayoutSamples.{row_of, status_rows, transform_rows, writes_metadata, entries, LayoutSamples}

status-rows : map (row_of status_text) status_rows ≡ status_rows
unfolding encode_with encode_header encode_body be_val be_bytes text_bytes field_bytes sized crc_of bits bits_of bit_at run bit_step read_of stream_fault step_of front_fault body_fault body_clean found_fault sizes_fault sections_fault crc_fault version_fault whole_fault places_of extended_fault extended_ok content_fault content_clean kind_of transform_fault metadata_fault section_ok entries_ok entry_ok index_size_in header_of short_fault texts_fault limit_fault header_fault text_of past_text all_zero text_ok text_clean field_ok is_text all_of same
status-rows = refl

transform-rows : map (row_of transform_text) transform_rows ≡ transform_rows
unfolding encode_with encode_header encode_body be_val be_bytes text_bytes field_bytes sized crc_of bits bits_of bit_at run bit_step read_of stream_fault step_of front_fault body_fault body_clean found_fault sizes_fault sections_fault crc_fault version_fault whole_fault places_of extended_fault extended_ok content_fault content_clean kind_of transform_fault metadata_fault section_ok entries_ok entry_ok index_size_in header_of short_fault texts_fault limit_fault header_fault text_of past_text all_zero text_ok text_clean field_ok is_text all_of same
transform-rows = refl

most_entries : writes_metadata New (0x1F ∷ 0xFF ∷ entries 8191) 73791 ≡ Wrote 73791
unfolding encode_with encode_header encode_body be_val be_bytes text_bytes field_bytes sized clean_bytes written_by given_fault given_sections_fault fit_fault fits names_fault limit_fault version_fault sections_fault metadata_fault section_ok entries_ok entry_ok index_size_in content_fault content_clean kind_of is_text all_of same room_fault
most_entries = refl

pub layout-samples : LayoutSamples
unfolding crc_of bits bits_of bit_at run bit_step read_of stream_fault step_of front_fault body_fault body_clean found_fault sizes_fault crc_fault whole_fault places_of extended_fault header_of short_fault texts_fault header_fault text_of past_text all_zero text_ok text_clean field_ok encode_with encode_header encode_body be_val be_bytes text_bytes field_bytes sized clean_bytes written_by given_fault given_sections_fault fit_fault fits names_fault limit_fault version_fault sections_fault metadata_fault section_ok entries_ok entry_ok index_size_in content_fault content_clean kind_of is_text all_of same room_fault
layout-samples =
    record {
      no_sizes = λ l. refl;
      sizes = status-rows;
      order = transform-rows;
      further_field = refl;
      index_field = refl;
      metadata_field = refl;
      counts = refl;
      long_section = λ c e. rw (append-nil c, length-drop 69989 c, e) refl;
      longest_further = λ c e. rw (append-nil c, e) refl;
      longest_old = λ c e. rw (append-nil c, length-drop 65524 c, e) refl;
      most_entries = most_entries;
      long_sizes = λ c e. rw e refl;
      long_index = λ c e. rw e refl;
    }

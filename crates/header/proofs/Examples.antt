-- The examples, by computation.
use mathlib.Core.Path.{refl}
use Rattle.fields.specs.Bytes.{sized}
use Rattle.fields.specs.Lists.{all_of}
use Rattle.fields.specs.Numbers.{be_val, be_bytes}
use Rattle.fields.specs.Text.{is_text, text_of, past_text, all_zero, text_ok, text_clean, field_ok, text_bytes}
use Rattle.fields.specs.Received.{field_bytes}
use Rattle.fields.specs.Answer.{room_fault}
use Rattle.fields.specs.Writers.{written_by, out_by}
use Rattle.header.specs.Header.{encode_header}
use Rattle.header.specs.HeaderReader.{header_of, short_fault, texts_fault, limit_fault, header_fault, header_read}
use Rattle.header.specs.HeaderWriter.{names_fault, given_fault}
use Rattle.header.specs.Examples.{Examples}

pub examples : Examples
unfolding sized all_of be_val be_bytes is_text text_of past_text all_zero text_ok text_clean field_ok text_bytes field_bytes room_fault written_by out_by encode_header header_of short_fault texts_fault limit_fault header_fault header_read names_fault given_fault
examples =
    record {
      layout = refl;
      layout_read = refl;
      texts_read = refl;
      texts_named = refl;
      wrote = refl;
      written = refl;
      uncleared_layout = refl;
      uncleared_read = refl;
      rests_read = refl;
      uncleared_cleaned = refl;
      short = refl;
      texts_by_length = refl;
      no_texts = refl;
      accepted = refl;
      two = refl;
      three = refl;
      order = refl;
      behind = refl;
      marks = refl;
      name_lengths = refl;
      name_bytes = refl;
      write_two = refl;
      write_three = refl;
      no_room = refl;
      untouched = refl;
      untouched_short = refl;
      seconds = refl;
      half = refl;
      seconds_read = refl;
      nanoseconds_read = refl;
      least = refl;
      rounded_down = refl;
      largest = refl;
      at-limit = refl;
      above-limit = refl;
    }

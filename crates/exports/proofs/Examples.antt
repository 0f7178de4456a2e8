-- The examples, by computation.
use mathlib.Core.Path.{refl}
use Rattle.fields.specs.Answer.{room_fault}
use Rattle.fields.specs.Lists.{all_of}
use Rattle.fields.specs.Numbers.{be_val, be_bytes}
use Rattle.fields.specs.Text.{is_text, text_of, past_text, all_zero, text_ok, text_clean, field_ok}
use Rattle.header.specs.HeaderReader.{header_of, short_fault, texts_fault, limit_fault, header_fault}
use Rattle.message.specs.MessageReader.{whole_fault, version_fault, body_fault, front_fault, stream_fault, step_of, read_of}
use Rattle.feed.specs.Push.{open_of, push_fault, passed_of, fitting_of, taken_in, push_of, stored_to, buffer_of}
use Rattle.exports.specs.Exports.{fed_for}
use Rattle.exports.specs.Examples.{Examples}

pub examples : Examples
unfolding room_fault all_of be_val be_bytes is_text text_of past_text all_zero text_ok text_clean field_ok header_of short_fault texts_fault limit_fault header_fault whole_fault version_fault body_fault front_fault stream_fault step_of read_of open_of push_fault passed_of fitting_of taken_in push_of stored_to buffer_of fed_for
examples =
    record {
      answer-bytes = refl;
      mark_numbers = refl;
      push_codes = refl;
      push-read = refl;
      pushed-bytes = refl;
      fed_none = λ l. refl;
      fed_part = λ l. refl;
      fed = λ l. refl;
      fed-total = λ l. refl;
      fed-buffer = λ l. refl;
      fed_more = λ l. refl;
      fed_refused = λ l. refl;
      fed_nothing = λ l. refl;
      fed_unwritten = λ l. refl;
      codes = refl;
      carried = refl;
      answered-bytes = refl;
      message-given = refl;
      promised = λ l p out left r n w. (w.count, w.number, w.bytes);
      cursor-bytes = refl;
      cursor_at_wide = refl;
      cursor_bytes_wide = refl;
      cursor_unmarked = refl;
      cursor-at = refl;
      cursor_of_few = refl;
    }

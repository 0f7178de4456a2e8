-- The examples, by computation.
use Prim.Native.Nat.{zero, suc, ◌<◌}
use mathlib.Core.Path.{refl}
use mathlib.Core.List.{[], ◌∷◌}
use native.Mathlib.Omega.{arith}
use Rattle.fields.specs.Bytes.{Bytes, same, sized}
use Rattle.fields.specs.Lists.{all_of, flat}
use Rattle.fields.specs.Numbers.{be_val, be_bytes}
use Rattle.fields.specs.Text.{is_text, text_of, past_text, all_zero, text_ok, text_clean, field_ok, text_bytes}
use Rattle.fields.specs.Received.{field_bytes}
use Rattle.fields.specs.Answer.{checked, room_fault}
use Rattle.fields.specs.Writers.{written_count_by, written_by, out_by}
use Rattle.fields.specs.Examples.{Examples}

below : Bytes (255 ∷ [])
below zero = omega arith
below (suc i) = omega arith

pub examples : Examples
unfolding same sized all_of flat be_val be_bytes is_text text_of past_text all_zero text_ok text_clean field_ok text_bytes field_bytes checked room_fault written_count_by written_by out_by
examples =
    record {
      byte = below;
      no_byte = λ b. absurd (let z : 256 < 256 = b 0 in omega arith);
      number_read = refl;
      number_written = refl;
      largest_size = refl;
      numbers_read = refl;
      written_1 = refl;
      written_2 = refl;
      written_8 = refl;
      number_past_end = refl;
      written_past_end = refl;
      text_padded = refl;
      text_full = refl;
      text_cut = refl;
      text_read = refl;
      field_empty = refl;
      field_full = refl;
      field_high = refl;
      field_resumed = refl;
      clean_fields = refl;
      unclean_fields = refl;
      no_fields = refl;
      rests = refl;
      rest_written = refl;
      refusals = refl;
      answers = refl;
      checks = refl;
      text_12 = refl;
      text_20 = refl;
      texts = refl;
      past-text = refl;
      two_at_three = refl;
      compared = refl;
      faults = refl;
      table = refl;
      items = refl;
      rooms = refl;
      answer-numbers = refl;
      answer_counts = refl;
      wrote = refl;
      counts = refl;
      left = refl;
      left_refused = refl;
      halves = refl;
    }

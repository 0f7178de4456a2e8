-- The examples, by computation.
use mathlib.Core.Path.{refl}
use Rattle.fields.specs.Bytes.{same, sized}
use Rattle.fields.specs.Lists.{all_of, flat}
use Rattle.fields.specs.Numbers.{be_val, be_bytes}
use Rattle.fields.specs.Text.{is_text, text_of, past_text, all_zero, text_ok, text_clean, field_ok, text_bytes}
use Rattle.fields.specs.Received.{field_bytes}
use Rattle.fields.specs.Answer.{checked}
use Rattle.bind_layout.specs.Children.{padded, child_header, child_name, child_data, name_table, encode_children}
use Rattle.bind_layout.specs.BindLayout.{types_ok, types_clean, name_ok, names_ok, table_ok, pad_ok, block_ok, data_ok, layout_ok, layout_fault}
use Rattle.content.specs.Kinds.{kind_of}
use Rattle.content.specs.ContentCheck.{children_fault, bind_fault, children_clean, bind_clean, bind_checked}
use Rattle.bind_cursor.specs.Cursor.{child_at, first_of, next_of}
use Rattle.bind_cursor.specs.CursorTheorems.{after, walked}
use Rattle.bind_cursor.specs.Examples.{Examples}

pub examples : Examples
unfolding same sized all_of flat be_val be_bytes is_text text_of past_text all_zero text_ok text_clean field_ok text_bytes field_bytes checked padded child_header child_name child_data name_table encode_children types_ok types_clean name_ok names_ok table_ok pad_ok block_ok data_ok layout_ok layout_fault kind_of children_fault bind_fault children_clean bind_clean bind_checked child_at first_of next_of after walked
examples =
    record {
      cursors = refl;
      walk = refl;
      clean = refl;
      bare = refl;
      none = refl;
      refused = refl;
      refused_inside = refl;
      parts = refl;
      next = refl;
      stays = refl;
    }

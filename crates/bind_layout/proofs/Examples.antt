-- The examples, by computation.
use mathlib.Core.Path.{refl}
use Rattle.fields.specs.Bytes.{sized}
use Rattle.fields.specs.Lists.{all_of, flat}
use Rattle.fields.specs.Numbers.{be_val, be_bytes}
use Rattle.fields.specs.Text.{is_text, text_of, past_text, all_zero, text_ok, text_clean, field_ok, text_bytes}
use Rattle.fields.specs.Received.{field_bytes}
use Rattle.fields.specs.Answer.{checked}
use Rattle.bind_layout.specs.Children.{padded, child_header, child_name, child_data, name_table, encode_children}
use Rattle.bind_layout.specs.BindLayout.{types_ok, types_clean, name_ok, names_ok, table_ok, pad_ok, block_ok, data_ok, layout_ok, layout_fault, layout_checked}
use Rattle.bind_layout.specs.Examples.{Examples}

pub examples : Examples
unfolding sized all_of flat be_val be_bytes is_text text_of past_text all_zero text_ok text_clean field_ok text_bytes field_bytes checked padded child_header child_name child_data name_table encode_children types_ok types_clean name_ok names_ok table_ok pad_ok block_ok data_ok layout_ok layout_fault layout_checked
examples =
    record {
      written = refl;
      accepted = refl;
      count_read = refl;
      type_read = refl;
      size_read = refl;
      table_read = refl;
      data_read = refl;
      second_read = refl;
      counts = refl;
      types = refl;
      sizes = refl;
      uncleared_types = refl;
      marks = refl;
      empty_type = refl;
      uncleared_written = refl;
      wide_sizes = refl;
      tables = refl;
      even_tables = refl;
      other_data = refl;
      many_children = refl;
      no-children = refl;
    }

-- The examples, by computation.
use mathlib.Core.Path.{refl}
use Rattle.fields.specs.Bytes.{same, sized}
use Rattle.fields.specs.Lists.{all_of, flat}
use Rattle.fields.specs.Numbers.{be_val, be_bytes}
use Rattle.fields.specs.Text.{is_text, text_of, past_text, all_zero, text_ok, text_bytes}
use Rattle.fields.specs.Received.{field_bytes}
use Rattle.bind_layout.specs.Children.{padded, child_header, child_name, child_data, name_table, encode_children}
use Rattle.bind_layout.specs.BindLayout.{types_ok, name_ok, names_ok, table_ok, pad_ok, block_ok, data_ok, layout_ok, layout_fault}
use Rattle.cleaning.specs.CleanBytes.{clean_headers, clean_front, clean_blocks, clean_bind, clean_bytes, clean_put}
use Rattle.cleaning.specs.Examples.{Examples}

pub examples : Examples
unfolding same sized all_of flat be_val be_bytes is_text text_of past_text all_zero text_ok text_bytes field_bytes padded child_header child_name child_data name_table encode_children types_ok name_ok names_ok table_ok pad_ok block_ok data_ok layout_ok layout_fault clean_headers clean_front clean_blocks clean_bind clean_bytes clean_put
examples =
    record {
      both = refl;
      one = refl;
      full = refl;
      clean = refl;
      deepest = refl;
      no_deeper = refl;
      opaque = refl;
      no-bind = refl;
      put = refl;
      most = refl;
      short = refl;
    }

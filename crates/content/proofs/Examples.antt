-- The examples, by computation.
use mathlib.Core.Path.{refl}
use Rattle.fields.specs.Bytes.{same, sized}
use Rattle.fields.specs.Lists.{all_of, flat}
use Rattle.fields.specs.Numbers.{be_val, be_bytes}
use Rattle.fields.specs.Text.{is_text, text_of, past_text, all_zero, text_ok, text_clean, field_ok, text_bytes}
use Rattle.fields.specs.Received.{field_bytes}
use Rattle.fields.specs.Answer.{checked}
use Rattle.pose.specs.TransformReader.{transform_fault}
use Rattle.pose.specs.PositionReader.{count_fault, position_fault}
use Rattle.image.specs.ImageReader.{scalar_size, kind_ok, header_ok, rule_fault, header_of, image_fault}
use Rattle.bind_layout.specs.Children.{padded, child_header, child_name, child_data, name_table, encode_children}
use Rattle.bind_layout.specs.BindLayout.{types_ok, types_clean, name_ok, names_ok, table_ok, pad_ok, block_ok, data_ok, layout_ok, layout_fault}
use Rattle.content.specs.Kinds.{kind_of}
use Rattle.content.specs.ContentCheck.{children_fault, bind_fault, content_fault, children_clean, bind_clean, content_clean, content_checked}
use Rattle.content.specs.Examples.{Examples}

pub examples : Examples
unfolding same sized all_of flat be_val be_bytes is_text text_of past_text all_zero text_ok text_clean field_ok text_bytes field_bytes checked transform_fault count_fault position_fault scalar_size kind_ok header_ok rule_fault header_of image_fault padded child_header child_name child_data name_table encode_children types_ok types_clean name_ok names_ok table_ok pad_ok block_ok data_ok layout_ok layout_fault kind_of children_fault bind_fault content_fault children_clean bind_clean content_clean content_checked
examples =
    record {
      transform-text = refl;
      position-text = refl;
      image-text = refl;
      bind-text = refl;
      kinds = refl;
      other_kinds = refl;
      transforms = refl;
      positions = refl;
      images = refl;
      binds = refl;
      others = refl;
      pose_first = refl;
      image_first = refl;
      bind_first = refl;
      nested_first = refl;
      nested_second = refl;
      layout_first = refl;
      p7 = refl;
      p8_length = refl;
      p8 = refl;
      p8_longer_length = refl;
      p8_longer = refl;
      short_transform = refl;
      bytes = refl;
      level_4 = refl;
      level_5 = refl;
      level_5_any_bytes = refl;
      level_4_layout = refl;
      level_5_second = refl;
      level_5_first = refl;
      marks = refl;
      deep_marks = refl;
      sibling_marks = refl;
      many_marks = refl;
      opaque_marks = refl;
      text_alone = refl;
    }

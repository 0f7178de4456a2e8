-- The examples, by computation.
use mathlib.Core.Path.{refl}
use Rattle.fields.specs.Numbers.{be_val, be_bytes}
use Rattle.fields.specs.Answer.{room_fault}
use Rattle.fields.specs.Writers.{written_by, out_by}
use Rattle.image.specs.Image.{encode_image}
use Rattle.image.specs.ImageReader.{scalar_size, kind_ok, within, direction_ok, directions_ok, pixel_bytes, header_ok, rule_fault, header_of, image_fault, image_of, pixels_of}
use Rattle.image.specs.Examples.{Examples}

pub examples : Examples
unfolding be_val be_bytes room_fault written_by out_by encode_image scalar_size kind_ok within direction_ok directions_ok pixel_bytes header_ok rule_fault header_of image_fault image_of pixels_of
examples =
    record {
      layout = refl;
      layout_read = refl;
      bytes = refl;
      accepted = refl;
      handed = refl;
      pixels = refl;
      short = refl;
      long = refl;
      inside = refl;
      outside = refl;
      far_outside = refl;
      float64 = refl;
      no_type = refl;
      nothing = refl;
      types_of_1 = refl;
      types_of_2 = refl;
      types_of_4 = refl;
      types_of_8 = refl;
      no_types = refl;
      border = refl;
      any_version = refl;
      endians = refl;
      coordinates = refl;
      no_components = refl;
      none_sent = refl;
      no_sizes = refl;
      smaller = refl;
      larger = refl;
      largest = refl;
      shifted = refl;
      at_front = refl;
      zeros = refl;
      no_pixels = refl;
      wrote = refl;
      no_room = refl;
      refused = refl;
      written = refl;
      kept = refl;
      untouched = refl;
    }

-- `image::header_of` meets its contract: each field at its place.
use mathlib.Core.Path.{sym, ◌∙◌}
use Rattle.std.proofs.lemmas.List.{map-id}
use Rattle.image.specs.ImageReader.{header_of}
use Rattle.image.proofs.header_of.Goals as goal

pub returns : goal.returns
unfolding header_of
returns c = λ i.
    record {
      version = c.read.ensures i;
      components = c.read-2.ensures i;
      scalar_type = c.read-3.ensures i;
      endian = c.read-4.ensures i;
      coordinate = c.read-5.ensures i;
      size = (sym (map-id c.three.result) ∙ c.three.ensures) i;
      axis_i = (sym (map-id c.three-2.result) ∙ c.three-2.ensures) i;
      axis_j = (sym (map-id c.three-3.result) ∙ c.three-3.ensures) i;
      axis_k = (sym (map-id c.three-4.result) ∙ c.three-4.ensures) i;
      centre = (sym (map-id c.three-5.result) ∙ c.three-5.ensures) i;
      offset = (sym (map-id c.three-6.result) ∙ c.three-6.ensures) i;
      sub_size = (sym (map-id c.three-7.result) ∙ c.three-7.ensures) i;
    }

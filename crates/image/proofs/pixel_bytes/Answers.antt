-- `image::pixel_bytes` meets its contract: the product for the scalar's size.
use mathlib.Core.Path.{◌∙◌}
use Rattle.image.specs.ImageReader.{pixel_bytes}
use Rattle.image.proofs.Rule.{product-same}
use Rattle.image.proofs.pixel_bytes.Goals as goal

pub returns : goal.returns
unfolding pixel_bytes
returns c =
    record {
      value = c.product.ensures.value ∙ product-same _ _ c.scalar_size-scalar.ensures.value;
      bound = c.product.ensures.bound;
    }

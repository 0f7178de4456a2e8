-- `image::read_image` meets its contract: the law of each case.
use mathlib.Core.Path.{◌≡◌, ap, sym, ◌∙◌}
use Rattle.std.proofs.Common.{rules}
use Rattle.fields.specs.Fault.{number_of}
use Rattle.image.specs.declared.ImageHeader.{ImageHeader}
use Rattle.image.specs.ImageReader.{ImageRead, image_fault}
use Rattle.image.proofs.Laws.{read-accepted, refused-image}
use Rattle.image.proofs.read_image.Goals as goal

pub returns-in_err-image_fault : goal.returns-in_err-image_fault
returns-in_err-image_fault c =
    let e : number_of c.from_residual.result ≡ image_fault c.args.content.now = search rules in
    refused-image c.args.content.now c.from_residual.result c.from_residual.ensures.0 e

pub returns : goal.returns
returns c =
    ap {B = ImageRead} (λ (h : ImageHeader). record { number = 0; header = h }) c.header_of.ensures
    ∙ sym (read-accepted c.args.content.now (sym c.in_ok-image_fault.ensures))

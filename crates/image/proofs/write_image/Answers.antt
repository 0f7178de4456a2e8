-- `image::write_image` meets its contract: the fault, or the stores of the header and the pixels.
use Prim.Native.Nat.{ℕ, ◌+◌}
use mathlib.Core.List.{List}
use mathlib.Core.Path.{◌≡◌, ap, sym, ◌∙◌}
use lib.ListN.{length}
use lib.Seq.{sets}
use Rattle.std.proofs.Common.{rules}
use Rattle.fields.specs.Answer.{room_fault}
use Rattle.fields.specs.Checks.{or_else}
use Rattle.fields.specs.Fault.{number_of}
use Rattle.fields.proofs.Laws.Writers.{refuses, stored}
use Rattle.image.specs.Image.{image_of_parts, encode_image}
use Rattle.image.specs.ImageReader.{rule_fault}
use Rattle.image.proofs.Header.{length-image, stores-image}
use Rattle.image.proofs.Laws.{image-room}
use Rattle.image.proofs.write_image.Goals as goal

pub returns-in_err-write_fault : goal.returns-in_err-write_fault
returns-in_err-write_fault c =
    let a = c.args in
    let n = length a.pixels.now in
    let e : number_of c.from_residual.result ≡ or_else (rule_fault a.header n) (room_fault (72 + n) (length a.out.now)) = search rules in
    refuses (rule_fault a.header n) (encode_image (image_of_parts a.header a.pixels.now)) a.out.now _ c.from_residual.ensures.0
    (e ∙ image-room a.header a.pixels.now (length a.out.now))

pub returns : goal.returns
returns c =
    let a = c.args in
    let x = image_of_parts a.header a.pixels.now in
    stored (rule_fault a.header (length a.pixels.now)) (encode_image x) a.out.now _ _
    (sym (c.in_ok-write_fault.ensures.value ∙ image-room a.header a.pixels.now (length a.out.now)))
    (sym (length-image x))
    (c.put.ensures ∙ ap (λ (l : List ℕ). sets l 72 a.pixels.now) c.put_header.ensures ∙ stores-image x a.out.now)

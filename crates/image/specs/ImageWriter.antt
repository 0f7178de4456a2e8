-- The writer of a header and pixels into a buffer: the rule's fault, then 20.
use Rattle.std.specs.Prelude.{ℕ, List, length}
use Rattle.fields.specs.Writers.{written_by, out_by, WriterPromise}
use Rattle.fields.specs.Answer.{Written}
use Rattle.image.specs.declared.ImageHeader.{ImageHeader}
use Rattle.image.specs.Image.{image_of_parts, encode_image}
use Rattle.image.specs.ImageReader.{rule_fault}

-- its answer for a buffer of this length
abbrev pub image_written : ImageHeader → List ℕ → ℕ → Written
image_written h p room = written_by (rule_fault h (length p)) (encode_image (image_of_parts h p)) room

-- the buffer that it leaves
abbrev pub image_out : ImageHeader → List ℕ → List ℕ → List ℕ
image_out h p out = out_by (rule_fault h (length p)) (encode_image (image_of_parts h p)) out

-- what it promises of its answer and of the buffer left
abbrev pub ImagePromise : ImageHeader → List ℕ → List ℕ → Written → List ℕ → Type 0
ImagePromise h p out answer left = WriterPromise (rule_fault h (length p)) (encode_image (image_of_parts h p)) out answer left

-- What is proved of IMAGE.
use Rattle.std.specs.Prelude.{ℕ, ◌+◌, ◌≤◌, ◌≡◌, List, [], ◌++◌, length, take, drop}
use Rattle.fields.specs.Bytes.{Bytes}
use Rattle.fields.specs.Formats.{TwoWay}
use Rattle.fields.specs.Answer.{Written, Wrote, written_number}
use Rattle.fields.specs.Writers.{writer_fault}
use Rattle.image.specs.declared.ImageHeader.{ImageHeader}
use Rattle.image.specs.Image.{Image, image_of_parts, encode_image, HeaderFits, WellImage}
use Rattle.image.specs.ImageReader.{image_fault, no_header, image_of, pixels_of}
use Rattle.image.specs.ImageWriter.{image_written, image_out, ImagePromise}

pub record ImageTheorems : Type 0 where
  -- accepted bytes are those of some well formed image, those of a well formed image are accepted, and they are no other's; else they are 9
  pub two_way : TwoWay WellImage encode_image image_fault (λ n. n ≡ 9)
  -- the reader's answer carries the check's number, for any bytes
  pub answered : (c : List ℕ) → (image_of c).number ≡ image_fault c
  -- the reader hands out that image
  pub header_read : (x : Image) → WellImage x → image_of (encode_image x) ≡ record { number = 0; header = x.header }
  pub pixels_read : (x : Image) → WellImage x → pixels_of (encode_image x) ≡ x.pixels
  -- a refused content hands out no header and no pixels
  pub no-header : (c : List ℕ) → (image_fault c ≡ 0 → ⊥) → image_of c ≡ record { number = image_fault c; header = no_header }
  pub no_pixels : (c : List ℕ) → (image_fault c ≡ 0 → ⊥) → pixels_of c ≡ []
  -- the writer has 72 bytes and the pixels to write
  pub width : (x : Image) → length (encode_image x) ≡ 72 + length x.pixels
  -- given what was read and room, it writes the content back, and keeps the bytes beyond
  pub answered_back : (c : List ℕ) (room : ℕ) → image_fault c ≡ 0 → length c ≤ room
      → image_written (image_of c).header (pixels_of c) room ≡ Wrote (length c)
  pub written_back : (c out : List ℕ) → Bytes c → image_fault c ≡ 0 → length c ≤ length out
      → image_out (image_of c).header (pixels_of c) out ≡ c ++ drop (length c) out
  -- its number is the reader's for the bytes that it would write, then 20
  pub number : (h : ImageHeader) (p : List ℕ) (room : ℕ) → HeaderFits h
      → written_number (image_written h p room) ≡ writer_fault (image_fault (encode_image (image_of_parts h p))) (encode_image (image_of_parts h p)) room
  -- what is promised of the writer is this answer and this buffer
  pub promised : (h : ImageHeader) (p out left : List ℕ) (answer : Written) → ImagePromise h p out answer left
      → (answer ≡ image_written h p (length out)) × (left ≡ image_out h p out)
  -- a refusal leaves the buffer as it was
  pub untouched : (h : ImageHeader) (p out : List ℕ) → (written_number (image_written h p (length out)) ≡ 0 → ⊥) → image_out h p out ≡ out
  -- what it wrote reads back as given
  pub header_back : (h : ImageHeader) (p out : List ℕ) → HeaderFits h → written_number (image_written h p (length out)) ≡ 0
      → image_of (take (72 + length p) (image_out h p out)) ≡ record { number = 0; header = h }
  pub pixels_back : (h : ImageHeader) (p out : List ℕ) → HeaderFits h → written_number (image_written h p (length out)) ≡ 0
      → pixels_of (take (72 + length p) (image_out h p out)) ≡ p

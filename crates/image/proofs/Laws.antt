-- The laws of IMAGE: accepted exactly the bytes of well formed images, of one each; read as itself; written back.
use Prim.Native.Nat.{ℕ, ◌+◌, ◌-◌, ◌≤◌}
use mathlib.Core.Path.{◌≡◌, refl, sym, ap, ap₂, ◌∙◌}
use mathlib.Core.Logic.{inl, inr}
use mathlib.Core.Bool.{Bool, true, false, cond, false≢true}
use mathlib.Core.List.{List, [], ◌++◌}
use native.Mathlib.Omega.{arith}
use lib.Dec.{leb}
use lib.ListN.{length, take, drop, length-drop}
use borrow.Author.Tests.{leb-true, le-leb, eq-eqb, ne_eqb}
use Rattle.fields.specs.Bytes.{Bytes}
use Rattle.fields.specs.Checks.{or_else}
use Rattle.fields.specs.Formats.{TwoWay}
use Rattle.std.specs.Prelude.{Result, Ok, Err, IsErr}
use Rattle.fields.specs.declared.fault.Fault.{Fault}
use Rattle.fields.specs.Fault.{number_of}
use Rattle.fields.proofs.Laws.Answer.{fault_some}
use Rattle.fields.specs.Answer.{Wrote, written_number, room_fault}
use Rattle.fields.specs.Writers.{writer_fault, WriterTheorems}
use Rattle.fields.proofs.Laws.Bytes.{bytes_drop}
use Rattle.fields.proofs.Laws.Checks.{cond-pass, cond-refused}
use Rattle.fields.proofs.Laws.Formats.{two_way}
use Rattle.fields.proofs.Laws.Tests.{by_zero, cond_yes}
use Rattle.fields.proofs.Laws.Writers.{writer-passed, out-front, writer-theorems}
use Rattle.image.specs.declared.ImageHeader.{ImageHeader}
use Rattle.image.specs.Image.{Image, image_of_parts, encode_image, HeaderFits, WellImage}
use Rattle.image.specs.ImageReader.{ImageRead, image_read, header_ok, rule_fault, header_of, image_fault, no_header, image_of, pixels_of}
use Rattle.image.specs.ImageWriter.{image_written, image_out}
use Rattle.image.specs.ImageTheorems.{ImageTheorems}
use Rattle.image.proofs.Header.{length-image, pixels-front, encode-parts, header-fits, header-front}
use Rattle.image.proofs.Rule.{rule-holds, rule-passes, rule-kept}

-- ---- the check

-- what the reader's number is for the bytes of a header and pixels
fault-encoded : (x : Image) → HeaderFits x.header → image_fault (encode_image x) ≡ rule_fault x.header (length x.pixels)
unfolding image_fault
fault-encoded x f =
    let n : length (encode_image x) ≡ 72 + length x.pixels = length-image x in
    let left : length (encode_image x) - 72 ≡ length x.pixels = omega (arith, n) in
    cond_yes (leb 72 (length (encode_image x))) _ _ (le-leb 72 (length (encode_image x)) (omega (arith, n))) ∙ ap₂ rule_fault (header-front x f) left

-- an accepted content has a header that keeps the rule
fault-none : (c : List ℕ) → image_fault c ≡ 0 → (72 ≤ length c) × (rule_fault (header_of c) (length c - 72) ≡ 0)
unfolding image_fault
fault-none c h =
    let k = cond-pass (leb 72 (length c)) 8 (rule_fault (header_of c) (length c - 72)) h in
    (leb-true 72 (length c) k.0, k.1)

-- ---- both ways

-- a content that is refused is 9, too short or not
number-refused : (c : List ℕ) → (image_fault c ≡ 0 → ⊥) → image_fault c ≡ 9
unfolding image_fault rule_fault
number-refused c h = go (leb 72 (length c)) (header_ok (header_of c) (length c - 72)) h
  where
    go : (t u : Bool) → (◌≡◌ {A = ℕ} (cond t (cond u 0 9) 9) 0 → ⊥) → ◌≡◌ {A = ℕ} (cond t (cond u 0 9) 9) 9
    go true u n = cond-refused u _ n
    go false u n = refl

well-read : (c : List ℕ) → Bytes c → image_fault c ≡ 0 → WellImage (image_of_parts (header_of c) (drop 72 c))
unfolding rule_fault
well-read c b h =
    let ok = cond-pass (header_ok (header_of c) (length (drop 72 c))) 8 0 (ap (rule_fault (header_of c)) (length-drop 72 c) ∙ (fault-none c h).1) in
    record { fits = header-fits c b; rule = rule-holds (header_of c) (length (drop 72 c)) ok.0; bytes = bytes_drop 72 c b }

image-well : (x : Image) → WellImage x → image_fault (encode_image x) ≡ 0
image-well x w =
    fault-encoded x w.fits ∙ rule-kept x.header (length x.pixels) (rule-passes x.header (length x.pixels) w.rule)

pub image-format : TwoWay WellImage encode_image image_fault (λ n. n ≡ 9)
image-format =
    two_way WellImage encode_image image_fault (λ n. n ≡ 9) (λ c. image_of_parts (header_of c) (drop 72 c))
    (record {
      well = well-read;
      back = λ c b h. encode-parts c b (fault-none c h).0;
      accepts = image-well;
      decoded = λ x w. ap₂ image_of_parts (header-front x w.fits) (pixels-front x);
      numbers = λ c. by_zero (image_fault c) inl (λ n. inr (number-refused c n));
    })

-- ---- the reader

pub read_kept : (c : List ℕ) → image_fault c ≡ 0 → image_of c ≡ record { number = image_fault c; header = header_of c }
unfolding image_of
read_kept c h =
    ap {B = ImageRead} (λ (t : Bool). record { number = image_fault c; header = cond t (header_of c) no_header }) (eq-eqb (image_fault c) 0 h)

pub read-refused : (c : List ℕ) → (image_fault c ≡ 0 → ⊥) → image_of c ≡ record { number = image_fault c; header = no_header }
unfolding image_of
read-refused c h =
    ap {B = ImageRead} (λ (t : Bool). record { number = image_fault c; header = cond t (header_of c) no_header }) (ne_eqb (image_fault c) 0 h)

pub read-accepted : (c : List ℕ) → image_fault c ≡ 0 → image_of c ≡ record { number = 0; header = header_of c }
read-accepted c h = read_kept c h ∙ ap {B = ImageRead} (λ (n : ℕ). record { number = n; header = header_of c }) h

pub pixels-accepted : (c : List ℕ) → image_fault c ≡ 0 → pixels_of c ≡ drop 72 c
unfolding pixels_of
pixels-accepted c h = ap (λ (t : Bool). cond t (drop 72 c) []) (eq-eqb (image_fault c) 0 h)

pub pixels-refused : (c : List ℕ) → (image_fault c ≡ 0 → ⊥) → pixels_of c ≡ []
unfolding pixels_of
pixels-refused c h = ap (λ (t : Bool). cond t (drop 72 c) []) (ne_eqb (image_fault c) 0 h)

pub refused-image : (c : List ℕ) (r : Result ImageHeader Fault) → IsErr r → number_of r ≡ image_fault c → image_read r ≡ image_of c
refused-image c (Ok h) e n = absurd (false≢true e)
refused-image c (Err f) e n =
    ap {B = ImageRead} (λ (k : ℕ). record { number = k; header = no_header }) n ∙ sym (read-refused c (λ z. fault_some f (n ∙ z)))

-- bytes of an image, if they are accepted, are read as that image
read-encoded : (x : Image) → HeaderFits x.header → image_fault (encode_image x) ≡ 0 → image_of (encode_image x) ≡ record { number = 0; header = x.header }
read-encoded x f h =
    read-accepted (encode_image x) h ∙ ap {B = ImageRead} (λ (k : ImageHeader). record { number = 0; header = k }) (header-front x f)

pixels-encoded : (x : Image) → image_fault (encode_image x) ≡ 0 → pixels_of (encode_image x) ≡ x.pixels
pixels-encoded x h = pixels-accepted (encode_image x) h ∙ pixels-front x

-- ---- the writer

-- its checks as the code makes them
pub image-room : (h : ImageHeader) (p : List ℕ) (room : ℕ)
    → or_else (rule_fault h (length p)) (room_fault (72 + length p) room) ≡ writer_fault (rule_fault h (length p)) (encode_image (image_of_parts h p)) room
image-room h p room = ap (λ (n : ℕ). or_else (rule_fault h (length p)) (room_fault n room)) (sym (length-image (image_of_parts h p)))

-- given what was read
length-read : (c : List ℕ) → image_fault c ≡ 0 → length (encode_image (image_of_parts (image_of c).header (pixels_of c))) ≡ length c
length-read c h =
    let n : length (pixels_of c) ≡ length c - 72 = ap length (pixels-accepted c h) ∙ length-drop 72 c in
    omega (arith, length-image (image_of_parts (image_of c).header (pixels_of c)), n, (fault-none c h).0)

rule-read : (c : List ℕ) → image_fault c ≡ 0 → rule_fault (image_of c).header (length (pixels_of c)) ≡ 0
rule-read c h =
    ap₂ rule_fault (ap (λ (r : ImageRead). r.header) (read-accepted c h)) (ap length (pixels-accepted c h) ∙ length-drop 72 c) ∙ (fault-none c h).1

encode-read : (c : List ℕ) → Bytes c → image_fault c ≡ 0 → encode_image (image_of_parts (image_of c).header (pixels_of c)) ≡ c
encode-read c b h =
    ap₂ (λ (k : ImageHeader) (p : List ℕ). encode_image (image_of_parts k p)) (ap (λ (r : ImageRead). r.header) (read-accepted c h)) (pixels-accepted c h)
    ∙ encode-parts c b (fault-none c h).0

module _ (h : ImageHeader) (p : List ℕ) where
  abbrev written : WriterTheorems (rule_fault h (length p)) (encode_image (image_of_parts h p))
  written = writer-theorems (rule_fault h (length p)) (encode_image (image_of_parts h p))

  -- what it wrote is accepted
  taken : (out : List ℕ) → HeaderFits h → written_number (image_written h p (length out)) ≡ 0
      → (take (72 + length p) (image_out h p out) ≡ encode_image (image_of_parts h p)) × (image_fault (encode_image (image_of_parts h p)) ≡ 0)
  taken out f e =
      let z = sym (written.number (length out)) ∙ e in (
        out-front (rule_fault h (length p)) (encode_image (image_of_parts h p)) out (72 + length p) (length-image (image_of_parts h p)) z,
        fault-encoded (image_of_parts h p) f ∙ (writer-passed (rule_fault h (length p)) (encode_image (image_of_parts h p)) (length out) z).0,
      )

answered : (c : List ℕ) → (image_of c).number ≡ image_fault c
unfolding image_of
answered c = refl

-- ---- the laws, as they are stated

pub image-theorems : ImageTheorems
image-theorems =
    record {
      two_way = image-format;
      answered = answered;
      header_read = λ x w. read-encoded x w.fits (image-well x w);
      pixels_read = λ x w. pixels-encoded x (image-well x w);
      no-header = read-refused;
      no_pixels = pixels-refused;
      width = length-image;
      answered_back = λ c room h k.
          (written (image_of c).header (pixels_of c)).wrote room (rule-read c h) (omega (arith, length-read c h, k)) ∙ ap Wrote (length-read c h);
      written_back = λ c out b h k.
          (written (image_of c).header (pixels_of c)).buffer out (rule-read c h) (omega (arith, length-read c h, k))
          ∙ ap (λ (s : List ℕ). s ++ drop (length s) out) (encode-read c b h);
      number = λ h p room f.
          (written h p).number room ∙ ap (λ (n : ℕ). writer_fault n (encode_image (image_of_parts h p)) room) (sym (fault-encoded (image_of_parts h p) f));
      promised = λ h p out left answer k. (k.written, k.buffer);
      untouched = λ h p out. (written h p).untouched out;
      header_back = λ h p out f e. ap image_of (taken h p out f e).0 ∙ read-encoded (image_of_parts h p) f (taken h p out f e).1;
      pixels_back = λ h p out f e. ap pixels_of (taken h p out f e).0 ∙ pixels-encoded (image_of_parts h p) (taken h p out f e).1;
    }

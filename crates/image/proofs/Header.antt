-- The 72 bytes of a header, both ways.
use Prim.Native.Nat.{ℕ, ◌+◌, ◌≤◌}
use mathlib.Core.Path.{◌≡◌, refl, sym, ap, ◌∙◌}
use mathlib.Core.List.{List, [], ◌∷◌, ◌++◌, map}
use native.Mathlib.Nat.{zero-add}
use lib.ListN.{length, get_or, take, drop, length-append, take-append-drop}
use lib.Seq.{sets, drop_at}
use Rattle.fields.specs.Bytes.{Bytes}
use Rattle.fields.specs.Numbers.{be_val}
use Rattle.fields.specs.Layout.{join, cut, Widths, stores, numbers_at, number_fields, NumbersFit}
use Rattle.fields.proofs.Laws.Numbers.{be_at-lt}
use Rattle.fields.proofs.Laws.Lists.{three_back}
use Rattle.fields.proofs.Laws.Layout.{length-join, join-cut, cut-join, widths-numbers, numbers-back, numbers-front}
use Rattle.fields.proofs.Laws.Stores.{sets-append, stores-join}
use Rattle.image.specs.declared.ImageHeader.{ImageHeader}
use Rattle.image.specs.Image.{Image, three, header_numbers, header_widths, HeaderFits, encode_image, image_of_parts}
use Rattle.image.specs.ImageReader.{header_of}

abbrev pub header_bytes : ImageHeader → List ℕ
header_bytes h = join (number_fields header_widths (header_numbers h))

-- the numbers that are read fit their widths
numbers_fit : (at : ℕ) (ws s : List ℕ) → Bytes s → NumbersFit ws (numbers_at at ws s)
numbers_fit at [] s b = tt
numbers_fit at (w ∷ ws) s b = (be_at-lt w at s b, numbers_fit (at + w) ws s b)

-- ---- a header's fields

pub header-widths : (h : ImageHeader) → Widths (number_fields header_widths (header_numbers h)) header_widths
header-widths h = widths-numbers header_widths (header_numbers h) refl

pub length-header : (h : ImageHeader) → length (header_bytes h) ≡ 72
length-header h = length-join (number_fields header_widths (header_numbers h)) header_widths (header-widths h)

pub length-image : (x : Image) → length (encode_image x) ≡ 72 + length x.pixels
unfolding encode_image
length-image x = length-append (header_bytes x.header) x.pixels ∙ ap (λ (n : ℕ). n + length x.pixels) (length-header x.header)

pub pixels-front : (x : Image) → drop 72 (encode_image x) ≡ x.pixels
unfolding encode_image
pixels-front x = drop_at (header_bytes x.header) x.pixels 72 (length-header x.header)

-- the stores of the fields and then of the pixels are one store
pub stores-image : (x : Image) (out : List ℕ)
    → sets (stores out 0 (number_fields header_widths (header_numbers x.header)) header_widths) 72 x.pixels ≡ sets out 0 (encode_image x)
unfolding encode_image
stores-image x out =
    ap (λ (l : List ℕ). sets l 72 x.pixels) (stores-join out 0 (number_fields header_widths (header_numbers x.header)) header_widths (header-widths x.header))
    ∙ ap (λ (n : ℕ). sets (sets out 0 (header_bytes x.header)) n x.pixels) (sym (zero-add (length (header_bytes x.header)) ∙ length-header x.header))
    ∙ sym (sets-append out 0 (header_bytes x.header) x.pixels)

-- ---- what was read is what stands there, and its numbers fit

header_back : (c : List ℕ) → Bytes c → 72 ≤ length c → header_bytes (header_of c) ≡ take 72 c
unfolding header_of
header_back c b h = ap join (numbers-back 0 header_widths c b h) ∙ join-cut 0 header_widths c

pub encode-parts : (c : List ℕ) → Bytes c → 72 ≤ length c → encode_image (image_of_parts (header_of c) (drop 72 c)) ≡ c
unfolding encode_image
encode-parts c b h = ap (λ (s : List ℕ). s ++ drop 72 c) (header_back c b h) ∙ take-append-drop 72 c

pub header-fits : (c : List ℕ) → Bytes c → HeaderFits (header_of c)
unfolding header_of
header-fits c b =
    record { numbers = numbers_fit 0 header_widths c b; arrays = (refl, (refl, (refl, (refl, (refl, (refl, (refl, tt))))))) }

-- ---- what was written is read

-- the entries of one array among the numbers
array-from : {l m : List ℕ} (i : ℕ) (a : List ℕ) → l ≡ m → take 3 (drop i m) ≡ three a → length a ≡ 3 → take 3 (drop i l) ≡ a
array-from i a e k n = ap (λ (v : List ℕ). take 3 (drop i v)) e ∙ k ∙ three_back a n

header-from : (h : ImageHeader) (s : List ℕ) → HeaderFits h → numbers_at 0 header_widths s ≡ header_numbers h → header_of s ≡ h
unfolding header_of
header-from h s f e =
    λ i.
    record {
      version = ap (λ (v : List ℕ). get_or v 0 0) e i;
      components = ap (λ (v : List ℕ). get_or v 1 0) e i;
      scalar_type = ap (λ (v : List ℕ). get_or v 2 0) e i;
      endian = ap (λ (v : List ℕ). get_or v 3 0) e i;
      coordinate = ap (λ (v : List ℕ). get_or v 4 0) e i;
      size = array-from 5 h.size e refl f.arrays.0 i;
      axis_i = array-from 8 h.axis_i e refl f.arrays.1.0 i;
      axis_j = array-from 11 h.axis_j e refl f.arrays.1.1.0 i;
      axis_k = array-from 14 h.axis_k e refl f.arrays.1.1.1.0 i;
      centre = array-from 17 h.centre e refl f.arrays.1.1.1.1.0 i;
      offset = array-from 20 h.offset e refl f.arrays.1.1.1.1.1.0 i;
      sub_size = array-from 23 h.sub_size e refl f.arrays.1.1.1.1.1.1.0 i;
    }

pub header-front : (x : Image) → HeaderFits x.header → header_of (encode_image x) ≡ x.header
unfolding encode_image
header-front x f =
    let fields : cut 0 header_widths (header_bytes x.header ++ x.pixels) ≡ number_fields header_widths (header_numbers x.header) =
    cut-join [] (number_fields header_widths (header_numbers x.header)) header_widths x.pixels 0 refl (header-widths x.header) in
    header-from x.header (header_bytes x.header ++ x.pixels) f (ap (map be_val) fields ∙ numbers-front header_widths (header_numbers x.header) f.numbers)

-- The check of an IMAGE, and what its reader hands out.
use Rattle.std.specs.Prelude.{ℕ, Result, Ok, Err, ◌+◌, ◌-◌, ◌*◌, Bool, cond, ◌&&◌, ◌||◌, List, [], ◌∷◌, eqb, leb, length, get_or, drop}
use Rattle.fields.specs.Numbers.{be_at}
use Rattle.fields.specs.declared.fault.Fault.{Fault}
use Rattle.fields.specs.Fault.{fault_number}
use Rattle.image.specs.declared.ImageHeader.{ImageHeader}
use Rattle.image.specs.Image.{along, image_header_size}

-- ---- the check: 9 for any fault

-- the bytes of one scalar of each type from 0 on; 0 where there is no such type
abbrev pub scalar_sizes : List ℕ
scalar_sizes = 0 ∷ 0 ∷ 1 ∷ 1 ∷ 2 ∷ 2 ∷ 4 ∷ 4 ∷ 0 ∷ 0 ∷ 4 ∷ 8 ∷ []

unfoldable pub scalar_size : ℕ → ℕ
scalar_size s = get_or scalar_sizes s 0

abbrev pub one_or_two : ℕ → Bool
one_or_two n = eqb n 1 || eqb n 2

-- T, S, E and O
unfoldable pub kind_ok : ImageHeader → Bool
kind_ok h =
    leb 1 h.components
    && (leb 1 (scalar_size h.scalar_type)
    && (one_or_two h.endian
    && one_or_two h.coordinate))

-- RI, DI and DRI in each direction
unfoldable pub within : ℕ → ℕ → ℕ → Bool
within size offset sub = leb 1 size && (leb 1 sub && leb (offset + sub) size)

unfoldable pub direction_ok : ImageHeader → ℕ → Bool
direction_ok h d = within (along d h.size) (along d h.offset) (along d h.sub_size)

unfoldable pub directions_ok : ImageHeader → Bool
directions_ok h = direction_ok h 0 && (direction_ok h 1 && direction_ok h 2)

-- the number of bytes that the part's pixels have
unfoldable pub pixel_bytes : ImageHeader → ℕ
pixel_bytes h = h.components * scalar_size h.scalar_type * (along 0 h.sub_size * along 1 h.sub_size * along 2 h.sub_size)

-- do a header and n bytes of pixels keep the rule?
unfoldable pub header_ok : ImageHeader → ℕ → Bool
header_ok h n = kind_ok h && (directions_ok h && eqb n (pixel_bytes h))

unfoldable pub rule_fault : ImageHeader → ℕ → ℕ
rule_fault h n = cond (header_ok h n) 0 9

-- the header that stands in these bytes
unfoldable pub header_of : List ℕ → ImageHeader
header_of c =
    record {
      version = be_at 2 0 c;
      components = be_at 1 2 c;
      scalar_type = be_at 1 3 c;
      endian = be_at 1 4 c;
      coordinate = be_at 1 5 c;
      size = be_at 2 6 c ∷ be_at 2 8 c ∷ be_at 2 10 c ∷ [];
      axis_i = be_at 4 12 c ∷ be_at 4 16 c ∷ be_at 4 20 c ∷ [];
      axis_j = be_at 4 24 c ∷ be_at 4 28 c ∷ be_at 4 32 c ∷ [];
      axis_k = be_at 4 36 c ∷ be_at 4 40 c ∷ be_at 4 44 c ∷ [];
      centre = be_at 4 48 c ∷ be_at 4 52 c ∷ be_at 4 56 c ∷ [];
      offset = be_at 2 60 c ∷ be_at 2 62 c ∷ be_at 2 64 c ∷ [];
      sub_size = be_at 2 66 c ∷ be_at 2 68 c ∷ be_at 2 70 c ∷ [];
    }

unfoldable pub image_fault : List ℕ → ℕ
image_fault c = cond (leb image_header_size (length c)) (rule_fault (header_of c) (length c - image_header_size)) 9

-- ---- the reader: the number and the header, all zeros where refused; the pixels, none where refused

abbrev pub no_header : ImageHeader
no_header =
    record {
      version = 0;
      components = 0;
      scalar_type = 0;
      endian = 0;
      coordinate = 0;
      size = 0 ∷ 0 ∷ 0 ∷ [];
      axis_i = 0 ∷ 0 ∷ 0 ∷ [];
      axis_j = 0 ∷ 0 ∷ 0 ∷ [];
      axis_k = 0 ∷ 0 ∷ 0 ∷ [];
      centre = 0 ∷ 0 ∷ 0 ∷ [];
      offset = 0 ∷ 0 ∷ 0 ∷ [];
      sub_size = 0 ∷ 0 ∷ 0 ∷ [];
    }

pub record ImageRead : Type 0 where
  pub number : ℕ
  pub header : ImageHeader

-- the code's answer
abbrev pub image_read : Result ImageHeader Fault → ImageRead
image_read (Ok h) = record { number = 0; header = h }
image_read (Err f) = record { number = fault_number f; header = no_header }

unfoldable pub image_of : List ℕ → ImageRead
image_of c = record { number = image_fault c; header = cond (eqb (image_fault c) 0) (header_of c) no_header }

unfoldable pub pixels_of : List ℕ → List ℕ
pixels_of c = cond (eqb (image_fault c) 0) (drop image_header_size c) []

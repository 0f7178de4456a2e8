-- IMAGE (rules 4.5 to 4.8): a header of 72 bytes, then pixels. What an image is and how it is written as bytes, without any check.
use Rattle.std.specs.Prelude.{ℕ, ◌+◌, ◌*◌, ◌<◌, ◌≤◌, ◌≡◌, ◌⊎◌, List, [], ◌∷◌, ◌++◌, length, get_or}
use Rattle.fields.specs.Bytes.{Bytes}
use Rattle.fields.specs.Lists.{Each}
use Rattle.fields.specs.Layout.{join, number_fields, NumbersFit}
use Rattle.image.specs.declared.ImageHeader.{ImageHeader}

pub record Image : Type 0 where
  pub header : ImageHeader
  pub pixels : List ℕ

abbrev pub image_of_parts : ImageHeader → List ℕ → Image
image_of_parts h p = record { header = h; pixels = p }

-- the entry of an array for direction d: 0 is i, 1 is j, 2 is k
abbrev pub along : ℕ → List ℕ → ℕ
along d a = get_or a d 0

abbrev pub three : List ℕ → List ℕ
three a = along 0 a ∷ along 1 a ∷ along 2 a ∷ []

-- the fields of a header, in the order of rule 4.5
abbrev pub header_numbers : ImageHeader → List ℕ
header_numbers h =
    h.version
    ∷ h.components
    ∷ h.scalar_type
    ∷ h.endian
    ∷ h.coordinate
    ∷ (three h.size
    ++ (three h.axis_i
    ++ (three h.axis_j
    ++ (three h.axis_k
    ++ (three h.centre
    ++ (three h.offset
    ++ three h.sub_size))))))

-- their widths
abbrev pub header_widths : List ℕ
header_widths =
    2 ∷ 1 ∷ 1 ∷ 1 ∷ 1
    ∷ 2 ∷ 2 ∷ 2
    ∷ 4 ∷ 4 ∷ 4
    ∷ 4 ∷ 4 ∷ 4
    ∷ 4 ∷ 4 ∷ 4
    ∷ 4 ∷ 4 ∷ 4
    ∷ 2 ∷ 2 ∷ 2
    ∷ 2 ∷ 2 ∷ 2
    ∷ []

-- the bytes of a header: these widths together
abbrev pub image_header_size : ℕ
image_header_size = 72

unfoldable pub encode_image : Image → List ℕ
encode_image x = join (number_fields header_widths (header_numbers x.header)) ++ x.pixels

-- ---- what rules 4.5 to 4.8 ask of an image

-- each number fits its field, and each array has three entries: so is every value of the struct
pub record HeaderFits (h : ImageHeader) : Type 0 where
  pub numbers : NumbersFit header_widths (header_numbers h)
  pub arrays : Each (λ (a : List ℕ). length a ≡ 3) (h.size ∷ h.axis_i ∷ h.axis_j ∷ h.axis_k ∷ h.centre ∷ h.offset ∷ h.sub_size ∷ [])

-- S, and the bytes of one scalar (rule 4.6)
pub data ScalarType : ℕ → ℕ → Type 0 where
  int8 : ScalarType 2 1
  uint8 : ScalarType 3 1
  int16 : ScalarType 4 2
  uint16 : ScalarType 5 2
  int32 : ScalarType 6 4
  uint32 : ScalarType 7 4
  float32 : ScalarType 10 4
  float64 : ScalarType 11 8

-- one direction: the image and the part have a size, and the part lies inside the image (rule 4.7)
pub record Direction (size offset sub : ℕ) : Type 0 where
  pub some_pixels : 1 ≤ size
  pub some_sent : 1 ≤ sub
  pub inside : offset + sub ≤ size

-- a header and n bytes of pixels: there is a component, S is one of the eight types, E and O are 1 or 2, each direction keeps its rule,
-- and n is the number of bytes that the part's pixels have (rule 4.8)
pub record ImageRule (h : ImageHeader) (n : ℕ) : Type 0 where
  pub some_component : 1 ≤ h.components
  pub scalar_bytes : ℕ
  pub scalar : ScalarType h.scalar_type scalar_bytes
  pub endian : (h.endian ≡ 1) ⊎ (h.endian ≡ 2)
  pub coordinate : (h.coordinate ≡ 1) ⊎ (h.coordinate ≡ 2)
  pub directions : (d : ℕ) → d < 3 → Direction (along d h.size) (along d h.offset) (along d h.sub_size)
  pub filled : n ≡ h.components * scalar_bytes * (along 0 h.sub_size * along 1 h.sub_size * along 2 h.sub_size)

-- a well formed image
pub record WellImage (x : Image) : Type 0 where
  pub fits : HeaderFits x.header
  pub rule : ImageRule x.header (length x.pixels)
  pub bytes : Bytes x.pixels

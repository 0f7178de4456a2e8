-- The layout of a header, byte by byte; case P9; both sides of each limit of the rule; what a refusal hands out.
use Rattle.std.specs.Prelude.{ℕ, ◌≡◌, List, [], ◌∷◌, ◌++◌, map, length, take, drop, replicate}
use Rattle.std.proofs.lemmas.List.Edits.{sets}
use Rattle.fields.specs.Answer.{Wrote, Refused}
use Rattle.image.specs.declared.ImageHeader.{ImageHeader}
use Rattle.image.specs.Image.{encode_image, image_of_parts}
use Rattle.image.specs.ImageReader.{image_fault, image_of, pixels_of}
use Rattle.image.specs.ImageWriter.{image_written, image_out}

-- T 3, and the given S, RI, DI and DRI; DRJ is 2 and DRK 1
abbrev pub header : ℕ → ℕ → ℕ → ℕ → ImageHeader
header s ri di dri =
    record {
      version = 1;
      components = 3;
      scalar_type = s;
      endian = 1;
      coordinate = 2;
      size = ri ∷ 2 ∷ 1 ∷ [];
      axis_i = 0x3F800000 ∷ 0 ∷ 0 ∷ [];
      axis_j = 0 ∷ 0x3F800000 ∷ 0 ∷ [];
      axis_k = 0 ∷ 0 ∷ 0x3F800000 ∷ [];
      centre = 0x7FC00001 ∷ 0x80000000 ∷ 0 ∷ [];
      offset = di ∷ 0 ∷ 0 ∷ [];
      sub_size = dri ∷ 2 ∷ 1 ∷ [];
    }

-- the content of such a header and n bytes of pixels
abbrev pub content : ImageHeader → ℕ → List ℕ
content h n = encode_image (image_of_parts h (replicate n 7))

-- every field with a value of its own
abbrev pub distinct : ImageHeader
distinct =
    record {
      version = 0x0102;
      components = 3;
      scalar_type = 5;
      endian = 1;
      coordinate = 2;
      size = 0x0A0B ∷ 0x0C0D ∷ 0x0E0F ∷ [];
      axis_i = 0x21222324 ∷ 0x25262728 ∷ 0x292A2B2C ∷ [];
      axis_j = 0x2D2E2F30 ∷ 0x31323334 ∷ 0x35363738 ∷ [];
      axis_k = 0x393A3B3C ∷ 0x3D3E3F40 ∷ 0x41424344 ∷ [];
      centre = 0x45464748 ∷ 0x494A4B4C ∷ 0x4D4E4F50 ∷ [];
      offset = 0x0110 ∷ 0x0112 ∷ 0x0114 ∷ [];
      sub_size = 4 ∷ 6 ∷ 7 ∷ [];
    }

-- its bytes, in the order of rule 4.5: V, T, S, E and O; the image's size; the four vectors; where the part begins; the part's size
abbrev pub distinct_bytes : List ℕ
distinct_bytes =
    0x01 ∷ 0x02 ∷ 3 ∷ 5 ∷ 1 ∷ 2
    ∷ 0x0A ∷ 0x0B ∷ 0x0C ∷ 0x0D ∷ 0x0E ∷ 0x0F
    ∷ 0x21 ∷ 0x22 ∷ 0x23 ∷ 0x24 ∷ 0x25 ∷ 0x26 ∷ 0x27 ∷ 0x28 ∷ 0x29 ∷ 0x2A ∷ 0x2B ∷ 0x2C
    ∷ 0x2D ∷ 0x2E ∷ 0x2F ∷ 0x30 ∷ 0x31 ∷ 0x32 ∷ 0x33 ∷ 0x34 ∷ 0x35 ∷ 0x36 ∷ 0x37 ∷ 0x38
    ∷ 0x39 ∷ 0x3A ∷ 0x3B ∷ 0x3C ∷ 0x3D ∷ 0x3E ∷ 0x3F ∷ 0x40 ∷ 0x41 ∷ 0x42 ∷ 0x43 ∷ 0x44
    ∷ 0x45 ∷ 0x46 ∷ 0x47 ∷ 0x48 ∷ 0x49 ∷ 0x4A ∷ 0x4B ∷ 0x4C ∷ 0x4D ∷ 0x4E ∷ 0x4F ∷ 0x50
    ∷ 0x01 ∷ 0x10 ∷ 0x01 ∷ 0x12 ∷ 0x01 ∷ 0x14
    ∷ 0 ∷ 4 ∷ 0 ∷ 6 ∷ 0 ∷ 7
    ∷ []

-- T 1, S 2, E 1, O 1; RI RJ RK are 2 3 4, DI DJ DK 1 1 1 and DRI DRJ DRK 1 2 3: in each direction the part ends where the image does
abbrev pub bordered : List ℕ
bordered =
    0 ∷ 1 ∷ 1 ∷ 2 ∷ 1 ∷ 1
    ∷ 0 ∷ 2 ∷ 0 ∷ 3 ∷ 0 ∷ 4
    ∷ (replicate 48 0
    ++ (0 ∷ 1 ∷ 0 ∷ 1 ∷ 0 ∷ 1
    ∷ 0 ∷ 1 ∷ 0 ∷ 2 ∷ 0 ∷ 3
    ∷ replicate 6 7))

-- its number with these bytes at a place; and without pixels
abbrev pub changed : ℕ → List ℕ → ℕ
changed at bytes = image_fault (sets bordered at bytes)

abbrev pub emptied : ℕ → List ℕ → ℕ
emptied at bytes = image_fault (take 72 (sets bordered at bytes))

-- twelve scalars of type S in 0, 12, 24, 48 and 96 bytes
abbrev pub of_type : ℕ → List ℕ
of_type s = map (λ n. image_fault (content (header s 2 0 2) n)) (0 ∷ 12 ∷ 24 ∷ 48 ∷ 96 ∷ [])

pub record Examples : Type 0 where
  -- the order and the widths of the fields: written, and read before 3 x 2 x (4 x 6 x 7) bytes of pixels
  pub layout : encode_image (image_of_parts distinct []) ≡ distinct_bytes
  pub layout_read : image_of (distinct_bytes ++ replicate 1008 7) ≡ record { number = 0; header = distinct }
  -- P9: four pixels of three components, two bytes each
  pub bytes : length (content (header 5 2 0 2) 24) ≡ 96
  pub accepted : image_fault (content (header 5 2 0 2) 24) ≡ 0
  pub handed : image_of (content (header 5 2 0 2) 24) ≡ record { number = 0; header = header 5 2 0 2 }
  pub pixels : pixels_of (content (header 5 2 0 2) 24) ≡ replicate 24 7
  -- one byte of pixels less, one more
  pub short : image_fault (content (header 5 2 0 2) 23) ≡ 9
  pub long : image_fault (content (header 5 2 0 2) 25) ≡ 9
  -- a part of size 2 that begins at 1: inside an image of size 3, and not inside one of size 2
  pub inside : image_fault (content (header 5 3 1 2) 24) ≡ 0
  pub outside : image_fault (content (header 5 2 1 2) 24) ≡ 9
  -- DI + DRI is 2 in 16 bits
  pub far_outside : image_fault (content (header 5 3 0xFFFF 3) 36) ≡ 9
  -- a scalar of 8 bytes; no scalar type; no bytes at all
  pub float64 : image_fault (content (header 11 2 0 2) 96) ≡ 0
  pub no_type : image_fault (content (header 8 2 0 2) 48) ≡ 9
  pub nothing : image_fault [] ≡ 9
  -- rule 4.6: the types of 1, 2, 4 and 8 bytes, and no others
  pub types_of_1 : map of_type (2 ∷ 3 ∷ []) ≡ replicate 2 (9 ∷ 0 ∷ 9 ∷ 9 ∷ 9 ∷ [])
  pub types_of_2 : map of_type (4 ∷ 5 ∷ []) ≡ replicate 2 (9 ∷ 9 ∷ 0 ∷ 9 ∷ 9 ∷ [])
  pub types_of_4 : map of_type (6 ∷ 7 ∷ 10 ∷ []) ≡ replicate 3 (9 ∷ 9 ∷ 9 ∷ 0 ∷ 9 ∷ [])
  pub types_of_8 : of_type 11 ≡ 9 ∷ 9 ∷ 9 ∷ 9 ∷ 0 ∷ []
  pub no_types : map of_type (0 ∷ 1 ∷ 8 ∷ 9 ∷ 12 ∷ 255 ∷ []) ≡ replicate 6 (replicate 5 9)
  -- any V; E and O from 0 to 3; T, DRI, DRJ or DRK 0, so that no pixels are needed
  pub border : image_fault bordered ≡ 0
  pub any_version : changed 0 (0xFF ∷ 0xFF ∷ []) ∷ changed 0 (0 ∷ 0 ∷ []) ∷ [] ≡ 0 ∷ 0 ∷ []
  pub endians : map (λ e. changed 4 (e ∷ [])) (0 ∷ 1 ∷ 2 ∷ 3 ∷ []) ≡ 9 ∷ 0 ∷ 0 ∷ 9 ∷ []
  pub coordinates : map (λ o. changed 5 (o ∷ [])) (0 ∷ 1 ∷ 2 ∷ 3 ∷ []) ≡ 9 ∷ 0 ∷ 0 ∷ 9 ∷ []
  pub no_components : emptied 2 (0 ∷ []) ≡ 9
  pub none_sent : map (λ at. emptied at (0 ∷ 0 ∷ [])) (66 ∷ 68 ∷ 70 ∷ []) ≡ 9 ∷ 9 ∷ 9 ∷ []
  -- RI, RJ or RK 0, one less, one more, and 65,535
  pub no_sizes : map (λ at. changed at (0 ∷ 0 ∷ [])) (6 ∷ 8 ∷ 10 ∷ []) ≡ 9 ∷ 9 ∷ 9 ∷ []
  pub smaller : changed 6 (0 ∷ 1 ∷ []) ∷ changed 8 (0 ∷ 2 ∷ []) ∷ changed 10 (0 ∷ 3 ∷ []) ∷ [] ≡ 9 ∷ 9 ∷ 9 ∷ []
  pub larger : changed 6 (0 ∷ 3 ∷ []) ∷ changed 8 (0 ∷ 4 ∷ []) ∷ changed 10 (0 ∷ 5 ∷ []) ∷ [] ≡ 0 ∷ 0 ∷ 0 ∷ []
  pub largest : map (λ at. changed at (0xFF ∷ 0xFF ∷ [])) (6 ∷ 8 ∷ 10 ∷ []) ≡ 0 ∷ 0 ∷ 0 ∷ []
  -- DI, DJ or DK one more, and 0
  pub shifted : map (λ at. changed at (0 ∷ 2 ∷ [])) (60 ∷ 62 ∷ 64 ∷ []) ≡ 9 ∷ 9 ∷ 9 ∷ []
  pub at_front : map (λ at. changed at (0 ∷ 0 ∷ [])) (60 ∷ 62 ∷ 64 ∷ []) ≡ 0 ∷ 0 ∷ 0 ∷ []
  -- a refused content hands out zeros and no pixels
  pub zeros : image_of (take 77 bordered)
      ≡ record {
        number = 9;
        header =
            record {
              version = 0;
              components = 0;
              scalar_type = 0;
              endian = 0;
              coordinate = 0;
              size = 0 ∷ 0 ∷ 0 ∷ [];
              axis_i = 0 ∷ 0 ∷ 0 ∷ [];
              axis_j = 0 ∷ 0 ∷ 0 ∷ [];
              axis_k = 0 ∷ 0 ∷ 0 ∷ [];
              centre = 0 ∷ 0 ∷ 0 ∷ [];
              offset = 0 ∷ 0 ∷ 0 ∷ [];
              sub_size = 0 ∷ 0 ∷ 0 ∷ [];
            };
      }
  pub no_pixels : pixels_of (take 77 bordered) ≡ []
  -- the writer: into 96 bytes, into 95, and with RI 2
  pub wrote : image_written (header 5 3 1 2) (replicate 24 7) 96 ≡ Wrote 96
  pub no_room : image_written (header 5 3 1 2) (replicate 24 7) 95 ≡ Refused 20
  pub refused : image_written (header 5 2 1 2) (replicate 24 7) 95 ≡ Refused 9
  -- what it leaves in 98 bytes: the content, and the two bytes beyond; all as it was where it refuses
  pub written : take 96 (image_out (header 5 3 1 2) (replicate 24 7) (replicate 98 5)) ≡ content (header 5 3 1 2) 24
  pub kept : drop 96 (image_out (header 5 3 1 2) (replicate 24 7) (replicate 98 5)) ≡ 5 ∷ 5 ∷ []
  pub untouched : image_out (header 5 2 1 2) (replicate 24 7) (replicate 98 5) ≡ replicate 98 5

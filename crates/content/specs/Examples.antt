-- The types by their texts; contents byte by byte with their numbers; cases P7 and P8; the levels of BIND and the order of faults; the marks of
-- contents whose CTYPEs are not clean.
use Rattle.std.specs.Prelude.{ℕ, ◌-◌, ◌≡◌, true, false, List, [], ◌∷◌, ◌++◌, map, length, replicate}
use Prim.Native.Char.{code}
use Prim.Native.String.{String, [] as no_more, ◌∷◌ as ◌before◌}
use Rattle.fields.specs.Answer.{Checked}
use Rattle.bind_layout.specs.Children.{Child, encode_children}
use Rattle.content.specs.declared.Kind.TheVariants.{Transform, Position, Image, Bind, Other}
use Rattle.content.specs.Kinds.{transform_text, position_text, image_text, bind_text, kind_of}
use Rattle.content.specs.ContentCheck.{bind_fault, content_fault, content_checked, deepest}

-- the codes of a text in quotes
abbrev pub spelled : String → List ℕ
spelled no_more = []
spelled (c before s) = code c ∷ spelled s

-- a BIND without children
abbrev pub no_children : List ℕ
no_children = 0 ∷ 0 ∷ 0 ∷ 0 ∷ []

-- a BIND of one child with this type, name and content
abbrev pub one_child : List ℕ → List ℕ → List ℕ → List ℕ
one_child t n s = encode_children (record { type_text = t; rest = replicate (12 - length t) 0; name = n; content = s } ∷ [])

-- these bytes as the content of a BIND in a BIND
abbrev pub within : List ℕ → List ℕ
within s = one_child bind_text [] s

-- children without a name; TRANSFORM, IMAGE and BIND of no bytes are 8, 9 and 10
abbrev pub child : String → List ℕ → Child
child t s = record { type_text = spelled t; rest = replicate (12 - length (spelled t)) 0; name = []; content = s }

abbrev pub no_pose : Child
no_pose = child "TRANSFORM" []

abbrev pub no_image : Child
no_image = child "IMAGE" []

abbrev pub no_bind : Child
no_bind = child "BIND" []

-- byte by byte: a BIND of a TRANSFORM called A, whose CTYPE has these three bytes behind its text; and a BIND of a BIND called N, whose CTYPE
-- has these eight, with this content of 74 bytes
abbrev pub inner : List ℕ → List ℕ
inner r =
    0 ∷ 1
    ∷ 0x54 ∷ 0x52 ∷ 0x41 ∷ 0x4E ∷ 0x53 ∷ 0x46 ∷ 0x4F ∷ 0x52 ∷ 0x4D ∷ r ++ (0 ∷ 0 ∷ 0 ∷ 0 ∷ 0 ∷ 0 ∷ 0 ∷ 48
    ∷ 0 ∷ 2 ∷ 0x41 ∷ 0
    ∷ replicate 48 7)

abbrev pub outer : List ℕ → List ℕ → List ℕ
outer r s = 0 ∷ 1 ∷ 0x42 ∷ 0x49 ∷ 0x4E ∷ 0x44 ∷ r ++ (0 ∷ 0 ∷ 0 ∷ 0 ∷ 0 ∷ 0 ∷ 0 ∷ 74 ∷ 0 ∷ 2 ∷ 0x4E ∷ 0 ∷ s)

-- rests that are not clean
abbrev pub inner_rest : List ℕ
inner_rest = 0 ∷ 0xC8 ∷ 0xC8 ∷ []

abbrev pub outer_rest : List ℕ
outer_rest = 0 ∷ replicate 7 0xFF

-- a child of type "T" without a name and data, with a byte at its CTYPE's end
abbrev pub uncleared_child : Child
uncleared_child = record { type_text = spelled "T"; rest = replicate 10 0 ++ (1 ∷ []); name = []; content = [] }

-- number and mark of a BIND
abbrev pub checked_as : List ℕ → Checked
checked_as s = content_checked deepest bind_text s

-- the number of a content of this type, of n zeros
abbrev pub of_zeros : String → ℕ → ℕ
of_zeros t n = content_fault deepest (spelled t) (replicate n 0)

pub record Examples : Type 0 where
  -- rule 4.1: the exact texts, and no other
  pub transform-text : transform_text ≡ spelled "TRANSFORM"
  pub position-text : position_text ≡ spelled "POSITION"
  pub image-text : image_text ≡ spelled "IMAGE"
  pub bind-text : bind_text ≡ spelled "BIND"
  pub kinds : map (λ t. kind_of (spelled t)) ("TRANSFORM" ∷ "POSITION" ∷ "IMAGE" ∷ "BIND" ∷ []) ≡ Transform ∷ Position ∷ Image ∷ Bind ∷ []
  pub other_kinds : map (λ t. kind_of (spelled t)) ("GET_TRANSFORM" ∷ "transform" ∷ "TRANSFOR" ∷ "POSITIONS" ∷ "BINDX" ∷ "STATUS" ∷ "" ∷ [])
      ≡ replicate 7 Other
  -- each type by its own rule; any other by none
  pub transforms : map (of_zeros "TRANSFORM") (24 ∷ 47 ∷ 48 ∷ []) ≡ 8 ∷ 8 ∷ 0 ∷ []
  pub positions : map (of_zeros "POSITION") (12 ∷ 24 ∷ 28 ∷ 48 ∷ []) ≡ 0 ∷ 0 ∷ 0 ∷ 8 ∷ []
  pub images : map (of_zeros "IMAGE") (0 ∷ 71 ∷ 72 ∷ []) ≡ 9 ∷ 9 ∷ 9 ∷ []
  pub binds : map (of_zeros "BIND") (0 ∷ 3 ∷ 4 ∷ 5 ∷ []) ≡ 10 ∷ 10 ∷ 0 ∷ 10 ∷ []
  pub others : of_zeros "GET_TRANSFORM" 0 ∷ of_zeros "transform" 1 ∷ of_zeros "BINDX" 2 ∷ of_zeros "" 3 ∷ [] ≡ replicate 4 0
  -- the first child's fault counts, with all that it holds; a fault of the layout comes before them
  pub pose_first : bind_fault deepest (encode_children (no_pose ∷ no_image ∷ [])) ≡ 8
  pub image_first : bind_fault deepest (encode_children (no_image ∷ no_pose ∷ [])) ≡ 9
  pub bind_first : bind_fault deepest (encode_children (no_bind ∷ no_pose ∷ [])) ≡ 10
  pub nested_first : bind_fault deepest (encode_children (child "BIND" (encode_children (no_image ∷ [])) ∷ no_pose ∷ [])) ≡ 9
  pub nested_second : bind_fault deepest (encode_children (no_pose ∷ child "BIND" (encode_children (no_image ∷ [])) ∷ [])) ≡ 8
  pub layout_first : bind_fault deepest (encode_children (no_pose ∷ []) ++ (0 ∷ [])) ≡ 10
  -- P7, and P8: one child TRANSFORM named "A", named "AB"
  pub p7 : bind_fault deepest no_children ≡ 0
  pub p8_length : length (one_child transform_text (65 ∷ []) (replicate 48 0)) ≡ 74
  pub p8 : bind_fault deepest (one_child transform_text (65 ∷ []) (replicate 48 0)) ≡ 0
  pub p8_longer_length : length (one_child transform_text (65 ∷ 66 ∷ []) (replicate 48 0)) ≡ 76
  pub p8_longer : bind_fault deepest (one_child transform_text (65 ∷ 66 ∷ []) (replicate 48 0)) ≡ 0
  pub short_transform : bind_fault deepest (one_child transform_text (65 ∷ []) (replicate 47 0)) ≡ 8
  -- byte by byte: one child with type T, name N and the data 07
  pub bytes : one_child (84 ∷ []) (78 ∷ []) (7 ∷ [])
      ≡ 0 ∷ 1 ∷ 84 ∷ 0 ∷ 0 ∷ 0 ∷ 0 ∷ 0 ∷ 0 ∷ 0 ∷ 0 ∷ 0 ∷ 0 ∷ 0 ∷ 0 ∷ 0 ∷ 0 ∷ 0 ∷ 0 ∷ 0 ∷ 0 ∷ 1 ∷ 0 ∷ 2 ∷ 78 ∷ 0 ∷ 7 ∷ 0 ∷ []
  -- a BIND of level 4, one of level 5, and bytes that are no BIND's at these two levels
  pub level_4 : bind_fault deepest (within (within (within no_children))) ≡ 0
  pub level_5 : bind_fault deepest (within (within (within (within no_children)))) ≡ 11
  pub level_5_any_bytes : bind_fault deepest (within (within (within (within (1 ∷ []))))) ≡ 11
  pub level_4_layout : bind_fault deepest (within (within (within (1 ∷ [])))) ≡ 10
  -- a BIND at level 5 behind a faulty child, and before one
  pub level_5_second : bind_fault deepest (within (within (within (encode_children (no_pose ∷ no_bind ∷ []))))) ≡ 8
  pub level_5_first : bind_fault deepest (within (within (within (encode_children (no_bind ∷ no_pose ∷ []))))) ≡ 11
  -- all clean; the outer CTYPE not, the inner one not, both not
  pub marks : map checked_as
      (outer (replicate 8 0) (inner (replicate 3 0))
      ∷ outer outer_rest (inner (replicate 3 0))
      ∷ outer (replicate 8 0) (inner inner_rest)
      ∷ outer outer_rest (inner inner_rest)
      ∷ [])
      ≡ record { number = 0; clean = true } ∷ replicate 3 (record { number = 0; clean = false })
  -- at level 2, 3 and 4 of BINDs that are clean besides, and at level 5
  pub deep_marks : map checked_as
      (within (inner inner_rest)
      ∷ within (within (inner inner_rest))
      ∷ within (within (within (inner inner_rest)))
      ∷ within (within (within (inner (replicate 3 0))))
      ∷ within (within (within (within (inner inner_rest))))
      ∷ [])
      ≡ replicate 3 (record { number = 0; clean = false }) ++ (record { number = 0; clean = true } ∷ record { number = 11; clean = false } ∷ [])
  -- the first of two children alone, the second alone
  pub sibling_marks : map checked_as
      (encode_children (child "BIND" (inner inner_rest) ∷ child "BIND" (inner (replicate 3 0)) ∷ [])
      ∷ encode_children (child "BIND" (inner (replicate 3 0)) ∷ child "BIND" (inner inner_rest) ∷ [])
      ∷ [])
      ≡ replicate 2 (record { number = 0; clean = false })
  -- behind 256 children and in front of them: all clean; a CTYPE that is not, at this level and at the next
  pub many_marks : map (λ cs. checked_as (encode_children cs))
      ((replicate 256 (child "T" []) ++ (child "BIND" (inner (replicate 3 0)) ∷ []))
      ∷ (replicate 256 (child "T" []) ++ (uncleared_child ∷ []))
      ∷ (uncleared_child ∷ replicate 256 (child "T" []))
      ∷ (replicate 256 (child "T" []) ++ (child "BIND" (inner inner_rest) ∷ []))
      ∷ (child "BIND" (inner inner_rest) ∷ replicate 256 (child "T" []))
      ∷ [])
      ≡ record { number = 0; clean = true } ∷ replicate 4 (record { number = 0; clean = false })
  -- such bytes in a child of another type, and as a content of another type, have no texts
  pub opaque_marks : checked_as (encode_children (child "BINDX" (inner inner_rest) ∷ [])) ∷ content_checked deepest (spelled "BINDX") (inner inner_rest) ∷ []
      ≡ replicate 2 (record { number = 0; clean = true })
  -- the text alone says the type: BIND with a rest is judged as a BIND. A refusal is not clean
  pub text_alone : map checked_as (outer outer_rest (replicate 74 0) ∷ outer outer_rest (inner (0x80 ∷ 0 ∷ 0 ∷ [])) ∷ (no_children ++ (0 ∷ [])) ∷ [])
      ≡ replicate 3 (record { number = 10; clean = false })

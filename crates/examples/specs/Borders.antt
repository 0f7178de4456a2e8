-- The cases of rule 8.1 as one table, of the definitions that the contracts cite, those of messages in each layout.
use Rattle.std.specs.Prelude.{ℕ, ◌^◌, ◌<◌, ◌≤◌, ◌≡◌, List, [], ◌∷◌, ◌++◌, length, replicate}
use Rattle.fields.specs.Bytes.{Bytes}
use Rattle.fields.specs.Text.{Text}
use Rattle.fields.specs.Layout.{join}
use Rattle.crc64.specs.Crc.{crc_of}
use Rattle.image.specs.ImageReader.{image_fault}
use Rattle.image.specs.Examples as image
use Rattle.content.specs.Kinds.{transform_text}
use Rattle.content.specs.ContentCheck.{bind_fault, deepest}
use Rattle.content.specs.Examples.{one_child}
use Rattle.message.specs.declared.Layout.{Layout}
use Rattle.message.specs.declared.Layout.TheVariants.{New, Old}
use Rattle.message.specs.Message.{Message}
use Rattle.message.specs.MessageReader.{read_of, content_in}
use Rattle.message.specs.MessageReader as message
use Rattle.message.specs.Samples.{arm_message, arm_content}
use Rattle.message.specs.Examples.{of_version2, get_status_text, body12}
use Rattle.history.specs.Calls.{Call, link_up, look, green, grey, refused, shown}
use Rattle.history.specs.History.{value_for}
use Rattle.history.specs.BookExamples.{arm_bytes_calls}
use Rattle.panel.specs.Examples.{FromArm, arm_tile, arm_calls, looked}

-- ---- the inputs

-- a BIND of one TRANSFORM with this name
abbrev pub bind_of_transform : List ℕ → List ℕ
bind_of_transform name = one_child transform_text name (replicate 48 0)

-- an IMAGE of three components and scalars of two bytes, with these RI, DI and DRI, and pixels of 24 bytes
abbrev pub image_of_border : ℕ → ℕ → ℕ → List ℕ
image_of_border ri di dri = image.content (image.header 5 ri di dri) 24

-- P10's look, P11's two, and P12's link up, which names this layout
abbrev pub looks_and_link : Layout → List Call
looks_and_link o = look 0 1700 ∷ look 0 1701 ∷ look 0 1199 ∷ link_up o 1400 ∷ []

-- P10's calls, and those
abbrev pub calls_of_p12 : Layout → Layout → Message → List Call
calls_of_p12 l o m = arm_calls l m ++ looks_and_link o

-- CRC; the sizes and MSG_ID, and in the old layout the reserved word
abbrev pub status_numbers : Layout → List (List ℕ)
status_numbers New =
    (0x8B ∷ 0x30 ∷ 0x5F ∷ 0x2C ∷ 0xDC ∷ 0xAD ∷ 0x99 ∷ 0x82 ∷ [])
    ∷ (0 ∷ 12 ∷ 0 ∷ 0 ∷ [])
    ∷ (0 ∷ 0 ∷ 0 ∷ 0 ∷ [])
    ∷ (0x21 ∷ 0x22 ∷ 0x23 ∷ 0x24 ∷ [])
    ∷ []
status_numbers Old =
    (0x90 ∷ 0x36 ∷ 0xB7 ∷ 0xA4 ∷ 0xE7 ∷ 0xDF ∷ 0x49 ∷ 0xAF ∷ [])
    ∷ (0 ∷ 12 ∷ 0 ∷ 0 ∷ [])
    ∷ (0x21 ∷ 0x22 ∷ 0x23 ∷ 0x24 ∷ [])
    ∷ (0 ∷ 0 ∷ 0 ∷ 0 ∷ [])
    ∷ []

-- P5's message with the device name "Arm" and a MSG_ID: V, TYPE, DEVICE_NAME, TIME_STAMP, BODY_SIZE, and these
abbrev pub status_bytes : Layout → List ℕ
status_bytes l =
    join
    ((0 ∷ 2 ∷ [])
    ∷ (71 ∷ 69 ∷ 84 ∷ 95 ∷ 83 ∷ 84 ∷ 65 ∷ 84 ∷ 85 ∷ 83 ∷ 0 ∷ 0 ∷ [])
    ∷ (65 ∷ 114 ∷ 109 ∷ replicate 17 0)
    ∷ (1 ∷ 2 ∷ 3 ∷ 4 ∷ 5 ∷ 6 ∷ 7 ∷ 8 ∷ [])
    ∷ (0 ∷ 0 ∷ 0 ∷ 0 ∷ 0 ∷ 0 ∷ 0 ∷ 12 ∷ [])
    ∷ join (status_numbers l)
    ∷ [])

-- P6's with no texts, the stamp 0 and the body 01 00 .. 00
abbrev pub short_bytes : List ℕ
short_bytes =
    join
    ((0 ∷ 2 ∷ replicate 40 0)
    ∷ (0 ∷ 0 ∷ 0 ∷ 0 ∷ 0 ∷ 0 ∷ 0 ∷ 11 ∷ [])
    ∷ (0xD8 ∷ 0x4C ∷ 0x42 ∷ 0x38 ∷ 0x35 ∷ 0x03 ∷ 0xCF ∷ 0x94 ∷ [])
    ∷ (1 ∷ replicate 10 0)
    ∷ [])

-- ---- the table

pub record Borders : Type 0 where
  -- the CRC: of no byte, of 01, of 02
  pub p1 : crc_of [] ≡ 0
  pub p2 : crc_of (0x01 ∷ []) ≡ 0x42F0E1EBA9EA3693
  pub p3 : crc_of (0x02 ∷ []) ≡ 0x85E1C3D753D46D26
  -- any 57 bytes
  pub p4 : (l : Layout) (s : List ℕ) → length s ≡ 57 → read_of l s ≡ message.refused 1 0
  -- GET_STATUS in V 2 with a body of 12 bytes, for every device name, time stamp and MSG_ID
  pub p5 : (l : Layout) (name : List ℕ) (stamp id : ℕ) → Text name → length name ≤ 20 → stamp < 256 ^ 8 → id < 256 ^ 4
      → let s = of_version2 get_status_text name stamp (body12 l id) in
      ((read_of l s).number ≡ 0) × ((read_of l s).step ≡ 70) × (content_in s (read_of l s) ≡ [])
  pub p5_bytes : (l : Layout)
      → let s = status_bytes l in ((read_of l s).number ≡ 0) × ((read_of l s).step ≡ 70) × (content_in s (read_of l s) ≡ [])
  -- V 2, any body of 11 bytes with its CRC; the step leads past it
  pub p6 : (l : Layout) (type name : List ℕ) (stamp : ℕ) (body : List ℕ) → Text type → length type ≤ 12 → Text name → length name ≤ 20
      → stamp < 256 ^ 8 → Bytes body → length body ≡ 11 → read_of l (of_version2 type name stamp body) ≡ message.refused 6 69
  pub p6_bytes : (l : Layout) → read_of l short_bytes ≡ message.refused 6 69
  -- a BIND without children
  pub p7 : bind_fault deepest (0 ∷ 0 ∷ 0 ∷ 0 ∷ []) ≡ 0
  -- a BIND of one TRANSFORM, with the name A and with the name AB
  pub p8_a : (length (bind_of_transform (65 ∷ [])) ≡ 74) × (bind_fault deepest (bind_of_transform (65 ∷ [])) ≡ 0)
  pub p8_ab : (length (bind_of_transform (65 ∷ 66 ∷ [])) ≡ 76) × (bind_fault deepest (bind_of_transform (65 ∷ 66 ∷ [])) ≡ 0)
  -- an IMAGE of four pixels; with a part that begins at 1, which is inside a size of 3 and not inside a size of 2
  pub p9 : (length (image_of_border 2 0 2) ≡ 96) × (image_fault (image_of_border 2 0 2) ≡ 0)
  pub p9_inside : image_fault (image_of_border 3 1 2) ≡ 0
  pub p9_outside : image_fault (image_of_border 2 1 2) ≡ 9
  -- a tile for Arm with a hold time of 500, and any TRANSFORM message from Arm: looks at the ages 500 and 501, and one before the message
  pub p10 : (l : Layout) (m : Message) → FromArm l m → looked (arm_calls l m) 1700 ≡ shown green 500 (value_for m (arm_tile 500))
  pub p11 : (l : Layout) (m : Message) → FromArm l m → looked (arm_calls l m) 1701 ≡ shown grey 501 (value_for m (arm_tile 500))
  pub p11_earlier : (l : Layout) (m : Message) → FromArm l m → looked (arm_calls l m) 1199 ≡ refused 15
  -- after a new link, in whichever layout
  pub p12 : (l o : Layout) (m : Message) → FromArm l m → looked (calls_of_p12 l o m) 1400 ≡ shown grey 200 (value_for m (arm_tile 500))
  -- there is a TRANSFORM from Arm; the same of its bytes
  pub arm : (l : Layout) → FromArm l arm_message
  pub p10_bytes : looked arm_bytes_calls 1700 ≡ shown green 500 arm_content
  pub p11_bytes : looked arm_bytes_calls 1701 ≡ shown grey 501 arm_content
  pub p11_earlier_bytes : looked arm_bytes_calls 1199 ≡ refused 15
  pub p12_bytes : looked (arm_bytes_calls ++ looks_and_link New) 1400 ≡ shown grey 200 arm_content

-- The calls on a panel, with whatever bytes, clocks and numbers they carry; what the book notes of them; and what they answer.
use Rattle.std.specs.Prelude.{ℕ, ◌-◌, ◌≤◌, ◌≡◌, List, ◌++◌, length, take, replicate}
use Rattle.std.proofs.Math.Option.{Option, none, some}
use Rattle.fields.specs.Bytes.{Bytes}
use Rattle.pose.specs.Transform.{transform_size}
use Rattle.message.specs.declared.Layout.{Layout}

-- how many tiles there may be (check 18), and how many milliseconds a hold time may have (rule 7.3)
abbrev pub tile_limit : ℕ
tile_limit = 16

abbrev pub hold_limit : ℕ
hold_limit = 60000

-- how many bytes a value is handed out in: those of a TRANSFORM, the longest content of a tile (rule 7.7)
abbrev pub value_size : ℕ
value_size = transform_size

pub data Call : Type 0 where
  add : (type_text name : List ℕ) (hold_time : ℕ) → Call
  link_up : (layout : Layout) (clock : ℕ) → Call
  link_down : (clock : ℕ) → Call
  message : (clock : ℕ) (bytes : List ℕ) → Call
  look : (tile clock : ℕ) → Call

-- ---- what the book notes of a call that is not refused (rule 7.8)

-- a tile as the book has it. Its hold time is how many milliseconds old a message may be that makes it green (rules 1.7 and 7.3)
pub record Entry : Type 0 where
  pub type_text : List ℕ
  pub name : List ℕ
  pub hold_time : ℕ

-- whether the link is up, and then the layout that the link call named (rule 7.11); the clock (rule 7.6)
pub record Link : Type 0 where
  pub up : Option Layout
  pub clock : ℕ

-- the link with another clock
abbrev pub at_clock : ℕ → Link → Link
at_clock t k = record { up = k.up; clock = t }

-- a new tile; the link as it is from then on; a message, which counts; nothing
pub data Note : Type 0 where
  adding : Entry → Note
  linking : Link → Note
  receiving : (clock : ℕ) (bytes : List ℕ) → Note
  nothing : Note

abbrev pub note_of : Call → Note
note_of (add t n h) = adding (record { type_text = t; name = n; hold_time = h })
note_of (link_up l t) = linking (record { up = some l; clock = t })
note_of (link_down t) = linking (record { up = none; clock = t })
note_of (message t s) = receiving t s
note_of (look i t) = nothing

abbrev pub BytesIn : Note → Type 0
BytesIn (adding e) = Unit {0}
BytesIn (linking k) = Unit {0}
BytesIn (receiving t s) = Bytes s
BytesIn nothing = Unit {0}

-- what holds of every call that can be made: the bytes of a message are bytes
abbrev pub OfBytes : Call → Type 0
OfBytes c = BytesIn (note_of c)

-- ---- answers

-- the colours of a tile for which a message counted (rules 1.7 and 1.8)
pub data Colour : Type 0 where
  green : Colour
  grey : Colour

-- refused with a number; accepted, as a link call or a message that counts (rule 7.5); added, with the tile's number; and what a look shows:
-- no message yet, or a colour with the age and the value
pub data Answer : Type 0 where
  refused : (number : ℕ) → Answer
  accepted : Answer
  added : (tile : ℕ) → Answer
  empty : Answer
  shown : Colour → (age : ℕ) (value : List ℕ) → Answer

-- a value is handed out as so many bytes and a length: the bytes that are its own
abbrev pub value_bytes : List ℕ → ℕ → List ℕ
value_bytes bytes len = take len bytes

-- the length is that of its own bytes, which fit, and zeros follow them
pub record Padded (bytes : List ℕ) (len : ℕ) : Type 0 where
  pub count : length (value_bytes bytes len) ≡ len
  pub fits : len ≤ value_size
  pub zeros : bytes ≡ value_bytes bytes len ++ replicate (value_size - len) 0

-- the number of each answer (rule 5.1)
abbrev pub answer_number : Answer → ℕ
answer_number (refused n) = n
answer_number accepted = 0
answer_number (added i) = 0
answer_number empty = 0
answer_number (shown k a v) = 0

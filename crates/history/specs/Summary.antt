-- The book (rule 7.8): the tiles, the link and the clock that the calls so far amount to. It is computed from the calls and not from the
-- panel, and keeps neither values nor colours.
use Rattle.std.specs.Prelude.{ℕ, Bool, cond, ◌&&◌, ◌||◌, eqb, leb, ltb, length}
use mathlib.Core.List.{List, [], foldl}
use Rattle.std.proofs.Math.Option.{Option, none, some}
use Rattle.fields.specs.Bytes.{same}
use Rattle.fields.specs.Lists.{any_of}
use Rattle.fields.specs.Text.{is_text}
use Rattle.fields.specs.Checks.{or_else}
use Rattle.header.specs.Header.{name_size}
use Rattle.content.specs.Kinds.{transform_text, position_text}
use Rattle.content.specs.Tree.{type_text}
use Rattle.message.specs.declared.Layout.{Layout}
use Rattle.message.specs.Message.{Message}
use Rattle.history.specs.Calls.{tile_limit, hold_limit, Call, add, link_up, link_down, message, look, Entry, Link, at_clock, Note, adding, linking, receiving, nothing, note_of}
use Rattle.history.specs.Places.{place_at, passes, is_there, filled, count_of}
use Rattle.history.specs.Reading.{Reading, no_message, left_over, one_message, Reader}

-- the book. A tile's number is its place
pub record Summary : Type 0 where
  pub tiles : List (Option Entry)
  pub link : Link

abbrev pub fresh_summary : Summary
fresh_summary = record { tiles = []; link = record { up = none; clock = 0 } }

-- ---- tiles

-- the tile under a number
abbrev pub tile_at : Summary → ℕ → Option Entry
tile_at b i = place_at b.tiles i

-- has the tile this type and name?
abbrev pub is_of : List ℕ → List ℕ → Entry → Bool
is_of t n e = same e.type_text t && same e.name n

-- does the message carry the tile's name and type (rule 7.9)?
abbrev pub carries : Message → Entry → Bool
carries m e = is_of (type_text m.content) m.device_name e

-- ---- the checks

-- a type that a tile may have (rule 7.3)
abbrev pub is_pose : List ℕ → Bool
is_pose t = same t transform_text || same t position_text

-- a name that a tile may have (rule 7.3)
abbrev pub is_tile_name : List ℕ → Bool
is_tile_name n = leb 1 (length n) && (leb (length n) name_size && is_text n)

-- a hold time that a tile may have (rule 7.3)
abbrev pub is_hold_time : ℕ → Bool
is_hold_time h = leb 1 h && leb h hold_limit

unfoldable pub is_allowed : List ℕ → List ℕ → ℕ → Bool
is_allowed t n h = is_pose t && (is_tile_name n && is_hold_time h)

-- check 16
unfoldable pub allowed_fault : List ℕ → List ℕ → ℕ → ℕ
allowed_fault t n h = cond (is_allowed t n h) 0 16

-- check 15: the clock given is less than this one
unfoldable pub clock_fault : ℕ → ℕ → ℕ
clock_fault clock given = cond (ltb given clock) 15 0

-- check 19: no tile has the number
abbrev pub tile_fault : Option Entry → ℕ
tile_fault o = cond (is_there o) 0 19

-- there are as many tiles as there may be
abbrev pub is_full : Summary → Bool
is_full b = leb tile_limit (count_of b.tiles)

-- is there a tile whose name and type the message carries (check 13)?
abbrev pub counts_on : List (Option Entry) → Message → Bool
counts_on ts m = any_of (passes (carries m)) ts

-- the reader's number, then 12, then 13 (rule 7.5)
abbrev pub reading_fault : List (Option Entry) → Reading → ℕ
reading_fault ts (no_message n) = n
reading_fault ts left_over = 12
reading_fault ts (one_message m) = cond (counts_on ts m) 0 13

-- ---- the book after a call that is not refused

abbrev pub noted : Summary → Note → Summary
noted b (adding e) = record { tiles = filled e b.tiles; link = b.link }
noted b (linking k) = record { tiles = b.tiles; link = k }
noted b (receiving t s) = record { tiles = b.tiles; link = at_clock t b.link }
noted b nothing = b

module _ (R : Reader) where
  -- what bytes are on a link: while it is down they are not read, which is check 14; else they are read in its layout (rule 7.11)
  abbrev pub read_on : Option Layout → List ℕ → Reading
  read_on none s = no_message 14
  read_on (some l) s = R.read l s

  -- the number that a call's checks on the book give (rules 7.3 to 7.7), where it is given whether all places for tiles are taken. 0 means
  -- that the call is accepted; a message then counts
  abbrev pub fault_by : Bool → Summary → Call → ℕ
  fault_by full b (add t n h) = or_else (allowed_fault t n h) (or_else (cond (any_of (passes (is_of t n)) b.tiles) 17 0) (cond full 18 0))
  fault_by full b (link_up l t) = clock_fault b.link.clock t
  fault_by full b (link_down t) = clock_fault b.link.clock t
  fault_by full b (message t s) =
      or_else (clock_fault b.link.clock t) (reading_fault b.tiles (read_on b.link.up s))
  fault_by full b (look i t) = or_else (tile_fault (tile_at b i)) (clock_fault b.link.clock t)

  -- they are taken where this book has as many tiles as there may be
  abbrev pub fault_on : Summary → Call → ℕ
  fault_on b c = fault_by (is_full b) b c

  -- a refused call changes nothing
  abbrev pub next : Summary → Call → Summary
  next b c = cond (eqb (fault_on b c) 0) (noted b (note_of c)) b

  unfoldable pub summary_of : List Call → Summary
  summary_of cs = foldl next fresh_summary cs

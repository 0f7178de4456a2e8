-- One room: its tiles with their last messages, as lists, with texts as they are. Its checks are the book's.
use Prim.Native.Nat.{ℕ, ◌-◌}
use mathlib.Core.Bool.{Bool, true, false, cond, ◌&&◌}
use mathlib.Core.List.{List, [], foldl}
use mathlib.Core.Option.{Option, none, some}
use lib.Dec.{eqb, leb}
use Rattle.message.specs.Message.{Message}
use Rattle.history.specs.Calls.{Call, add, link_up, link_down, message, look, Entry, Link, at_clock, Note, adding, linking, receiving, nothing, note_of, green, grey, Answer, refused, accepted, added, empty, shown}
use Rattle.history.specs.Places.{place_at, first_free, filled}
use Rattle.history.specs.Reading.{Reading, no_message, left_over, one_message, Reader}
use Rattle.history.specs.Summary.{Summary, carries, fault_on, read_on}
use Rattle.history.specs.History.{value_for}
use Rattle.history.proofs.Laws.Places.{changed_each}

-- the last message that counted for a tile
pub record Received : Type 0 where
  pub clock : ℕ
  pub value : List ℕ

-- a tile: its entry in the book; the last message that counted for it, if one did; whether that came since the last accepted link call
pub record RoomTile : Type 0 where
  pub entry : Entry
  pub last : Option Received
  pub since_link : Bool

pub record Room : Type 0 where
  pub tiles : List (Option RoomTile)
  pub link : Link

abbrev pub fresh_room : Room
fresh_room = record { tiles = []; link = record { up = none; clock = 0 } }

abbrev pub room_at : Room → ℕ → Option RoomTile
room_at m i = place_at m.tiles i

abbrev pub entry_of : RoomTile → Entry
entry_of x = x.entry

-- the book that the room stands for
abbrev pub book_of : Room → Summary
book_of m = record { tiles = changed_each entry_of m.tiles; link = m.link }

-- ---- what a call does to a tile

abbrev pub new_tile : Entry → RoomTile
new_tile e = record { entry = e; last = none; since_link = false }

abbrev pub relinked : RoomTile → RoomTile
relinked x = record { entry = x.entry; last = x.last; since_link = false }

abbrev pub counted_tile : ℕ → Message → RoomTile → RoomTile
counted_tile t m x = record { entry = x.entry; last = some (record { clock = t; value = value_for m x.entry }); since_link = true }

abbrev pub counted_by : ℕ → Reading → RoomTile → RoomTile
counted_by t (no_message n) x = x
counted_by t left_over x = x
counted_by t (one_message m) x = cond (carries m x.entry) (counted_tile t m x) x

-- ---- what a tile shows

abbrev pub shown_last : Bool → ℕ → ℕ → Option Received → Answer
shown_last since_link hold_time now none = empty
shown_last since_link hold_time now (some h) =
    shown (cond (since_link && leb (now - h.clock) hold_time) green grey) (now - h.clock) h.value

abbrev pub shown_by : Option RoomTile → ℕ → Answer
shown_by none now = empty
shown_by (some x) now = shown_last x.since_link x.entry.hold_time now x.last

-- ---- calls

module _ (R : Reader) where
  -- the room after a call that is not refused, by what the book notes of it
  abbrev pub changed : Room → Note → Room
  changed m (adding e) = record { tiles = filled (new_tile e) m.tiles; link = m.link }
  changed m (linking k) = record { tiles = changed_each relinked m.tiles; link = k }
  changed m (receiving t s) = record { tiles = changed_each (counted_by t (read_on R m.link.up s)) m.tiles; link = at_clock t m.link }
  changed m nothing = m

  -- what it answers
  abbrev pub answered : Room → Call → Answer
  answered m (add t n h) = added (first_free (book_of m).tiles)
  answered m (link_up l t) = accepted
  answered m (link_down t) = accepted
  answered m (message t s) = accepted
  answered m (look i now) = shown_by (room_at m i) now

  abbrev pub room_next : Room → Call → Room
  room_next m c = cond (eqb (fault_on R (book_of m) c) 0) (changed m (note_of c)) m

  abbrev pub room_answer : Room → Call → Answer
  room_answer m c = cond (eqb (fault_on R (book_of m) c) 0) (answered m c) (refused (fault_on R (book_of m) c))

  unfoldable pub room_after : List Call → Room
  room_after cs = foldl room_next fresh_room cs

-- The panel and a room hold the same, place by place.
use Prim.Native.Nat.{ℕ, zero, suc, ◌≤◌}
use mathlib.Core.Path.{◌≡◌, refl, ap, ap₂, sym, subst, ◌∙◌}
use mathlib.Core.Bool.{Bool, true, false, cond, ◌&&◌}
use mathlib.Core.List.{List, map}
use mathlib.Core.Option
use mathlib.Core.Option.{Option, none, some}
use lib.ListN.{length, get_or, replicate, get_or-map}
use Rattle.header.specs.Header.{WellTexts}
use Rattle.history.specs.Calls.{Entry}
use Rattle.history.specs.Calls as history
use Rattle.history.specs.Places.{place_at, passes, is_there}
use Rattle.history.specs.Summary.{is_of, is_allowed}
use Rattle.history.proofs.Laws.Places.{changed_each, changed-at}
use Rattle.room.proofs.Laws.Room.{Received, RoomTile, Room, fresh_room, entry_of}
use Rattle.panel.specs.declared.Value.{Value}
use Rattle.panel.specs.declared.Label.{Label}
use Rattle.panel.specs.declared.Link.{Link}
use Rattle.panel.specs.Records.{Tile, Panel}
use Rattle.panel.specs.Tiles.{value_of, label_of, free_tile, no_tile, is_tile}
use Rattle.panel.specs.Calls.{fresh_panel}
use Rattle.panel.proofs.Laws.Labels.{allowed, allowed-texts, same_label, label-says}

-- ---- a tile

-- the tile that was added
pub record EntryAgrees (u : Bool) (l : Label) (h : ℕ) (e : Entry) : Type 0 where
  pub used : u ≡ true
  pub label : l ≡ label_of e.type_text e.name
  pub hold : h ≡ e.hold_time
  pub allowed : is_allowed e.type_text e.name e.hold_time ≡ true

-- the last message that counted for it
pub record ReceivedAgrees (c : Bool) (t : ℕ) (v : Value) (h : Received) : Type 0 where
  pub counted : c ≡ true
  pub clock : t ≡ h.clock
  pub value : v ≡ value_of h.value
  pub short : length h.value ≤ 48

abbrev pub LastAgrees : Bool → ℕ → Value → Option Received → Type 0
LastAgrees counted clock value none = counted ≡ false
LastAgrees counted clock value (some h) = ReceivedAgrees counted clock value h

pub record Vacant (x : Tile) : Type 0 where
  pub used : x.used ≡ false
  pub counted : x.counted ≡ false

pub record Taken (x : Tile) (y : RoomTile) : Type 0 where
  pub entry : EntryAgrees x.used x.label x.hold_time y.entry
  pub last : LastAgrees x.counted x.clock x.value y.last
  pub since : x.since_link ≡ y.since_link

abbrev pub TileAgrees : Tile → Option RoomTile → Type 0
TileAgrees x none = Vacant x
TileAgrees x (some y) = Taken x y

pub place-used : (x : Tile) (o : Option RoomTile) → TileAgrees x o → x.used ≡ is_there (Option.map entry_of o)
place-used x none a = a.used
place-used x (some y) a = a.entry.used

pub place_is : (x : Tile) (o : Option RoomTile) (t n : List ℕ) → WellTexts t n → TileAgrees x o
    → is_tile (label_of t n) x ≡ passes (is_of t n) (Option.map entry_of o)
place_is x none t n w a = ap (λ (y : Bool). y && same_label x.label (label_of t n)) a.used
place_is x (some y) t n w a =
    let e = y.entry in
    ap₂ (λ (u : Bool) (k : Label). u && same_label k (label_of t n)) a.entry.used a.entry.label
    ∙ label-says t n e w (allowed-texts e.type_text e.name (allowed e.type_text e.name e.hold_time a.entry.allowed))

-- ---- the table

-- the link as a room has it: a layout where it is up
abbrev pub room_link : Link → history.Link
room_link k = record { up = cond k.up (some k.layout) none; clock = k.clock }

abbrev pub TilesAgree : List Tile → List (Option RoomTile) → Type 0
TilesAgree xs ps = (i : ℕ) → TileAgrees (get_or xs i no_tile) (place_at ps i)

pub record Agrees (p : Panel) (m : Room) : Type 0 where
  pub link : room_link p.link ≡ m.link
  pub size : length p.tiles ≡ 16
  pub places : TilesAgree p.tiles m.tiles

-- a change of every tile, on both sides
pub changed-agree : (f : Tile → Tile) (g : RoomTile → RoomTile) → f no_tile ≡ no_tile
    → ((x : Tile) (o : Option RoomTile) → TileAgrees x o → TileAgrees (f x) (Option.map g o))
    → (xs : List Tile) (ps : List (Option RoomTile)) → TilesAgree xs ps → TilesAgree (map f xs) (changed_each g ps)
changed-agree f g e h xs ps T i =
    subst (λ (x : Tile). TileAgrees x (place_at (changed_each g ps) i)) (sym (ap (get_or (map f xs) i) (sym e) ∙ get_or-map f xs i no_tile))
    (subst (TileAgrees (f (get_or xs i no_tile))) (sym (changed-at g ps i)) (h (get_or xs i no_tile) (place_at ps i) (T i)))

-- ---- nothing yet

free-at : (n i : ℕ) → TileAgrees (get_or (replicate n free_tile) i no_tile) none
free-at zero i = record { used = refl; counted = refl }
free-at (suc n) zero = record { used = refl; counted = refl }
free-at (suc n) (suc i) = free-at n i

pub fresh-agrees : Agrees fresh_panel fresh_room
fresh-agrees = record { link = refl; size = refl; places = free-at 16 }

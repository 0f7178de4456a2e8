-- A tile keeps the last message that counted for it.
use Prim.Native.Nat.{ℕ, ◌≤◌}
use mathlib.Core.Path.{◌≡◌, refl, sym, ◌∙◌}
use mathlib.Core.Logic.{⊎_elim}
use mathlib.Core.List.{List}
use mathlib.Core.Option.{Option, none, some, map}
use native.Mathlib.Omega.{arith}
use lib.ListN.{length}
use Rattle.message.specs.Message.{Message}
use Rattle.history.specs.Calls.{Call, Entry}
use Rattle.history.specs.Reading.{Reader}
use Rattle.history.specs.Summary.{summary_of}
use Rattle.history.specs.History.{value_for, CountsFor, Counted, NoneCounted}
use Rattle.history.proofs.Laws.Longer.{longer, same_received, counted-now, counted-cases, SameCounted}
use Rattle.history.proofs.Laws.Clocks.{known, clock-received}
use Rattle.room.proofs.Laws.Room.{Received, RoomTile, room_at, relinked, counted_tile, room_after}
use Rattle.room.proofs.Laws.Component.{Component, holds}

module _ (R : Reader) where
  -- h is what the last message that counted for tile i gives the tile e
  pub record LastReceived (cs : List Call) (i : ℕ) (e : Entry) (h : Received) : Type 0 where
    pub place : ℕ
    pub message : Message
    pub counted : Counted R cs i place h.clock message
    pub value : h.value ≡ value_for message e
    pub last : (j t : ℕ) (n : Message) → Counted R cs i j t n → (j ≤ place) × (t ≤ h.clock)

  abbrev pub Kept : List Call → ℕ → Entry → Option Received → Type 0
  Kept cs i e none = NoneCounted R cs i
  Kept cs i e (some h) = LastReceived cs i e h

  abbrev pub KeptBy : List Call → ℕ → Option RoomTile → Type 0
  KeptBy cs i none = Unit {0}
  KeptBy cs i (some x) = Kept cs i x.entry x.last

  module _ (cs : List Call) (c : Call) (i : ℕ) where
    -- where no message counts for the tile
    still : SameCounted R cs c i → (e : Entry) (l : Option Received) → Kept cs i e l → Kept (longer R cs c) i e l
    still S e none q = λ k t m d. q k t m (S.less k t m d)
    still S e (some h) d =
        record {
          place = d.place;
          message = d.message;
          counted = S.more d.place h.clock d.message d.counted;
          value = d.value;
          last = λ j t n q. d.last j t n (S.less j t n q);
        }

    tile-still : SameCounted R cs c i → (o : Option RoomTile) → KeptBy cs i o → KeptBy (longer R cs c) i o
    tile-still S none h = tt
    tile-still S (some x) h = still S x.entry x.last h

    tile-linked : SameCounted R cs c i → (o : Option RoomTile) → KeptBy cs i o → KeptBy (longer R cs c) i (map relinked o)
    tile-linked S none h = tt
    tile-linked S (some x) h = still S x.entry x.last h

    -- a message that counts for the tile is its last from now on
    tile-counted : (t : ℕ) (m : Message) (x : RoomTile) → CountsFor R (summary_of R cs) c i t m → KeptBy (longer R cs c) i (some (counted_tile t m x))
    tile-counted t m x d =
        record {
          place = length cs;
          message = m;
          counted = counted-now R cs c i t m d;
          value = refl;
          last = λ j u n q.
              ⊎_elim
              (λ y. (omega (arith, y.within), omega (arith, known R cs i j u n y, clock-received R (summary_of R cs) c i t m d)))
              (λ w.
              let y = same_received R (summary_of R cs).link.up (summary_of R cs).link.up t u d.bytes w.1.bytes m n refl (sym d.is ∙ w.1.is) d.read w.1.read in
              (omega (arith, w.0), omega (arith, y.0)))
              (counted-cases R cs c i j u n q);
        }

  abbrev last-message : Component R
  last-message =
      record {
        Holds = KeptBy;
        fresh = λ i. tt;
        other = λ cs c i o S l h. tile-still cs c i S o h;
        added = λ cs c i e n q h. q;
        linked = λ cs c i o S l h. tile-linked cs c i S o h;
        counted = λ cs c i t m x d h. tile-counted cs c i t m x d;
      }

  pub kept : (cs : List Call) (i : ℕ) → KeptBy cs i (room_at (room_after R cs) i)
  kept cs i = holds R last-message cs i

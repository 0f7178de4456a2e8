-- A tile knows whether its last message came since the last accepted link call.
use Prim.Native.Nat.{ℕ, ◌≤◌}
use mathlib.Core.Path.{◌≡◌, sym, subst}
use mathlib.Core.Logic.{⊎_elim}
use mathlib.Core.Bool.{Bool, true, false}
use mathlib.Core.List.{List}
use mathlib.Core.Option.{Option, none, some, map}
use native.Mathlib.Omega.{arith}
use lib.ListN.{length}
use Rattle.message.specs.Message.{Message}
use Rattle.history.specs.Calls.{Call}
use Rattle.history.specs.Reading.{Reader}
use Rattle.history.specs.Summary.{summary_of}
use Rattle.history.specs.History.{CountsFor, LinkCall, NoLinkAfter, Last}
use Rattle.history.proofs.Laws.Longer.{longer, counted-now, counted-cases, SameCounted, none_more, none-less, none-now, one-now}
use Rattle.room.proofs.Laws.Room.{RoomTile, room_at, relinked, counted_tile, room_after}
use Rattle.room.proofs.Laws.Component.{NotLinked, Component, holds}

module _ (R : Reader) where
  -- the mark says whether no accepted link call stands after place k
  abbrev pub Marks : List Call → ℕ → Bool → Type 0
  Marks cs k true = NoLinkAfter R cs k
  Marks cs k false = NoLinkAfter R cs k → ⊥

  abbrev pub MarksLast : List Call → ℕ → Bool → Type 0
  MarksLast cs i mark = (k t : ℕ) (m : Message) → Last R cs i k t m → Marks cs k mark

  abbrev pub MarkedBy : List Call → ℕ → Option RoomTile → Type 0
  MarkedBy cs i none = Unit {0}
  MarkedBy cs i (some x) = MarksLast cs i x.since_link

  module _ (cs : List Call) (c : Call) (i : ℕ) where
    -- where no message counts for the tile, its last is what it was
    last-before : SameCounted R cs c i → (k t : ℕ) (m : Message) → Last R (longer R cs c) i k t m → Last R cs i k t m
    last-before S k t m d = record { counted = S.less k t m d.counted; last = λ j u o q. d.last j u o (S.more j u o q) }

    mark-still : NotLinked R cs c → (k : ℕ) (mark : Bool) → Marks cs k mark → Marks (longer R cs c) k mark
    mark-still l k true h = none_more R cs c (LinkCall R) k l h
    mark-still l k false h = λ y. h (none-less R cs c (LinkCall R) k y)

    tile-still : SameCounted R cs c i → NotLinked R cs c → (o : Option RoomTile) → MarkedBy cs i o → MarkedBy (longer R cs c) i o
    tile-still S l none h = tt
    tile-still S l (some x) h = λ k t m d. mark-still l k x.since_link (h k t m (last-before S k t m d))

    -- after an accepted link call no message is since the last
    tile-linked : SameCounted R cs c i → LinkCall R (summary_of R cs) c → (o : Option RoomTile) → MarkedBy (longer R cs c) i (map relinked o)
    tile-linked S l none = tt
    tile-linked S l (some x) = λ k t m d. one-now R cs c (LinkCall R) k (last-before S k t m d).counted.within l

    -- the message just counted is
    tile-counted : (t : ℕ) (m : Message) (x : RoomTile) → CountsFor R (summary_of R cs) c i t m → MarkedBy (longer R cs c) i (some (counted_tile t m x))
    tile-counted t m x d k u n q =
        let h : length cs ≤ k = q.last (length cs) t m (counted-now R cs c i t m d) in
        let e : k ≡ length cs = ⊎_elim (λ y. absurd (omega (arith, h, y.within))) (λ w. w.0) (counted-cases R cs c i k u n q.counted) in
        subst (NoLinkAfter R (longer R cs c)) (sym e) (none-now R cs c (LinkCall R))

  abbrev since-link : Component R
  since-link =
      record {
        Holds = MarkedBy;
        fresh = λ i. tt;
        other = λ cs c i o S l h. tile-still cs c i S l o h;
        added = λ cs c i e n q h. λ k t m d. absurd (q k t m d.counted);
        linked = λ cs c i o S l h. tile-linked cs c i S l o;
        counted = λ cs c i t m x d h. tile-counted cs c i t m x d;
      }

  pub marked : (cs : List Call) (i : ℕ) → MarkedBy cs i (room_at (room_after R cs) i)
  marked cs i = holds R since-link cs i

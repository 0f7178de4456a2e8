-- Rules 1.7, 1.8 and 7.10 of one room: after any calls it answers each call by the book and the history.
use Prim.Native.Nat.{ℕ, ◌-◌, ◌≤◌}
use mathlib.Core.Path.{◌≡◌, refl, ap, sym, subst, ◌∙◌}
use mathlib.Core.Logic.{inl, inr}
use mathlib.Core.Bool.{Bool, true, false, cond, ◌&&◌, false≢true}
use mathlib.Core.List.{List}
use mathlib.Core.Option.{Option, none, some, map}
use native.Mathlib.Omega.{arith}
use lib.Dec.{leb}
use borrow.Author.Tests.{leb-true, leb-false, eq-eqb, ne_eqb}
use Rattle.fields.proofs.Laws.Checks.{zero-else, cond-pass}
use Rattle.history.specs.Calls.{Call, add, link_up, link_down, message, look, Entry, Colour, green, grey, Answer, refused, added, empty, shown}
use Rattle.history.specs.Places.{is_there, first_free}
use Rattle.history.specs.Reading.{Reader}
use Rattle.history.specs.Summary.{Summary, tile_at, tile_fault, clock_fault, fault_on, summary_of}
use Rattle.history.specs.History.{hold_time_of, NoLinkAfter, Current, NoneCounted, Last, OfLast, Shown, Accepted, Answers}
use Rattle.history.proofs.Laws.Rows.{clock-passed}
use Rattle.history.proofs.Laws.Clocks.{known}
use Rattle.room.proofs.Laws.Room.{Received, RoomTile, Room, room_at, entry_of, book_of, shown_last, shown_by, answered, room_answer, room_after}
use Rattle.room.proofs.Laws.Component.{books, book-at}
use Rattle.room.proofs.Laws.Last.{LastReceived, Kept, KeptBy, kept}
use Rattle.room.proofs.Laws.Since.{Marks, MarksLast, MarkedBy, marked}

-- ---- no two cases of an answer are equal

colours-differ : (x y : ℕ) (v w : List ℕ) → shown green x v ≡ shown grey y w → ⊥
colours-differ x y v w e = let z : ◌≡◌ {A = ℕ} 0 1 = cc in omega arith

shown-empty : (k : Colour) (x : ℕ) (v : List ℕ) → shown k x v ≡ empty → ⊥
shown-empty k x v e = let z : ◌≡◌ {A = ℕ} 0 1 = cc in omega arith

-- ---- what a tile shows

module _ (R : Reader) (cs : List Call) (i now : ℕ) where
  empty-shown : NoneCounted R cs i → Shown R cs i now empty
  empty-shown q =
      record {
        is-green = ((λ y. absurd (shown-empty _ _ _ (sym y.2))), (λ g. absurd (q g.place g.clock g.message g.counted)));
        is-empty = ((λ y. q), (λ y. refl));
        is-grey = ((λ y. absurd (shown-empty _ _ _ (sym y.2))), (λ y. absurd (y.0 q)));
        of-last = inl q;
      }

  module _ (e : Entry) (there : tile_at (summary_of R cs) i ≡ some e) (in-time : (summary_of R cs).link.clock ≤ now) where
    same-hold : hold_time_of (tile_at (summary_of R cs) i) ≡ e.hold_time
    same-hold = ap hold_time_of there

    module _ (h : Received) (d : LastReceived R cs i e h) where
      late : h.clock ≤ now
      late = omega (arith, in-time, known R cs i d.place h.clock d.message d.counted)

      some-counted : NoneCounted R cs i → ⊥
      some-counted q = q d.place h.clock d.message d.counted

      last-is : Last R cs i d.place h.clock d.message
      last-is = record { counted = d.counted; last = λ j t n o. (d.last j t n o).0 }

      of-last : (k : Colour) → OfLast R cs i now (shown k (now - h.clock) h.value)
      of-last k =
          record {
            place = d.place;
            clock = h.clock;
            message = d.message;
            tile = e;
            colour = k;
            last = last-is;
            not-later = late;
            there = there;
            is = ap (shown k (now - h.clock)) d.value;
          }

      -- where an earlier message would make the tile green, the last one does
      at_last : Current R cs i now → NoLinkAfter R cs d.place × (now - h.clock ≤ e.hold_time)
      at_last g =
          let w = d.last g.place g.clock g.message g.counted in
          ((λ j kj. g.no-link j (omega (arith, w.0))), omega (arith, w.1, g.no-older, same-hold))

      green-shown : Current R cs i now → Shown R cs i now (shown green (now - h.clock) h.value)
      green-shown g =
          record {
            is-green = ((λ y. g), (λ y. (now - h.clock, h.value, refl)));
            is-empty = ((λ y. absurd (shown-empty _ _ _ y)), (λ q. absurd (some-counted q)));
            is-grey = ((λ y. absurd (colours-differ _ _ _ _ y.2)), (λ y. absurd (y.1 g)));
            of-last = inr (of-last green);
          }

      grey-shown : (Current R cs i now → ⊥) → Shown R cs i now (shown grey (now - h.clock) h.value)
      grey-shown n =
          record {
            is-green = ((λ y. absurd (colours-differ _ _ _ _ (sym y.2))), (λ y. absurd (n y)));
            is-empty = ((λ y. absurd (shown-empty _ _ _ y)), (λ q. absurd (some-counted q)));
            is-grey = ((λ y. (some-counted, n)), (λ y. (now - h.clock, h.value, refl)));
            of-last = inr (of-last grey);
          }

      -- by the mark, and whether the message is no older than the hold time
      shown_by_lem : (mark recent : Bool) → Marks R cs d.place mark → leb (now - h.clock) e.hold_time ≡ recent
          → Shown R cs i now (shown (cond (mark && recent) green grey) (now - h.clock) h.value)
      shown_by_lem true true u q =
          green-shown
          (record {
            place = d.place;
            clock = h.clock;
            message = d.message;
            counted = d.counted;
            no-link = u;
            no-older = let l : now - h.clock ≤ e.hold_time = leb-true _ _ q in omega (arith, l, same-hold);
          })
      shown_by_lem true false u q = grey-shown (λ g. omega (arith, leb-false (now - h.clock) e.hold_time q, (at_last g).1))
      shown_by_lem false recent u q = grey-shown (λ g. u (at_last g).0)

    last-shown : (mark : Bool) (l : Option Received) → Kept R cs i e l → MarksLast R cs i mark → Shown R cs i now (shown_last mark e.hold_time now l)
    last-shown mark none q u = empty-shown q
    last-shown mark (some h) d u =
        shown_by_lem h d mark (leb (now - h.clock) e.hold_time) (u d.place h.clock d.message (last-is h d)) refl

-- ---- what a call answers

module _ (R : Reader) (cs : List Call) where
  abbrev m : Room
  m = room_after R cs

  tile-shown : (i now : ℕ) (o : Option RoomTile) → room_at m i ≡ o → is_there (tile_at (summary_of R cs) i) ≡ true
      → (summary_of R cs).link.clock ≤ now → Shown R cs i now (shown_by o now)
  tile-shown i now o e t h = chosen o e (book-at R cs i ∙ ap (map entry_of) e)
    where
      chosen : (p : Option RoomTile) → room_at m i ≡ p → tile_at (summary_of R cs) i ≡ map entry_of p → Shown R cs i now (shown_by p now)
      chosen none f b = absurd (false≢true (ap is_there (sym b) ∙ t))
      chosen (some x) f b =
          last-shown R cs i now x.entry b h x.since_link x.last (subst (KeptBy R cs i) f (kept R cs i))
          (subst (MarkedBy R cs i) f (marked R cs i))

  accepted-answer : (c : Call) → fault_on R (summary_of R cs) c ≡ 0 → Accepted R cs c (answered R m c)
  accepted-answer (add t n h) z = ap (λ (b : Summary). added (first_free b.tiles)) (books R cs)
  accepted-answer (link_up l t) z = refl
  accepted-answer (link_down t) z = refl
  accepted-answer (message t s) z = refl
  accepted-answer (look i now) z =
      let y = zero-else (tile_fault (tile_at (summary_of R cs) i)) (clock_fault (summary_of R cs).link.clock now) z in
      tile-shown i now (room_at m i) refl (cond-pass (is_there (tile_at (summary_of R cs) i)) 18 0 y.0).0
      (clock-passed (summary_of R cs).link.clock now y.1)

  pub one-room : (c : Call) → Answers R cs c (room_answer R m c)
  one-room c =
      let f : fault_on R (book_of m) c ≡ fault_on R (summary_of R cs) c = ap (λ (b : Summary). fault_on R b c) (books R cs) in
      let chosen : Bool → Answer = λ t. cond t (answered R m c) (refused (fault_on R (book_of m) c)) in
      record {
        refusal = λ z. ap chosen (ne_eqb (fault_on R (book_of m) c) 0 (λ y. z (sym f ∙ y))) ∙ ap refused f;
        acceptance = λ z. subst (Accepted R cs c) (sym (ap chosen (eq-eqb (fault_on R (book_of m) c) 0 (f ∙ z)))) (accepted-answer c z);
      }

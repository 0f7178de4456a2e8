-- What is known of each tile after any calls. A component is a property of the calls and the tile, with what each kind of call does to it;
-- then it holds of every tile after any calls.
use Prim.Native.Nat.{ℕ}
use mathlib.Core.Path.{◌≡◌, refl, ap, ap₂, sym, subst, ◌∙◌}
use mathlib.Core.Bool.{Bool, false, cond, false≢true}
use mathlib.Core.List.{List, [], ◌∷◌, foldl-append}
use mathlib.Core.Option.{Option, none, some, map}
use native.Mathlib.Omega.{arith}
use lib.Dec.{eqb}
use borrow.Author.Tests.{eqb-true, eq-eqb, ne_eqb}
use Rattle.fields.proofs.Laws.Tests.{by_zero, cond_cases, true-false}
use Rattle.message.specs.Message.{Message}
use Rattle.history.specs.Calls.{Call, Entry, at_clock, Note, adding, linking, receiving, nothing, note_of}
use Rattle.history.specs.Places.{passes, first_free}
use Rattle.history.specs.Reading.{Reading, no_message, left_over, one_message, Reader}
use Rattle.history.specs.Summary.{Summary, tile_at, carries, noted, fault_on, summary_of, read_on}
use Rattle.history.specs.History.{CountsFor, LinkCall, NoneCounted}
use Rattle.history.proofs.Laws.Places.{changed_each, filled_at, free-at, changed-at, changed-filled}
use Rattle.history.proofs.Laws.Longer.{by-calls, is_receiving, is_linking, longer, book-next, book-kept, SameCounted, same-counted}
use Rattle.history.proofs.Laws.Words.{none-counted}
use Rattle.room.proofs.Laws.Room.{RoomTile, Room, fresh_room, room_at, entry_of, book_of, new_tile, relinked, counted_tile, counted_by, changed, room_next, room_after}

-- a change that leaves each tile its entry
same_entries : (f : RoomTile → RoomTile) → ((x : RoomTile) → (f x).entry ≡ x.entry) → (ts : List (Option RoomTile))
    → changed_each entry_of (changed_each f ts) ≡ changed_each entry_of ts
same_entries f h [] = refl
same_entries f h (none ∷ ts) = ap (λ (es : List (Option Entry)). none ∷ es) (same_entries f h ts)
same_entries f h (some x ∷ ts) = ap₂ (λ (e : Entry) (es : List (Option Entry)). some e ∷ es) (h x) (same_entries f h ts)

kept_entry : (t : ℕ) (r : Reading) (x : RoomTile) → (counted_by t r x).entry ≡ x.entry
kept_entry t (no_message n) x = refl
kept_entry t left_over x = refl
kept_entry t (one_message m) x =
    cond_cases (λ (y : RoomTile). y.entry ≡ x.entry) (carries m x.entry) (counted_tile t m x) x (λ q. refl) (λ q. refl)

module _ (R : Reader) where
  -- the call c after cs is no accepted link call
  abbrev pub NotLinked : List Call → Call → Type 0
  NotLinked cs c = LinkCall R (summary_of R cs) c → ⊥

  not-received : (cs : List Call) (c : Call) → is_receiving (note_of c) ≡ false → (i : ℕ) → SameCounted R cs c i
  not-received cs c h i = same-counted R cs c i (λ t m d. false≢true (sym h ∙ ap is_receiving d.is))

  not-linked : (cs : List Call) (c : Call) → is_linking (note_of c) ≡ false → NotLinked cs c
  not-linked cs c h l = false≢true (sym h ∙ ap is_linking l.is)

  pub record Component : Type 1 where
    pub Holds : List Call → ℕ → Option RoomTile → Type 0
    pub fresh : (i : ℕ) → Holds [] i none
    -- a call that neither counts for the tile nor is an accepted link call
    pub other : (cs : List Call) (c : Call) (i : ℕ) (o : Option RoomTile) → SameCounted R cs c i → NotLinked cs c
        → Holds cs i o → Holds (longer R cs c) i o
    -- the tile's adding
    pub added : (cs : List Call) (c : Call) (i : ℕ) (e : Entry) → note_of c ≡ adding e → NoneCounted R (longer R cs c) i
        → Holds cs i none → Holds (longer R cs c) i (some (new_tile e))
    -- an accepted link call
    pub linked : (cs : List Call) (c : Call) (i : ℕ) (o : Option RoomTile) → SameCounted R cs c i → LinkCall R (summary_of R cs) c
        → Holds cs i o → Holds (longer R cs c) i (map relinked o)
    -- a message that counts for the tile
    pub counted : (cs : List Call) (c : Call) (i t : ℕ) (m : Message) (x : RoomTile) → CountsFor R (summary_of R cs) c i t m
        → Holds cs i (some x) → Holds (longer R cs c) i (some (counted_tile t m x))

  -- ---- the room's book

  book-changed : (m : Room) (n : Note) → book_of (changed R m n) ≡ noted (book_of m) n
  book-changed m (adding e) =
      ap (λ (ts : List (Option Entry)). record { tiles = ts; link = m.link }) (changed-filled entry_of (new_tile e) m.tiles)
  book-changed m (linking k) =
      ap (λ (ts : List (Option Entry)). record { tiles = ts; link = k }) (same_entries relinked (λ x. refl) m.tiles)
  book-changed m (receiving t s) =
      ap (λ (ts : List (Option Entry)). record { tiles = ts; link = at_clock t m.link })
      (same_entries (counted_by t (read_on R m.link.up s)) (kept_entry t (read_on R m.link.up s)) m.tiles)
  book-changed m nothing = refl

  pub room-more : (cs : List Call) (c : Call) → room_after R (longer R cs c) ≡ room_next R (room_after R cs) c
  unfolding room_after
  room-more cs c = foldl-append (room_next R) fresh_room cs (c ∷ [])

  module _ (m : Room) (c : Call) where
    pub room-accepted : fault_on R (book_of m) c ≡ 0 → room_next R m c ≡ changed R m (note_of c)
    room-accepted z = ap (λ (t : Bool). cond t (changed R m (note_of c)) m) (eq-eqb (fault_on R (book_of m) c) 0 z)

    pub room-refused : (fault_on R (book_of m) c ≡ 0 → ⊥) → room_next R m c ≡ m
    room-refused z = ap (λ (t : Bool). cond t (changed R m (note_of c)) m) (ne_eqb (fault_on R (book_of m) c) 0 z)

  abbrev BookExamples : List Call → Type 0
  BookExamples cs = book_of (room_after R cs) ≡ summary_of R cs

  books-more : (cs : List Call) (c : Call) → BookExamples cs → BookExamples (longer R cs c)
  books-more cs c e =
      let m = room_after R cs in
      let f : fault_on R (book_of m) c ≡ fault_on R (summary_of R cs) c = ap (λ (b : Summary). fault_on R b c) e in
      ap book_of (room-more cs c)
      ∙ by_zero (fault_on R (book_of m) c)
      (λ z.
      ap book_of (room-accepted m c z) ∙ book-changed m (note_of c) ∙ ap (λ (b : Summary). noted b (note_of c)) e
      ∙ sym (book-next R cs c (sym f ∙ z)))
      (λ z. ap book_of (room-refused m c z) ∙ e ∙ sym (book-kept R cs c (λ y. z (f ∙ y))))

  books-start : BookExamples []
  unfolding room_after summary_of
  books-start = refl

  pub books : (cs : List Call) → BookExamples cs
  books = by-calls BookExamples books-start books-more

  -- what the book has under a number
  pub book-at : (cs : List Call) (i : ℕ) → tile_at (summary_of R cs) i ≡ map entry_of (room_at (room_after R cs) i)
  book-at cs i = ap (λ (b : Summary). tile_at b i) (sym (books cs)) ∙ changed-at entry_of (room_after R cs).tiles i

  -- ---- every component holds

  module _ (C : Component) (cs : List Call) (c : Call) (i : ℕ) where
    abbrev m : Room
    m = room_after R cs

    abbrev Now : Option RoomTile → Type 0
    Now = C.Holds cs i

    abbrev Then : Option RoomTile → Type 0
    Then = C.Holds (longer R cs c) i

    -- nothing for this tile
    other_at : ((t : ℕ) (n : Message) → CountsFor R (summary_of R cs) c i t n → ⊥) → NotLinked cs c → (o : Option RoomTile) → Now o → Then o
    other_at n l o h = C.other cs c i o (same-counted R cs c i n) l h

    -- a message that is none of the tile's
    module _ (t : ℕ) (s : List ℕ) (q : note_of c ≡ receiving t s) where
      passed-by : (r : Reading) → read_on R (summary_of R cs).link.up s ≡ r → ((n : Message) → r ≡ one_message n → passes (carries n) (tile_at (summary_of R cs) i) ≡ false)
          → (o : Option RoomTile) → Now o → Then o
      passed-by r e f =
          other_at
          (λ u n d.
          true-false (passes (carries n) (tile_at (summary_of R cs) i)) d.carried
          (f n (sym e ∙ ap (read_on R (summary_of R cs).link.up) (same_bytes u d.bytes (sym q ∙ d.is)) ∙ d.read)))
          (not-linked cs c (ap is_linking q))
        where
          same_bytes : (u : ℕ) (w : List ℕ) → receiving t s ≡ receiving u w → s ≡ w
          same_bytes u w y = cc

      received-at : fault_on R (summary_of R cs) c ≡ 0 → (r : Reading) → read_on R (summary_of R cs).link.up s ≡ r → (o : Option RoomTile) → room_at m i ≡ o → Now o
          → Then (map (counted_by t r) o)
      received-at z r e none g h = passed-by r e (λ n y. ap (passes (carries n)) (book-at cs i ∙ ap (map entry_of) g)) none h
      received-at z (no_message k) e (some x) g h = passed-by (no_message k) e (λ n y. absurd (no-message n y)) (some x) h
        where
          no-message : (n : Message) → no_message k ≡ one_message n → ⊥
          no-message n y = let v : ◌≡◌ {A = ℕ} 0 1 = cc in omega arith
      received-at z left_over e (some x) g h = passed-by left_over e (λ n y. absurd (no-message n y)) (some x) h
        where
          no-message : (n : Message) → left_over ≡ one_message n → ⊥
          no-message n y = let v : ◌≡◌ {A = ℕ} 0 1 = cc in omega arith
      received-at z (one_message n) e (some x) g h =
          let f : tile_at (summary_of R cs) i ≡ some x.entry = book-at cs i ∙ ap (map entry_of) g in
          cond_cases (λ (y : RoomTile). Then (some y)) (carries n x.entry) (counted_tile t n x) x
          (λ y. C.counted cs c i t n x (record { bytes = s; is = q; read = e; counts = z; carried = ap (passes (carries n)) f ∙ y }) h)
          (λ y.
          passed-by (one_message n) e
          (λ k j. ap (passes (carries k)) f ∙ ap (λ (o : Message). carries o x.entry) (sym (same_message n k j)) ∙ y) (some x) h)
        where
          same_message : (a b : Message) → one_message a ≡ one_message b → a ≡ b
          same_message a b j = cc

    holds-noted : (n : Note) → note_of c ≡ n → fault_on R (summary_of R cs) c ≡ 0 → Now (room_at m i) → Then (room_at (changed R m n) i)
    holds-noted (adding e) q z h =
        subst Then (sym (filled_at (new_tile e) m.tiles i))
        (cond_cases Then (eqb i (first_free m.tiles)) (some (new_tile e)) (room_at m i)
        (λ t.
        let o : room_at m i ≡ none = ap (room_at m) (eqb-true i (first_free m.tiles) t) ∙ free-at m.tiles in
        let f : tile_at (summary_of R cs) i ≡ none = book-at cs i ∙ ap (map entry_of) o in
        C.added cs c i e q (λ k t n d. none-counted R i cs f k t n ((not-received cs c (ap is_receiving q) i).less k t n d)) (subst Now o h))
        (λ t. C.other cs c i (room_at m i) (not-received cs c (ap is_receiving q) i) (not-linked cs c (ap is_linking q)) h))
    holds-noted (linking k) q z h =
        subst Then (sym (changed-at relinked m.tiles i))
        (C.linked cs c i (room_at m i) (not-received cs c (ap is_receiving q) i) (record { link = k; is = q; accepted = z }) h)
    holds-noted (receiving t s) q z h =
        let r = read_on R m.link.up s in
        subst Then (sym (changed-at (counted_by t r) m.tiles i))
        (received-at t s q z r (ap (λ (b : Summary). read_on R b.link.up s) (sym (books cs))) (room_at m i) refl h)
    holds-noted nothing q z h =
        C.other cs c i (room_at m i) (not-received cs c (ap is_receiving q) i) (not-linked cs c (ap is_linking q)) h

    holds_more : Now (room_at m i) → Then (room_at (room_after R (longer R cs c)) i)
    holds_more h =
        let f : fault_on R (book_of m) c ≡ fault_on R (summary_of R cs) c = ap (λ (b : Summary). fault_on R b c) (books cs) in
        subst (λ (x : Room). Then (room_at x i)) (sym (room-more cs c))
        (by_zero (fault_on R (book_of m) c)
        (λ z. subst (λ (x : Room). Then (room_at x i)) (sym (room-accepted m c z)) (holds-noted (note_of c) refl (sym f ∙ z) h))
        (λ z.
        subst (λ (x : Room). Then (room_at x i)) (sym (room-refused m c z))
        (other_at (λ t n d. z (f ∙ d.counts)) (λ l. z (f ∙ l.accepted)) (room_at m i) h)))

  holds-start : (C : Component) (i : ℕ) → C.Holds [] i (room_at (room_after R []) i)
  unfolding room_after
  holds-start C i = C.fresh i

  pub holds : (C : Component) (cs : List Call) (i : ℕ) → C.Holds cs i (room_at (room_after R cs) i)
  holds C cs i = by-calls (λ ds. C.Holds ds i (room_at (room_after R ds) i)) (holds-start C i) (λ ds c. holds_more C ds c i) cs

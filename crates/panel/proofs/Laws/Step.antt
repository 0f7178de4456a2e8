-- A call on a panel that agrees with a room gives what it gives on the room, and leaves the two in agreement.
use Prim.Native.Nat.{ℕ, ◌-◌, ◌<◌}
use mathlib.Core.Path.{◌≡◌, refl, ap, ap₂, sym, subst, ◌∙◌}
use mathlib.Core.Logic.{inl, inr, ⊎_elim}
use mathlib.Core.Bool.{Bool, true, false, cond, ◌&&◌}
use mathlib.Core.List.{List}
use mathlib.Core.Option.{Option, none, some, map}
use native.Mathlib.Omega.{arith}
use lib.Dec.{eqb, leb}
use lib.ListN.{get_or, set, length-map, length-set}
use lib.Seq.{get_or-set_same, get_or-set_other}
use borrow.Author.Tests.{eqb-true, eqb-false, eq-eqb, ne_eqb, leb-false}
use Rattle.fields.specs.Bytes.{same, Bytes}
use Rattle.fields.specs.Lists.{any_of}
use Rattle.fields.proofs.Laws.Bytes.{same-eq}
use Rattle.fields.proofs.Laws.Checks.{zero-else, cond-fault, cond-pass, and_split}
use Rattle.fields.proofs.Laws.Tests.{by-test, by_zero, true-false, cond_cases}
use Rattle.content.specs.ContentCheck.{deepest}
use Rattle.content.specs.Tree.{type_text}
use Rattle.message.specs.declared.Layout.{Layout}
use Rattle.message.proofs.Laws.Messages.{well-texts}
use Rattle.message.specs.Message.{Message, WellFormed, encode}
use Rattle.message.specs.MessageReader.{read_of}
use Rattle.message.specs.Demand2.{Begins}
use Rattle.message.proofs.Laws.Stream.{read_number}
use Rattle.history.specs.Calls.{Call, add, link_up, link_down, message, look, Entry, adding, note_of, OfBytes, green, grey, Answer, refused, added, shown}
use Rattle.history.specs.Calls as history
use Rattle.history.specs.Places.{passes, is_there, first_free}
use Rattle.history.specs.Reading.{Reading, Reads, one_message, Reader}
use Rattle.history.specs.Reading as reading
use Rattle.history.specs.Summary.{tile_at, is_of, carries, is_allowed, allowed_fault, clock_fault, tile_fault, reading_fault, read_on, fault_on}
use Rattle.history.proofs.Laws.Places.{filled_at, changed-at}
use Rattle.history.proofs.Laws.ReaderTheorems.{begins-one, none_number}
use Rattle.room.proofs.Laws.Room.{Received, RoomTile, Room, room_at, entry_of, book_of, counted_by, shown_by, changed, answered, room_next, room_answer}
use Rattle.room.proofs.Laws.Room as room
use Rattle.room.proofs.Laws.Component.{room-accepted, room-refused}
use Rattle.panel.specs.declared.Value.{Value}
use Rattle.panel.specs.declared.Label.{Label}
use Rattle.panel.specs.Records.{Tile, Panel}
use Rattle.panel.specs.declared.LookAnswer.TheVariants.{Empty}
use Rattle.panel.specs.Tiles.{no_value, label_of, no_tile, new_tile, is_tile, relinked, counted_tile, counted_for, coloured, colour_of, free_in}
use Rattle.panel.specs.Calls as panel
use Rattle.panel.specs.Calls.{label_in, value_in, entered, linked, received, looked_at}
use Rattle.panel.specs.Answers.{look_answer}
use Rattle.panel.specs.Demand3.{answer_to, panel_next}
use Rattle.panel.proofs.Laws.Labels.{IsPose, allowed}
use Rattle.panel.proofs.Laws.Calls.{look_words}
use Rattle.panel.proofs.Laws.Contents.{bytes_of, pose-short, value-bytes}
use Rattle.panel.proofs.Laws.Rows.{row, panel-refused, panel-changed, answer-refused, answer-accepted}
use Rattle.panel.proofs.Laws.Agreement.{LastAgrees, TileAgrees, Agrees, place-used, place_is, changed-agree}
use Rattle.panel.proofs.Laws.Alike.{free-alike}
use Rattle.panel.proofs.Laws.Checked.{allowed-passed, begun_label, begun-value, free-same, full-same, clock-same, add_same, message-same, look-same}

-- ---- one tile

relink-agrees : (x : Tile) (o : Option RoomTile) → TileAgrees x o → TileAgrees (relinked x) (map room.relinked o)
relink-agrees x none a = record { used = a.used; counted = a.counted }
relink-agrees x (some y) a = record { entry = a.entry; last = a.last; since = refl }

-- a message that carries the type and name of an allowed tile has a pose for its content
carried-pose : (n : Message) (e : Entry) → is_allowed e.type_text e.name e.hold_time ≡ true → carries n e ≡ true → IsPose (type_text n.content)
carried-pose n e a f =
    let y : e.type_text ≡ type_text n.content = same-eq _ _ (and_split (same e.type_text (type_text n.content)) _ f).0 in
    ⊎_elim (λ v. inl (sym y ∙ v)) (λ v. inr (sym y ∙ v)) (allowed e.type_text e.name e.hold_time a).pose

module _ (l : Layout) (t : ℕ) (s : List ℕ) (n : Message) (w : WellFormed l n) (whole : encode l n ≡ s) where
  begins : Begins l s n
  begins = begins-one l s n w whole

  abbrev k : Label
  k = label_in s (read_of l s)

  abbrev v : Value
  v = value_in s (read_of l s)

  count-agrees : (x : Tile) (o : Option RoomTile) → TileAgrees x o → TileAgrees (counted_for k t v x) (map (counted_by t (one_message n)) o)
  count-agrees x none a =
      cond_cases (λ (y : Tile). TileAgrees y none) (is_tile k x) (counted_tile x t v) x
      (λ q. true-false x.used (and_split x.used _ q).0 a.used)
      (λ q. a)
  count-agrees x (some y) a =
      let e : is_tile k x ≡ carries n y.entry =
      ap (λ (y : Label). is_tile y x) (begun_label l s n begins) ∙ place_is x (some y) (type_text n.content) n.device_name (well-texts l n w) a in
      subst (λ (q : Bool). TileAgrees (cond q (counted_tile x t v) x) (some (counted_by t (one_message n) y))) (sym e)
      (chosen (carries n y.entry) refl)
    where
      chosen : (q : Bool) → carries n y.entry ≡ q → TileAgrees (cond q (counted_tile x t v) x) (some (cond q (room.counted_tile t n y) y))
      chosen true q =
          record {
            entry = record { used = refl; label = a.entry.label; hold = a.entry.hold; allowed = a.entry.allowed };
            last =
                record {
                  counted = refl;
                  clock = refl;
                  value = begun-value l s n y.entry begins;
                  short = pose-short n.content deepest w.content (carried-pose n y.entry a.entry.allowed q);
                };
            since = refl;
          }
      chosen false q = a

-- what a tile shows
module _ (now : ℕ) where
  abbrev shown_from : Bool → Bool → ℕ → ℕ → Value → Answer
  shown_from counted since clock hold value =
      look_answer (cond counted (colour_of since (now - clock) hold) Empty) (cond counted value no_value)

  colour-shown : (q : Bool) (a : ℕ) (v : Value) → look_answer (coloured q a) v ≡ shown (cond q green grey) a (bytes_of v)
  colour-shown true a v = refl
  colour-shown false a v = refl

  last-shown : (counted since : Bool) (clock hold : ℕ) (value : Value) (o : Option Received) → LastAgrees counted clock value o
      → shown_from counted since clock hold value ≡ room.shown_last since hold now o
  last-shown counted since clock hold value none a = ap (λ (q : Bool). shown_from q since clock hold value) a
  last-shown counted since clock hold value (some h) a =
      ap (λ (q : Bool). shown_from q since clock hold value) a.counted
      ∙ ap₂ (λ (t : ℕ) (v : Value). shown_from true since t hold v) a.clock a.value
      ∙ colour-shown (since && leb (now - h.clock) hold) (now - h.clock) _
      ∙ ap (shown (cond (since && leb (now - h.clock) hold) green grey) (now - h.clock)) (value-bytes h.value a.short)

  look-agrees : (p : Panel) (x : Tile) (o : Option RoomTile) → is_there (map entry_of o) ≡ true → TileAgrees x o
      → look_words (looked_at p x now) ≡ shown_by o now
  look-agrees p x none h a = true-false false h refl
  look-agrees p x (some y) h a =
      ap₂ (λ (q : Bool) (k : ℕ). shown_from x.counted q x.clock k x.value) a.since a.entry.hold
      ∙ last-shown x.counted y.since_link x.clock y.entry.hold_time x.value y.last a.last

-- ---- one call

module _ (R : Reader) (p : Panel) (m : Room) (T : Agrees p m) where
  -- the panel's row of a call is what the room does
  record CallAgrees (c : Call) : Type 0 where
    fault : (row p c).fault ≡ fault_on R (book_of m) c
    panel : fault_on R (book_of m) c ≡ 0 → Agrees (row p c).panel (changed R m (note_of c))
    answer : fault_on R (book_of m) c ≡ 0 → (row p c).answer ≡ answered R m c

  -- what stands at a place once x is put at place k
  put-at : (x : Tile) (k : ℕ) → k < 16 → (i : ℕ) → get_or (set p.tiles k x) i no_tile ≡ cond (eqb i k) x (get_or p.tiles i no_tile)
  put-at x k g i =
      by-test (eqb i k)
      (λ q. ap (λ (j : ℕ). get_or (set p.tiles k x) j no_tile) (eqb-true i k q)
      ∙ get_or-set_same p.tiles k x no_tile (omega (arith, g, T.size))
      ∙ ap (λ (t : Bool). cond t x (get_or p.tiles i no_tile)) (sym q))
      (λ q. get_or-set_other p.tiles k i x no_tile (eqb-false i k q) ∙ ap (λ (t : Bool). cond t x (get_or p.tiles i no_tile)) (sym q))

  -- a tile more
  module _ (t n : List ℕ) (h : ℕ) where
    abbrev tile : Tile
    tile = new_tile (label_of t n) h

    abbrev entry : Entry
    entry = record { type_text = t; name = n; hold_time = h }

    abbrev place : ℕ
    place = free_in p.tiles

    same_place : place ≡ first_free m.tiles
    same_place = free-alike p.tiles m.tiles (λ i. place-used _ (room_at m i) (T.places i) ∙ there (room_at m i))
      where
        there : (o : Option RoomTile) → is_there (map entry_of o) ≡ is_there o
        there none = refl
        there (some y) = refl

    tile-agrees : place < 16 → is_allowed t n h ≡ true → (i : ℕ)
        → TileAgrees (get_or (set p.tiles place tile) i no_tile) (room_at (changed R m (adding entry)) i)
    tile-agrees g a i =
        subst (λ (x : Tile). TileAgrees x (room_at (changed R m (adding entry)) i)) (sym (put-at tile place g i))
        (subst (TileAgrees (cond (eqb i place) tile (get_or p.tiles i no_tile)))
        (sym (filled_at (room.new_tile entry) m.tiles i ∙ ap (λ (k : ℕ). cond (eqb i k) (some (room.new_tile entry)) (room_at m i)) (sym same_place)))
        (chosen (eqb i place)))
      where
        chosen : (q : Bool) → TileAgrees (cond q tile (get_or p.tiles i no_tile)) (cond q (some (room.new_tile entry)) (room_at m i))
        chosen true = record { entry = record { used = refl; label = refl; hold = refl; allowed = a }; last = refl; since = refl }
        chosen false = T.places i

    add-agrees : fault_on R (book_of m) (add t n h) ≡ 0 → Agrees (entered p tile) (changed R m (adding entry))
    add-agrees z =
        let y = zero-else (allowed_fault t n h) _ z in
        let a : is_allowed t n h ≡ true = allowed-passed t n h y.0 in
        record { link = T.link; size = length-set p.tiles place tile ∙ T.size; places = tile-agrees (not_full z) a }
      where
        not_full : fault_on R (book_of m) (add t n h) ≡ 0 → place < 16
        not_full z =
            let y = zero-else (allowed_fault t n h) _ z in
            let w = zero-else (cond (any_of (passes (is_of t n)) (book_of m).tiles) 17 0) _ y.1 in
            leb-false 16 place (full-same p m T ∙ (cond-fault _ 17 0 w.1).0)

  link-agrees : (up : Bool) (l : Layout) (t : ℕ)
      → Agrees (linked p up l t) (changed R m (history.linking (record { up = cond up (some l) none; clock = t })))
  link-agrees up l t =
      record {
        link = refl;
        size = length-map p.tiles relinked ∙ T.size;
        places = changed-agree relinked room.relinked refl relink-agrees p.tiles m.tiles T.places;
      }

  -- what counts is one message
  one_of : (l : Layout) (s : List ℕ) (ts : List (Option Entry)) (r : Reading) → Bytes s → Reads l s r → reading_fault ts r ≡ 0
      → (n : Message) × WellFormed l n × (encode l n ≡ s) × (r ≡ one_message n)
  one_of l s ts r bs (reading.none n) z = absurd (none_number l s bs n (read_number l s ∙ z))
  one_of l s ts r bs (reading.more n g h) z = absurd (let y : ◌≡◌ {A = ℕ} 12 0 = z in omega arith)
  one_of l s ts r bs (reading.one n w e) z = (n, w, e, refl)

  -- on the panel's link
  one_on : (s : List ℕ) → Bytes s → (up : Bool) → reading_fault (book_of m).tiles (read_on R (cond up (some p.link.layout) none) s) ≡ 0
      → (n : Message) × WellFormed p.link.layout n × (encode p.link.layout n ≡ s)
      × (read_on R (cond up (some p.link.layout) none) s ≡ one_message n)
  one_on s bs true z = one_of p.link.layout s (book_of m).tiles (R.read p.link.layout s) bs (R.reads p.link.layout s bs) z
  one_on s bs false z = absurd (let y : ◌≡◌ {A = ℕ} 14 0 = z in omega arith)

  message-agrees : (t : ℕ) (s : List ℕ) → Bytes s → fault_on R (book_of m) (message t s) ≡ 0
      → Agrees (received p t s (panel.read_on p.link s)) (changed R m (history.receiving t s))
  message-agrees t s bs z =
      let a = panel.read_on p.link s in
      let e = ap (λ (k : history.Link). read_on R k.up s) T.link in
      let y = zero-else (clock_fault m.link.clock t) _ z in
      let n = one_on s bs p.link.up (ap (reading_fault (book_of m).tiles) e ∙ y.1) in
      record {
        link = ap (history.at_clock t) T.link;
        size = length-map p.tiles (counted_for (label_in s a) t (value_in s a)) ∙ T.size;
        places =
            changed-agree (counted_for (label_in s a) t (value_in s a)) (counted_by t (read_on R m.link.up s)) refl
            (subst
            (λ (r : Reading). (x : Tile) (o : Option RoomTile) → TileAgrees x o
            → TileAgrees (counted_for (label_in s a) t (value_in s a) x) (map (counted_by t r) o))
            (sym (sym e ∙ n.3)) (count-agrees p.link.layout t s n.0 n.1 n.2))
            p.tiles m.tiles T.places;
      }

  look-answered : (i now : ℕ) → fault_on R (book_of m) (look i now) ≡ 0 → (row p (look i now)).answer ≡ shown_by (room_at m i) now
  look-answered i now z =
      let y = zero-else (tile_fault (tile_at (book_of m) i)) (clock_fault m.link.clock now) z in
      look-agrees now p _ (room_at m i)
      (ap is_there (sym (changed-at entry_of m.tiles i)) ∙ (cond-pass (is_there (tile_at (book_of m) i)) 18 0 y.0).0) (T.places i)

  call-agrees : (c : Call) → OfBytes c → CallAgrees c
  call-agrees (add t n h) o =
      record { fault = add_same p m T R t n h; panel = add-agrees t n h; answer = λ z. ap added (free-same p m T) }
  call-agrees (link_up l t) o = record { fault = clock-same p m T t; panel = λ z. link-agrees true l t; answer = λ z. refl }
  call-agrees (link_down t) o = record { fault = clock-same p m T t; panel = λ z. link-agrees false p.link.layout t; answer = λ z. refl }
  call-agrees (message t s) o = record { fault = message-same p m T R t s o; panel = message-agrees t s o; answer = λ z. refl }
  call-agrees (look i now) o = record { fault = look-same p m T R i now; panel = λ z. T; answer = look-answered i now }

  -- ---- the panel after it, and the answer

  module _ (c : Call) (o : OfBytes c) where
    abbrev agreed : CallAgrees c
    agreed = call-agrees c o

    pub step : Agrees (panel_next p c) (room_next R m c)
    step =
        by_zero (fault_on R (book_of m) c)
        (λ z.
        subst (λ (q : Panel). Agrees q (room_next R m c)) (sym (panel-changed p c (agreed.fault ∙ z)))
        (subst (Agrees (row p c).panel) (sym (room-accepted R m c z)) (agreed.panel z)))
        (λ z.
        subst (λ (q : Panel). Agrees q (room_next R m c)) (sym (panel-refused p c (λ y. z (sym agreed.fault ∙ y))))
        (subst (Agrees p) (sym (room-refused R m c z)) T))

    pub same_answer : answer_to p c ≡ room_answer R m c
    same_answer =
        let chosen : Bool → Answer = λ t. cond t (answered R m c) (refused (fault_on R (book_of m) c)) in
        by_zero (fault_on R (book_of m) c)
        (λ z. answer-accepted p c (agreed.fault ∙ z) ∙ agreed.answer z ∙ sym (ap chosen (eq-eqb (fault_on R (book_of m) c) 0 z)))
        (λ z.
        answer-refused p c (λ y. z (sym agreed.fault ∙ y)) ∙ ap refused agreed.fault
        ∙ sym (ap chosen (ne_eqb (fault_on R (book_of m) c) 0 z)))

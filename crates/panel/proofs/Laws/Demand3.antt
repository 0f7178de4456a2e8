-- The theorem of rules 1.7 to 1.9: every sequence of calls is answered as the book and the history say. The panel agrees with a room, of
-- which it is proved.
use Prim.Native.Nat.{ℕ, zero, suc, ◌-◌}
use mathlib.Core.Path.{◌≡◌, refl, ap, sym, subst, ◌∙◌}
use mathlib.Core.Bool.{Bool, true, false, cond, ◌&&◌}
use mathlib.Core.List.{List, [], ◌∷◌, ◌++◌, foldl-append}
use mathlib.Core.Option.{Option, none, some}
use lib.Dec.{eqb, leb}
use lib.ListN.{length, take, get_or}
use lib.Seq.{take-append_seam}
use Rattle.fields.specs.Lists.{Each}
use Rattle.fields.proofs.Laws.Lists.{each_take, each-middle}
use Rattle.fields.proofs.Laws.Tests.{by_zero, cond_cases}
use Rattle.history.specs.Calls.{Call, look, OfBytes, green, grey}
use Rattle.history.specs.Reading.{Reader}
use Rattle.history.specs.History.{call_at, IsColoured, Answers}
use Rattle.history.proofs.Laws.ReaderTheorems.{reader-theorems}
use Rattle.history.proofs.Laws.Longer.{by-calls}
use Rattle.history.proofs.Laws.Words.{words}
use Rattle.room.proofs.Laws.Room.{Received, RoomTile, Room, room_at, room_after}
use Rattle.room.proofs.Laws.Component.{room-more}
use Rattle.room.proofs.Laws.OneRoom.{one-room}
use Rattle.panel.specs.declared.Value.{Value}
use Rattle.panel.specs.Records.{Tile, Panel, LookResult}
use Rattle.panel.specs.declared.LookAnswer.TheVariants.{Empty}
use Rattle.panel.specs.Tiles.{no_value, no_tile, coloured}
use Rattle.panel.specs.Calls.{fresh_panel, look_fault, looked_at, refused_look, look_of}
use Rattle.panel.specs.Answers.{look_answer}
use Rattle.panel.specs.Demand3.{answer_to, panel_next, panel_after, Demand3}
use Rattle.panel.proofs.Laws.Contents.{bytes_of, PaddedValue, value-padded, no-value-padded}
use Rattle.panel.proofs.Laws.Calls.{look-refused, look-accepted}
use Rattle.panel.proofs.Laws.Rows.{refused-kept, panel-same}
use Rattle.panel.proofs.Laws.Agreement.{LastAgrees, TileAgrees, Agrees, fresh-agrees}
use Rattle.panel.proofs.Laws.Step.{step, same_answer}

-- ---- after any calls the panel agrees with the room

panel-more : (cs : List Call) (c : Call) → panel_after (cs ++ (c ∷ [])) ≡ panel_next (panel_after cs) c
unfolding panel_after
panel-more cs c = foldl-append panel_next fresh_panel cs (c ∷ [])

module _ (R : Reader) where
  agree-start : Agrees (panel_after []) (room_after R [])
  unfolding panel_after room_after
  agree-start = fresh-agrees

  agree-more : (cs : List Call) (c : Call) → OfBytes c → Agrees (panel_after cs) (room_after R cs)
      → Agrees (panel_after (cs ++ (c ∷ []))) (room_after R (cs ++ (c ∷ [])))
  agree-more cs c o T =
      subst (λ (p : Panel). Agrees p (room_after R (cs ++ (c ∷ [])))) (sym (panel-more cs c))
      (subst (Agrees (panel_next (panel_after cs) c)) (sym (room-more R cs c)) (step R (panel_after cs) (room_after R cs) T c o))

  agree : (cs : List Call) → Each OfBytes cs → Agrees (panel_after cs) (room_after R cs)
  agree =
      by-calls (λ cs. Each OfBytes cs → Agrees (panel_after cs) (room_after R cs)) (λ o. agree-start)
      (λ cs c T o.
      agree-more cs c (each-middle OfBytes cs c [] o)
      (T (subst (Each OfBytes) (take-append_seam cs (c ∷ [])) (each_take OfBytes (length cs) (cs ++ (c ∷ [])) o))))

  answers : (cs : List Call) → Each OfBytes cs → (c : Call) → OfBytes c → Answers R cs c (answer_to (panel_after cs) c)
  answers cs e c o = subst (Answers R cs c) (sym (same_answer R (panel_after cs) (room_after R cs) (agree cs e) c o)) (one-room R cs c)

-- ---- the value beside a look's answer

module _ (p : Panel) (m : Room) (T : Agrees p m) where
  last-padded : (counted : Bool) (clock : ℕ) (value : Value) (l : Option Received) → LastAgrees counted clock value l
      → PaddedValue (cond counted value no_value)
  last-padded counted clock value none a =
      subst PaddedValue (sym (ap (λ (t : Bool). cond t value no_value) a)) no-value-padded
  last-padded counted clock value (some h) a =
      subst PaddedValue (sym (ap (λ (t : Bool). cond t value no_value) a.counted ∙ a.value)) (value-padded h.value a.short)

  tile-padded : (x : Tile) (o : Option RoomTile) → TileAgrees x o → PaddedValue (cond x.counted x.value no_value)
  tile-padded x none a = last-padded x.counted x.clock x.value none a.counted
  tile-padded x (some y) a = last-padded x.counted x.clock x.value y.last a.last

  look-padded : (i now : ℕ) → PaddedValue (look_of p i now).value
  unfolding look_of
  look-padded i now =
      cond_cases (λ (r : LookResult). PaddedValue r.value) (eqb (look_fault p i now) 0) (looked_at p (get_or p.tiles i no_tile) now)
      (refused_look p (look_fault p i now)) (λ q. tile-padded _ (room_at m i) (T.places i)) (λ q. no-value-padded)

-- ---- no colour, no value

module _ (p : Panel) (i now : ℕ) where
  abbrev EmptyValue : LookResult → Type 0
  EmptyValue r = (IsColoured (look_answer r.answer r.value) → ⊥) → r.value.len ≡ 0

  tile-empty-value : (x : Tile) → EmptyValue (looked_at p x now)
  tile-empty-value x = empty-value x.counted (x.since_link && leb (now - x.clock) x.hold_time) (now - x.clock) x.value
    where
      empty-value : (h c : Bool) (a : ℕ) (v : Value) → EmptyValue (record { panel = p; answer = cond h (coloured c a) Empty; value = cond h v no_value })
      empty-value false c a v g = refl
      empty-value true true a v g = absurd (g (green, (a, bytes_of v, refl)))
      empty-value true false a v g = absurd (g (grey, (a, bytes_of v, refl)))

  look-empty-value : EmptyValue (look_of p i now)
  look-empty-value =
      by_zero (look_fault p i now)
      (λ e. subst EmptyValue (look-accepted p i now e) (tile-empty-value (get_or p.tiles i no_tile)))
      (λ z. subst EmptyValue (look-refused p i now _ refl z) (λ g. refl))

-- ---- the theorem

each_at : (k : ℕ) (cs : List Call) → Each OfBytes cs → OfBytes (call_at cs k)
each_at k [] o = tt
each_at zero (c ∷ cs) o = o.0
each_at (suc k) (c ∷ cs) o = each_at k cs o.1

pub demand-3 : Demand3
demand-3 =
    record {
      readers = reader-theorems;
      words = words;
      claim = λ R cs o.
          record {
            inside = λ k l. answers R (take k cs) (each_take OfBytes k cs o) (call_at cs k) (each_at k cs o);
            after = λ i now. answers R cs o (look i now) tt;
            padded = look-padded (panel_after cs) (room_after R cs) (agree R cs o);
          };
      refused = refused-kept;
      looked = λ p i now. panel-same p (look i now) refl;
      no_value = look-empty-value;
    }

-- What follows from the words of the book and the history: one answer to a call; messages after the adding of their tile; the layout that was
-- named; numbers in order.
use Prim.Native.Nat.{ℕ, ◌<◌}
use mathlib.Core.Path.{◌≡◌, refl, sym, ap, subst, ◌∙◌}
use mathlib.Core.Logic.{⊎_elim}
use mathlib.Core.Bool.{false, false≢true}
use mathlib.Core.List.{List, []}
use mathlib.Core.Option.{Option, none, some}
use native.Mathlib.Omega.{arith}
use lib.Dec.{eqb}
use lib.ListN.{length}
use borrow.Author.Tests.{eqb-true}
use Rattle.fields.proofs.Laws.Tests.{by_zero, cond_cases}
use Rattle.message.specs.declared.Layout.{Layout}
use Rattle.history.specs.Calls.{Call, add, link_up, link_down, message, look, Entry, Note, adding, linking, receiving, nothing, note_of, Answer}
use Rattle.history.specs.Places.{passes, first_free}
use Rattle.history.specs.Reading.{Reader}
use Rattle.history.specs.Summary.{Summary, tile_at, carries, noted, fault_on, summary_of}
use Rattle.history.specs.History.{call_at, summary_before, NoneCounted, LinkCall, Answers}
use Rattle.history.specs.Words.{AfterAdding, NamedLast, Words}
use Rattle.history.proofs.Laws.Places.{filled_at, free-at, NoGaps, filled-no-gaps, free-count}
use Rattle.history.proofs.Laws.Rows.{row}
use Rattle.history.proofs.Laws.Longer.{by-calls, is_receiving, is_linking, longer, book-next, book-kept, longer-length, old-place, new-place, place-cases, none_more, none-less, none-now, one-now, counted-cases, added_more, added-now}

-- ---- one answer

answers-only : (R : Reader) (cs : List Call) (c : Call) (a b : Answer) → Answers R cs c a → Answers R cs c b → a ≡ b
answers-only R cs c a b x y =
    by_zero (fault_on R (summary_of R cs) c)
    (λ e. (row R c).one_answer cs a b (x.acceptance e) (y.acceptance e))
    (λ n. x.refusal n ∙ sym (y.refusal n))

-- ---- after the adding

module _ (R : Reader) (i : ℕ) where
  -- of what the book has under the number i
  abbrev Since : List Call → Option Entry → Type 0
  Since cs none = NoneCounted R cs i
  Since cs (some e) = AfterAdding R cs i e

  module _ (cs : List Call) (c : Call) where
    -- a call that adds nothing under that number
    since-kept : (o : Option Entry) → tile_at (summary_of R cs) i ≡ o → Since cs o → Since (longer R cs c) o
    since-kept none e s =
        λ k t m d. ⊎_elim (s k t m) (λ w. false≢true (ap (passes (carries m)) (sym e) ∙ w.1.carried)) (counted-cases R cs c i k t m d)
    since-kept (some x) e s =
        record {
          place = s.place;
          added = added_more R cs c i s.place x s.added;
          after = λ k t m d. ⊎_elim (s.after k t m) (λ w. omega (arith, w.0, s.added.within)) (counted-cases R cs c i k t m d);
        }

    since-added : (e : Entry) → note_of c ≡ adding e → fault_on R (summary_of R cs) c ≡ 0 → first_free (summary_of R cs).tiles ≡ i
        → Since cs none → AfterAdding R (longer R cs c) i e
    since-added e n z f s =
        record {
          place = length cs;
          added = added-now R cs c i e n z f;
          after = λ k t m d.
              ⊎_elim (λ o. absurd (s k t m o)) (λ w. absurd (false≢true (ap is_receiving (sym n ∙ w.1.is)))) (counted-cases R cs c i k t m d);
        }

    abbrev b : Summary
    b = summary_of R cs

    -- by what the book notes
    since-noted : (n : Note) → note_of c ≡ n → fault_on R b c ≡ 0 → Since cs (tile_at b i) → Since (longer R cs c) (tile_at (noted b n) i)
    since-noted (adding e) q z s =
        subst (Since (longer R cs c)) (sym (filled_at e b.tiles i))
        (cond_cases (Since (longer R cs c)) (eqb i (first_free b.tiles)) (some e) (tile_at b i)
        (λ t.
        let f : first_free b.tiles ≡ i = sym (eqb-true i (first_free b.tiles) t) in
        since-added e q z f (subst (Since cs) (ap (tile_at b) (sym f) ∙ free-at b.tiles) s))
        (λ t. since-kept (tile_at b i) refl s))
    since-noted (linking k) q z s = since-kept (tile_at b i) refl s
    since-noted (receiving t x) q z s = since-kept (tile_at b i) refl s
    since-noted nothing q z s = since-kept (tile_at b i) refl s

    since-more : Since cs (tile_at b i) → Since (longer R cs c) (tile_at (summary_of R (longer R cs c)) i)
    since-more s =
        by_zero (fault_on R b c)
        (λ z. subst (λ (x : Summary). Since (longer R cs c) (tile_at x i)) (sym (book-next R cs c z)) (since-noted (note_of c) refl z s))
        (λ z. subst (λ (x : Summary). Since (longer R cs c) (tile_at x i)) (sym (book-kept R cs c z)) (since-kept (tile_at b i) refl s))

  since-start : Since [] (tile_at (summary_of R []) i)
  unfolding summary_of
  since-start k t m d = absurd (omega (arith, d.within))

  since : (cs : List Call) → Since cs (tile_at (summary_of R cs) i)
  since = by-calls (λ cs. Since cs (tile_at (summary_of R cs) i)) since-start since-more

  -- no message counted for a number that no tile has
  pub none-counted : (cs : List Call) → tile_at (summary_of R cs) i ≡ none → NoneCounted R cs i
  none-counted cs e = subst (Since cs) e (since cs)

-- ---- the layout

module _ (R : Reader) where
  -- of the link of the book
  abbrev Named : List Call → Option Layout → Type 0
  Named cs none = Unit {0}
  Named cs (some l) = NamedLast R cs l

  -- an accepted link up that names l
  abbrev Names : Layout → ℕ → Summary → Call → Type 0
  Names l t b x = (x ≡ link_up l t) × (fault_on R b x ≡ 0)

  module _ (cs : List Call) (c : Call) where
    -- a call that is no accepted link call
    named-kept : (LinkCall R (summary_of R cs) c → ⊥) → (o : Option Layout) → Named cs o → Named (longer R cs c) o
    named-kept n none s = tt
    named-kept n (some l) s =
        let w = (old-place R cs c (Names l s.clock) s.place s.within).1 (s.is, s.accepted) in
        record {
          place = s.place;
          clock = s.clock;
          within = omega (arith, longer-length R cs c, s.within);
          is = w.0;
          accepted = w.1;
          last = none_more R cs c (LinkCall R) s.place n s.last;
        }

    named-now : (l : Layout) (t : ℕ) → Names l t (summary_of R cs) c → NamedLast R (longer R cs c) l
    named-now l t h =
        let w = (new-place R cs c (Names l t) (length cs) refl).1 h in
        record {
          place = length cs;
          clock = t;
          within = omega (arith, longer-length R cs c);
          is = w.0;
          accepted = w.1;
          last = none-now R cs c (LinkCall R);
        }

    no-link : is_linking (note_of c) ≡ false → LinkCall R (summary_of R cs) c → ⊥
    no-link h k = false≢true (sym h ∙ ap is_linking k.is)

    abbrev o : Option Layout
    o = (summary_of R cs).link.up

    named-noted : (x : Call) → c ≡ x → fault_on R (summary_of R cs) c ≡ 0 → Named cs o → Named (longer R cs c) (noted (summary_of R cs) (note_of x)).link.up
    named-noted (add t n h) e z s = named-kept (no-link (ap (λ (x : Call). is_linking (note_of x)) e)) o s
    named-noted (link_up l t) e z s = named-now l t (e, z)
    named-noted (link_down t) e z s = tt
    named-noted (message t x) e z s = named-kept (no-link (ap (λ (x : Call). is_linking (note_of x)) e)) o s
    named-noted (look i t) e z s = named-kept (no-link (ap (λ (x : Call). is_linking (note_of x)) e)) o s

    named_more : Named cs o → Named (longer R cs c) (summary_of R (longer R cs c)).link.up
    named_more s =
        by_zero (fault_on R (summary_of R cs) c)
        (λ z. subst (λ (x : Summary). Named (longer R cs c) x.link.up) (sym (book-next R cs c z)) (named-noted c refl z s))
        (λ z. subst (λ (x : Summary). Named (longer R cs c) x.link.up) (sym (book-kept R cs c z)) (named-kept (λ k. z k.accepted) o s))

  named_start : Named [] (summary_of R []).link.up
  unfolding summary_of
  named_start = tt

  named : (cs : List Call) → Named cs (summary_of R cs).link.up
  named = by-calls (λ cs. Named cs (summary_of R cs).link.up) named_start named_more

  -- and what was named last is the layout of the book's link
  named-up : (cs : List Call) (l : Layout) → NamedLast R cs l → (summary_of R cs).link.up ≡ some l
  named-up =
      by-calls (λ cs. (l : Layout) → NamedLast R cs l → (summary_of R cs).link.up ≡ some l) (λ l n. absurd (omega (arith, n.within)))
      (λ cs c ih l n.
      ⊎_elim (λ w. still-up cs c ih l n w.0 w.1) (λ w. now-up cs c l n.clock w.1)
      (place-cases R cs c (Names l n.clock) n.place n.within (n.is, n.accepted)))
    where
      now-up : (cs : List Call) (c : Call) (l : Layout) (t : ℕ) → Names l t (summary_of R cs) c → (summary_of R (longer R cs c)).link.up ≡ some l
      now-up cs c l t w =
          ap (λ (b : Summary). b.link.up) (book-next R cs c w.1) ∙ ap (λ (x : Call). (noted (summary_of R cs) (note_of x)).link.up) w.0

      -- a note of no link call
      still_noted : (b : Summary) (c : Call) → (LinkCall R b c → ⊥) → fault_on R b c ≡ 0 → (n : Note) → note_of c ≡ n → (noted b n).link.up ≡ b.link.up
      still_noted b c h z (adding e) q = refl
      still_noted b c h z (linking k) q = absurd (h (record { link = k; is = q; accepted = z }))
      still_noted b c h z (receiving t s) q = refl
      still_noted b c h z nothing q = refl

      still-up : (cs : List Call) (c : Call) → ((l : Layout) → NamedLast R cs l → (summary_of R cs).link.up ≡ some l)
          → (l : Layout) (n : NamedLast R (longer R cs c) l) → n.place < length cs → Names l n.clock (summary_before R cs n.place) (call_at cs n.place)
          → (summary_of R (longer R cs c)).link.up ≡ some l
      still-up cs c ih l n k w =
          let s : NamedLast R cs l =
          record {
            place = n.place;
            clock = n.clock;
            within = k;
            is = w.0;
            accepted = w.1;
            last = none-less R cs c (LinkCall R) n.place n.last;
          } in
          by_zero (fault_on R (summary_of R cs) c)
          (λ z.
          ap (λ (b : Summary). b.link.up) (book-next R cs c z)
          ∙ still_noted (summary_of R cs) c (λ h. one-now R cs c (LinkCall R) n.place k h n.last) z (note_of c) refl
          ∙ ih l s)
          (λ z. ap (λ (b : Summary). b.link.up) (book-kept R cs c z) ∙ ih l s)

-- ---- in order of adding

module _ (R : Reader) where
  noted-no-gaps : (b : Summary) (n : Note) → NoGaps b.tiles → NoGaps (noted b n).tiles
  noted-no-gaps b (adding e) h = filled-no-gaps e b.tiles h
  noted-no-gaps b (linking k) h = h
  noted-no-gaps b (receiving t s) h = h
  noted-no-gaps b nothing h = h

  no-gaps-start : NoGaps (summary_of R []).tiles
  unfolding summary_of
  no-gaps-start = tt

  no_gaps : (cs : List Call) → NoGaps (summary_of R cs).tiles
  no_gaps =
      by-calls (λ cs. NoGaps (summary_of R cs).tiles) no-gaps-start
      (λ cs c h.
      by_zero (fault_on R (summary_of R cs) c)
      (λ z. subst (λ (b : Summary). NoGaps b.tiles) (sym (book-next R cs c z)) (noted-no-gaps (summary_of R cs) (note_of c) h))
      (λ z. subst (λ (b : Summary). NoGaps b.tiles) (sym (book-kept R cs c z)) h))

pub words : Words
words =
    record {
      one_answer = answers-only;
      after_adding = λ R cs i e h. subst (Since R i cs) h (since R i cs);
      named_last = λ R cs l. ((λ h. subst (Named R cs) h (named R cs)), named-up R cs l);
      in_order = λ R cs. free-count (summary_of R cs).tiles (no_gaps R cs);
    }

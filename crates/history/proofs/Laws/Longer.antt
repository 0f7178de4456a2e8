-- The history of a sequence of calls, and of one with one call more.
use Prim.Native.Nat.{ℕ, ◌+◌, ◌<◌, ◌≤◌}
use mathlib.Core.Path.{◌≡◌, refl, ap, ap₂, sym, subst, ◌∙◌}
use mathlib.Core.Logic.{◌⊎◌, inl, inr, ⊎_elim}
use mathlib.Core.Bool.{Bool, true, false, cond}
use mathlib.Core.List.{List, [], ◌∷◌, ◌++◌, append-nil, append_assoc, foldl-append}
use mathlib.Core.Option.{Option}
use native.Mathlib.Omega.{arith}
use lib.Dec.{ltb}
use lib.ListN.{length, length-append, get_or-append}
use lib.Seq.{take-append-le, take-append_seam, get_or-append_seam}
use borrow.Author.Tests.{eq-eqb, ne_eqb, ltb-true, ltb-false}
use Rattle.message.specs.declared.Layout.{Layout}
use Rattle.message.specs.Message.{Message}
use Rattle.history.specs.Calls.{Call, look, Entry, Note, adding, linking, receiving, nothing, note_of}
use Rattle.history.specs.Reading.{one_message, Reader}
use Rattle.history.specs.Places.{first_free}
use Rattle.history.specs.Summary.{Summary, noted, read_on, fault_on, next, summary_of, fresh_summary}
use Rattle.history.specs.History.{call_at, summary_before, CountsFor, Counted, NoneAfter}
use Rattle.history.specs.Words.{AddedAt}
use Rattle.fields.proofs.Laws.Tests.{by-test}

-- what holds of no calls and of one call more holds of all
pub by-calls {ℓ} : (P : List Call → Type ℓ) → P [] → ((cs : List Call) (c : Call) → P cs → P (cs ++ (c ∷ []))) → (cs : List Call) → P cs
by-calls P z s cs = from [] z cs
  where
    from : (done : List Call) → P done → (todo : List Call) → P (done ++ todo)
    from done h [] = subst P (sym (append-nil done)) h
    from done h (c ∷ todo) = subst P (append_assoc done (c ∷ []) todo) (from (done ++ (c ∷ [])) (s done c h) todo)

-- which notes are which
abbrev pub is_receiving : Note → Bool
is_receiving (adding e) = false
is_receiving (linking k) = false
is_receiving (receiving t s) = true
is_receiving nothing = false

abbrev pub is_linking : Note → Bool
is_linking (adding e) = false
is_linking (linking k) = true
is_linking (receiving t s) = false
is_linking nothing = false

-- a call is one message
pub same_received : (R : Reader) (o p : Option Layout) (t u : ℕ) (x y : List ℕ) (m n : Message) → o ≡ p → receiving t x ≡ receiving u y
    → read_on R o x ≡ one_message m → read_on R p y ≡ one_message n → (t ≡ u) × (m ≡ n)
same_received R o p t u x y m n z e h k = (clocks, messages (sym h ∙ ap₂ (read_on R) z bytes ∙ k))
  where
    clocks : t ≡ u
    clocks = cc

    bytes : x ≡ y
    bytes = cc

    messages : one_message m ≡ one_message n → m ≡ n
    messages q = cc

module _ (R : Reader) where
  pub summary-more : (cs : List Call) (c : Call) → summary_of R (cs ++ (c ∷ [])) ≡ next R (summary_of R cs) c
  unfolding summary_of
  summary-more cs c = foldl-append (next R) fresh_summary cs (c ∷ [])

  module _ (cs : List Call) (c : Call) where
    abbrev pub longer : List Call
    longer = cs ++ (c ∷ [])

    -- the book after the call
    pub book-next : fault_on R (summary_of R cs) c ≡ 0 → summary_of R longer ≡ noted (summary_of R cs) (note_of c)
    book-next z =
        summary-more cs c
        ∙ ap (λ (t : Bool). cond t (noted (summary_of R cs) (note_of c)) (summary_of R cs)) (eq-eqb (fault_on R (summary_of R cs) c) 0 z)

    pub book-kept : (fault_on R (summary_of R cs) c ≡ 0 → ⊥) → summary_of R longer ≡ summary_of R cs
    book-kept z =
        summary-more cs c
        ∙ ap (λ (t : Bool). cond t (noted (summary_of R cs) (note_of c)) (summary_of R cs)) (ne_eqb (fault_on R (summary_of R cs) c) 0 z)

    pub longer-length : length longer ≡ length cs + 1
    longer-length = length-append cs (c ∷ [])

    -- ---- the calls of the shorter sequence, and the new one

    before-old : (k : ℕ) → k ≤ length cs → summary_before R longer k ≡ summary_before R cs k
    before-old k h = ap (summary_of R) (take-append-le k cs (c ∷ []) h)

    call-old : (k : ℕ) → k < length cs → call_at longer k ≡ call_at cs k
    call-old k h = get_or-append cs (c ∷ []) (look 0 0) k h

    before-new : summary_before R longer (length cs) ≡ summary_of R cs
    before-new = ap (summary_of R) (take-append_seam cs (c ∷ []))

    call-new : call_at longer (length cs) ≡ c
    call-new = get_or-append_seam cs c [] (look 0 0)

    -- a property of the book before a call and the call, at an old place and at the new one
    pub old-place : (P : Summary → Call → Type 0) (k : ℕ) → k < length cs
        → (P (summary_before R longer k) (call_at longer k) → P (summary_before R cs k) (call_at cs k))
        × (P (summary_before R cs k) (call_at cs k) → P (summary_before R longer k) (call_at longer k))
    old-place P k h =
        let e = before-old k (omega arith) in
        let g = call-old k h in (
          (λ y. subst (λ (b : Summary). P b (call_at cs k)) e (subst (P (summary_before R longer k)) g y)),
          (λ y. subst (λ (b : Summary). P b (call_at longer k)) (sym e) (subst (P (summary_before R cs k)) (sym g) y)),
        )

    pub new-place : (P : Summary → Call → Type 0) (k : ℕ) → k ≡ length cs
        → (P (summary_before R longer k) (call_at longer k) → P (summary_of R cs) c)
        × (P (summary_of R cs) c → P (summary_before R longer k) (call_at longer k))
    new-place P k h =
        let e : summary_before R longer k ≡ summary_of R cs = ap (summary_before R longer) h ∙ before-new in
        let g : call_at longer k ≡ c = ap (call_at longer) h ∙ call-new in (
          (λ y. subst (λ (b : Summary). P b c) e (subst (P (summary_before R longer k)) g y)),
          (λ y. subst (λ (b : Summary). P b (call_at longer k)) (sym e) (subst (P (summary_of R cs)) (sym g) y)),
        )

    -- a call that is so stands at an old place, or is the new one
    pub place-cases : (P : Summary → Call → Type 0) (k : ℕ) → k < length longer → P (summary_before R longer k) (call_at longer k)
        → ((k < length cs) × P (summary_before R cs k) (call_at cs k)) ⊎ ((k ≡ length cs) × P (summary_of R cs) c)
    place-cases P k h d =
        by-test (ltb k (length cs))
        (λ q. let l : k < length cs = ltb-true _ _ q in inl (l, (old-place P k l).0 d))
        (λ q.
        let e : k ≡ length cs = omega (arith, longer-length, h, ltb-false k (length cs) q) in
        inr (e, (new-place P k e).0 d))

    -- none stands after place k
    module _ (P : Summary → Call → Type 0) where
      pub none_more : (k : ℕ) → (P (summary_of R cs) c → ⊥) → NoneAfter R P cs k → NoneAfter R P longer k
      none_more k n u j kj jl h = ⊎_elim (λ w. u j kj w.0 w.1) (λ w. n w.1) (place-cases P j jl h)

      pub none-less : (k : ℕ) → NoneAfter R P longer k → NoneAfter R P cs k
      none-less k u j kj jl h = u j kj (omega (arith, longer-length, jl)) ((old-place P j jl).1 h)

      pub none-now : NoneAfter R P longer (length cs)
      none-now j kj jl h = omega (arith, longer-length, kj, jl)

      pub one-now : (k : ℕ) → k < length cs → P (summary_of R cs) c → NoneAfter R P longer k → ⊥
      one-now k h l u = u (length cs) h (omega (arith, longer-length)) ((new-place P (length cs) refl).1 l)

    -- ---- what counted for a tile

    abbrev CountsAs : ℕ → ℕ → Message → Summary → Call → Type 0
    CountsAs i t m b x = CountsFor R b x i t m

    counted-more : (i k t : ℕ) (m : Message) → Counted R cs i k t m → Counted R longer i k t m
    counted-more i k t m d =
        record {
          within = omega (arith, longer-length, d.within);
          counts-for = (old-place (CountsAs i t m) k d.within).1 d.counts-for;
        }

    pub counted-now : (i t : ℕ) (m : Message) → CountsFor R (summary_of R cs) c i t m → Counted R longer i (length cs) t m
    counted-now i t m d =
        record { within = omega (arith, longer-length); counts-for = (new-place (CountsAs i t m) (length cs) refl).1 d }

    pub counted-cases : (i k t : ℕ) (m : Message) → Counted R longer i k t m
        → Counted R cs i k t m ⊎ ((k ≡ length cs) × CountsFor R (summary_of R cs) c i t m)
    counted-cases i k t m d =
        ⊎_elim (λ w. inl (record { within = w.0; counts-for = w.1 })) inr (place-cases (CountsAs i t m) k d.within d.counts-for)

    -- what counted is what counted before
    pub record SameCounted (i : ℕ) : Type 0 where
      pub more : (k t : ℕ) (m : Message) → Counted R cs i k t m → Counted R longer i k t m
      pub less : (k t : ℕ) (m : Message) → Counted R longer i k t m → Counted R cs i k t m

    pub same-counted : (i : ℕ) → ((t : ℕ) (m : Message) → CountsFor R (summary_of R cs) c i t m → ⊥) → SameCounted i
    same-counted i n =
        record { more = counted-more i; less = λ k t m d. ⊎_elim (λ y. y) (λ w. absurd (n t m w.1)) (counted-cases i k t m d) }

    -- ---- the adding of a tile

    abbrev Adds : ℕ → Entry → Summary → Call → Type 0
    Adds i e b x = (note_of x ≡ adding e) × (fault_on R b x ≡ 0) × (first_free b.tiles ≡ i)

    pub added_more : (i j : ℕ) (e : Entry) → AddedAt R cs i j e → AddedAt R longer i j e
    added_more i j e d =
        let w = (old-place (Adds i e) j d.within).1 (d.is, d.accepted, d.number) in
        record { within = omega (arith, longer-length, d.within); is = w.0; accepted = w.1; number = w.2 }

    pub added-now : (i : ℕ) (e : Entry) → note_of c ≡ adding e → fault_on R (summary_of R cs) c ≡ 0 → first_free (summary_of R cs).tiles ≡ i
        → AddedAt R longer i (length cs) e
    added-now i e n z f =
        let w = (new-place (Adds i e) (length cs) refl).1 (n, z, f) in
        record { within = omega (arith, longer-length); is = w.0; accepted = w.1; number = w.2 }

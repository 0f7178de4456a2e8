-- However a stream is cut into fragments: after each push, what was taken is messages that were answered, and a rest that the feed stands for.
use Prim.Native.Nat.{ℕ, ◌+◌, ◌-◌, ◌≤◌, ◌<◌}
use mathlib.Core.Path.{◌≡◌, refl, sym, ap, ap₂, ◌∙◌, subst}
use mathlib.Core.Logic.{◌⊎◌, inl, inr, ⊎_elim}
use mathlib.Core.Bool.{true, false}
use mathlib.Core.List.{List, [], ◌∷◌, ◌++◌, append_assoc, append-nil}
use native.Mathlib.Omega.{arith}
use lib.ListN.{length, take, length-append}
use lib.Seq.{take-take, take-length, length-take-le}
use Rattle.fields.proofs.Laws.Answer.{room-enough, room-short}
use Rattle.fields.proofs.Laws.Tests.{true-false}
use Rattle.header.specs.HeaderReader.{header_fault}
use Rattle.header.proofs.Laws.Faults.{fault-passed}
use Rattle.message.specs.declared.Layout.{Layout}
use Rattle.message.specs.declared.Answer.{Answer}
use Rattle.message.specs.MessageReader.{read_of, refused}
use Rattle.feed.specs.Feed.{Feed, PushResult}
use Rattle.feed.specs.Push.{keeping, passing, stopped_feed, push_fault, kept_in, push_of, stored_in}
use Rattle.feed.specs.Reading.{Reading, end_of, answer_for, behind, reading_of}
use Rattle.feed.specs.Runs.{Run, answered, after, run_on, opened, run, read_by}
use Rattle.feed.specs.FeedTheorems.{Cuts}
use Rattle.feed.proofs.Laws.Stores.{front-stored, take_behind}
use Rattle.feed.proofs.Laws.Rows.{Row, refuses, passes, passed, short, wrong, begins, exceeds, part, whole, row}
use Rattle.feed.proofs.Laws.Pushes.{same-front, grown, Whole, whole_of, whole-front, writes, fault-stopped, fault-none}
use Rattle.feed.proofs.Laws.Readings.{answer-fits, answer-exceeds, reading-message, reading-short, reading-part, reading-passed, reading-wrong}
use Rattle.feed.proofs.Laws.Code.{opens_not, opens-so}

-- ---- what a feed stands for

-- an unfinished message that is kept: its header is not whole, or it fits the buffer
abbrev pub Kept : ℕ → List ℕ → Type 0
Kept room s = (length s < 58) ⊎ ((header_fault s ≡ 0) × (end_of s ≤ room) × (length s < end_of s))

-- behind the answers xs there is the rest of the stream, for which the feed stands; the third index is all answers
pub data Stands (l : Layout) (room : ℕ) (buf : List ℕ) (xs : List Answer) : List ℕ → Feed → List Answer → Type 0 where
  keeps : (k : ℕ) → k ≤ room → Kept room (take k buf) → Stands l room buf xs (take k buf) (keeping l room k) xs
  skips : (rest : List ℕ) → take 58 buf ≡ take 58 rest → header_fault rest ≡ 0 → room < end_of rest → length rest < end_of rest
      → Stands l room buf xs rest (passing l room (end_of rest) (end_of rest - length rest)) xs
  stops : (rest : List ℕ) → 58 ≤ length rest → (header_fault rest ≡ 0 → ⊥)
      → Stands l room buf xs rest (stopped_feed l room) (xs ++ (refused (header_fault rest) 0 ∷ []))

-- these bytes are messages with these answers, and nothing is left behind them
abbrev pub Messages : Layout → ℕ → List ℕ → List Answer → Type 0
Messages l room done xs = (x : List ℕ) → reading_of l room (done ++ x) ≡ behind xs (reading_of l room x)

pub record Inv (l : Layout) (room : ℕ) (taken : List ℕ) (f : Feed) (buf : List ℕ) (answers : List Answer) : Type 0 where
  pub done : List ℕ
  pub rest : List ℕ
  pub xs : List Answer
  pub said : List Answer
  pub joined : taken ≡ done ++ rest
  pub messages : Messages l room done xs
  pub answers-are : answers ≡ said
  pub stands : Stands l room buf xs rest f said

-- one message more
messages-more : (l : Layout) (room : ℕ) (done : List ℕ) (xs : List Answer) → Messages l room done xs → (m : List ℕ) → Whole m
    → Messages l room (done ++ m) (xs ++ (answer_for room (read_of l m) ∷ []))
messages-more l room done xs h m w x =
    let a : Answer = answer_for room (read_of l m) in
    ap (reading_of l room) (append_assoc done m x)
    ∙ h (m ++ x)
    ∙ ap (behind xs) (reading-message l room m w x)
    ∙ (λ i. record { answers = sym (append_assoc xs (a ∷ []) (reading_of l room x).answers) i; kept = (reading_of l room x).kept; stopped = (reading_of l room x).stopped })

-- ---- what is read of it

read_as : (l : Layout) (room : ℕ) (taken : List ℕ) (f : Feed) (buf : List ℕ) (answers : List Answer) → Inv l room taken f buf answers
    → ◌≡◌ {A = Reading} (record { answers = answers; kept = kept_in f buf; stopped = f.stopped }) (reading_of l room taken)
read_as l room taken f buf answers v =
    (λ i. record { answers = v.answers-are i; kept = kept_in f buf; stopped = f.stopped })
    ∙ of v.xs v.rest f v.said v.stands
    ∙ sym (ap (reading_of l room) v.joined ∙ v.messages v.rest)
  where
    of : (xs : List Answer) (rest : List ℕ) (g : Feed) (said : List Answer) → Stands l room buf xs rest g said
        → ◌≡◌ {A = Reading} (record { answers = said; kept = kept_in g buf; stopped = g.stopped }) (behind xs (reading_of l room rest))
    of xs _ _ _ (keeps k c o) =
        (λ i. record { answers = sym (append-nil xs) i; kept = take k buf; stopped = false })
        ∙ sym (ap (behind xs) (⊎_elim (λ h. reading-short l room (take k buf) h) (λ h. reading-part l room (take k buf) h.0 h.2 h.1) o))
    of xs rest _ _ (skips _ fr z h n) =
        (λ i. record { answers = sym (append-nil xs) i; kept = []; stopped = false }) ∙ sym (ap (behind xs) (reading-passed l room rest z n h))
    of xs rest _ _ (stops _ n z) = sym (ap (behind xs) (reading-wrong l room rest n z))

-- the feed asks for the length of the opening's buffer, and reads in its layout
as-opened : (l : Layout) (room : ℕ) (taken : List ℕ) (f : Feed) (buf : List ℕ) (answers : List Answer) → Inv l room taken f buf answers
    → (f.room ≡ room) × (f.layout ≡ l)
as-opened l room taken f buf answers v = of v.rest f v.said v.stands
  where
    of : (rest : List ℕ) (g : Feed) (said : List Answer) → Stands l room buf v.xs rest g said → (g.room ≡ room) × (g.layout ≡ l)
    of _ _ _ (keeps k c o) = (refl, refl)
    of rest _ _ (skips _ fr z h n) = (refl, refl)
    of rest _ _ (stops _ n z) = (refl, refl)

-- as many bytes are kept as the feed says
kept-counted : (l : Layout) (room : ℕ) (taken : List ℕ) (f : Feed) (buf : List ℕ) (answers : List Answer) → length buf ≡ room → Inv l room taken f buf answers
    → f.kept ≡ length (kept_in f buf)
kept-counted l room taken f buf answers e v = of v.rest f v.said v.stands
  where
    of : (rest : List ℕ) (g : Feed) (said : List Answer) → Stands l room buf v.xs rest g said → g.kept ≡ length (kept_in g buf)
    of _ _ _ (keeps k c o) = sym (length-take-le k buf (omega (arith, c, e)))
    of rest _ _ (skips _ front z h n) = refl
    of rest _ _ (stops _ n z) = refl

-- what is kept, and a fragment behind it
module _ (buf s : List ℕ) (k : ℕ) (o : Kept (length buf) (take k buf)) where
  -- the header and the end of what was kept are those of it with the fragment
  kept-front : header_fault (take k buf) ≡ 0 → (header_fault (take k buf ++ s) ≡ 0) × (end_of (take k buf ++ s) ≡ end_of (take k buf))
  kept-front z = let e = same-front (take k buf ++ s) (take k buf) (grown (take k buf) s (fault-passed (take k buf) z).long) in (e.0 ∙ z, e.1)

  -- what is kept ends before the message does
  kept-below : length (take k buf) < end_of (take k buf ++ s)
  kept-below = ⊎_elim (λ l. omega (arith, l)) (λ w. omega (arith, w.2, (kept-front w.0).1)) o

  kept-short : (header_fault (take k buf ++ s) ≡ 0 → ⊥) → length (take k buf) < 58
  kept-short z = ⊎_elim (λ l. omega (arith, l)) (λ w. absurd (z (kept-front w.0).0)) o

-- ---- one push

module _ (l : Layout) (buf s done : List ℕ) (xs : List Answer) (large : 58 ≤ length buf) (h : Messages l (length buf) done xs) where
  -- what was taken is the messages, the rest, and n bytes of the fragment
  abbrev Next : List ℕ → ℕ → Feed → List ℕ → List Answer → Type 0
  Next rest n f b answers = Inv l (length buf) ((done ++ rest) ++ take n s) f b answers

  goes_on : (rest : List ℕ) (n : ℕ) (rest' : List ℕ) (f : Feed) (b : List ℕ) → rest ++ take n s ≡ rest' → Stands l (length buf) b xs rest' f xs → Next rest n f b (xs ++ [])
  goes_on rest n rest' f b e w =
      record {
        done = done;
        rest = rest';
        xs = xs;
        said = xs;
        joined = append_assoc done rest (take n s) ∙ ap (λ (x : List ℕ). done ++ x) e;
        messages = h;
        answers-are = append-nil xs;
        stands = w;
      }

  -- more of the message is kept
  goes-on-keeping : (rest : List ℕ) (k : ℕ) (b : List ℕ) → k ≤ length buf → take k b ≡ rest ++ s → Kept (length buf) (rest ++ s)
      → Next rest (length s) (keeping l (length buf) k) b (xs ++ [])
  goes-on-keeping rest k b c e o =
      goes_on rest (length s) (take k b) _ b (ap (λ (x : List ℕ). rest ++ x) (take-length s) ∙ sym e) (keeps k c (subst (Kept (length buf)) (sym e) o))

  answers_one : (rest : List ℕ) (n : ℕ) (m b : List ℕ) (a : Answer) → rest ++ take n s ≡ m → Whole m → a ≡ answer_for (length buf) (read_of l m)
      → Next rest n (keeping l (length buf) 0) b (xs ++ (a ∷ []))
  answers_one rest n m b a e w g =
      record {
        done = done ++ m;
        rest = [];
        xs = xs ++ (answer_for (length buf) (read_of l m) ∷ []);
        said = xs ++ (answer_for (length buf) (read_of l m) ∷ []);
        joined = append_assoc done rest (take n s) ∙ ap (λ (x : List ℕ). done ++ x) e ∙ sym (append-nil (done ++ m));
        messages = messages-more l (length buf) done xs h m w;
        answers-are = ap (λ (x : Answer). xs ++ (x ∷ [])) g;
        stands = keeps 0 (omega arith) (inl (omega arith));
      }

  answers-last : (rest : List ℕ) (n : ℕ) (m b : List ℕ) (k : ℕ) → rest ++ take n s ≡ m → 58 ≤ length m → header_fault m ≡ k → (k ≡ 0 → ⊥)
      → Next rest n (stopped_feed l (length buf)) b (xs ++ (refused k 0 ∷ []))
  answers-last rest n m b k e i g z =
      record {
        done = done;
        rest = m;
        xs = xs;
        said = xs ++ (refused (header_fault m) 0 ∷ []);
        joined = append_assoc done rest (take n s) ∙ ap (λ (x : List ℕ). done ++ x) e;
        messages = h;
        answers-are = ap (λ (j : ℕ). xs ++ (refused j 0 ∷ [])) (sym g);
        stands = stops m i (λ y. z (sym g ∙ y));
      }

  -- ---- a feed that keeps k bytes

  module _ (k : ℕ) (o : Kept (length buf) (take k buf)) where
    abbrev t : List ℕ
    t = take k buf

    abbrev u : List ℕ
    u = take k buf ++ s

    abbrev F : Feed
    F = keeping l (length buf) k

    no-fault : push_fault (keeping l (length buf) k) (length buf) ≡ 0
    no-fault = fault-none F (length buf) refl refl large

    long : length (take k buf ++ s) ≡ length (take k buf) + length s
    long = length-append (take k buf) s

    kept-all : (to : ℕ) → to ≤ length buf → length (take k buf ++ s) ≤ to → take (length (take k buf ++ s)) (stored_in F s buf to) ≡ take k buf ++ s
    kept-all to g m = front-stored k buf s to (length u) g m (omega arith) ∙ take-length u

    next-keeps : (r : PushResult) (b : List ℕ) → Row (keeping l (length buf) k) s buf r b → Next (take k buf) r.taken r.feed b (xs ++ answered r.answer)
    next-keeps _ _ (refuses z) = absurd (z no-fault)
    next-keeps _ _ (passes z j) = absurd (omega (arith, j))
    next-keeps _ _ (passed z j m) = absurd (omega (arith, j))
    next-keeps _ _ (short z j m) = goes-on-keeping t (length u) (stored_in F s buf 58) (omega (arith, m, large)) (kept-all 58 large (omega (arith, m))) (inl m)
    next-keeps _ _ (wrong z j m y) =
        let g : List ℕ = take 58 u in
        let e = (same-front g u (take-take 58 58 u (omega arith))).0 in
        answers-last t (58 - length t) g (stored_in F s buf 58) (header_fault u) (take_behind t s 58 (omega (arith, kept-short buf s k o y))) (omega (arith, length-take-le 58 u m)) e y
    next-keeps _ _ (begins z j y g m) =
        let w : length u < end_of u = omega (arith, m, long) in
        let e : end_of u - length t - length s ≡ end_of u - length u = omega (arith, long) in
        subst (λ (i : ℕ). Next (take k buf) (length s) (passing l (length buf) (end_of u) i) (stored_in F s buf 58) (xs ++ [])) (sym e)
        (goes_on t (length s) u _ (stored_in F s buf 58) (ap (λ (x : List ℕ). t ++ x) (take-length s))
        (skips u (front-stored k buf s 58 58 large (omega arith) (fault-passed u y).long) y g w))
    next-keeps _ _ (exceeds z j y g m) =
        let w : Whole (take (end_of u) u) = whole-front u y (omega (arith, m, long, kept-below buf s k o)) in
        let e : end_of (take (end_of u) u) ≡ end_of u = sym w.size ∙ length-take-le (end_of u) u (omega (arith, m, long, kept-below buf s k o)) in
        answers_one t (end_of u - length t) (take (end_of u) u) (stored_in F s buf 58) (refused 20 (end_of u)) (take_behind t s (end_of u) (omega (arith, kept-below buf s k o))) w
        (sym (answer-exceeds l (length buf) (take (end_of u) u) w (omega (arith, g, e)) ∙ ap (refused 20) e))
    next-keeps _ _ (part z j y g m) =
        goes-on-keeping t (length u) (stored_in F s buf (end_of u)) (omega (arith, m, g)) (kept-all (end_of u) g (omega (arith, m))) (inr (y, g, m))
    next-keeps _ _ (whole z j y g m) =
        let w : Whole (take (end_of u) u) = whole-front u y m in
        let e : end_of (take (end_of u) u) ≡ end_of u = sym w.size ∙ length-take-le (end_of u) u m in
        answers_one t (end_of u - length t) (take (end_of u) u) (stored_in F s buf (end_of u)) (read_of l (take (end_of u) u)) (take_behind t s (end_of u) (omega (arith, kept-below buf s k o))) w
        (sym (answer-fits l (length buf) (take (end_of u) u) w (omega (arith, g, e))))

  -- ---- one that passes over a message

  module _ (rest : List ℕ) (fr : take 58 buf ≡ take 58 rest) (y : header_fault rest ≡ 0) (g : length buf < end_of rest) (o : length rest < end_of rest) where
    abbrev G : Feed
    G = passing l (length buf) (end_of rest) (end_of rest - length rest)

    next-skips : (r : PushResult) (b : List ℕ) → Row (passing l (length buf) (end_of rest) (end_of rest - length rest)) s buf r b
        → Next rest r.taken r.feed b (xs ++ answered r.answer)
    next-skips _ _ (refuses z) = absurd (z (fault-none G (length buf) refl refl large))
    next-skips _ _ (passes z m) =
        let w = same-front (rest ++ s) rest (grown rest s (fault-passed rest y).long) in
        let n : length (rest ++ s) ≡ length rest + length s = length-append rest s in
        let e : end_of (rest ++ s) - length (rest ++ s) ≡ end_of rest - length rest - length s = omega (arith, n, w.1) in
        subst (λ (q : Feed). Next rest (length s) q buf (xs ++ [])) (ap₂ (passing l (length buf)) w.1 e)
        (goes_on rest (length s) (rest ++ s) _ buf (ap (λ (q : List ℕ). rest ++ q) (take-length s))
        (skips (rest ++ s) (fr ∙ sym (grown rest s (fault-passed rest y).long)) (w.0 ∙ y) (omega (arith, g, w.1)) (omega (arith, m, n, w.1))))
    next-skips _ _ (passed z j m) =
        let k : ℕ = end_of rest - length rest in
        let n : List ℕ = rest ++ take k s in
        let c : take 58 n ≡ take 58 rest = grown rest (take k s) (fault-passed rest y).long in
        let w : Whole n = whole_of rest n y c (length-append rest (take k s) ∙ omega (arith, length-take-le k s m, o)) in
        let e = (same-front n rest c).1 in
        answers_one rest k n buf (refused 20 (end_of rest)) refl w
        (sym (answer-exceeds l (length buf) n w (omega (arith, g, e)) ∙ ap (refused 20) e))
    next-skips _ _ (short z j m) = absurd (omega (arith, j, o))
    next-skips _ _ (wrong z j m _) = absurd (omega (arith, j, o))
    next-skips _ _ (begins z j _ _ m) = absurd (omega (arith, j, o))
    next-skips _ _ (exceeds z j _ _ m) = absurd (omega (arith, j, o))
    next-skips _ _ (part z j _ _ m) = absurd (omega (arith, j, o))
    next-skips _ _ (whole z j _ _ m) = absurd (omega (arith, j, o))

  -- ---- one that has stopped

  not_stopped : {C : Type 0} → push_fault (stopped_feed l (length buf)) (length buf) ≡ 0 → C
  not_stopped z = absurd (omega (arith, z, fault-stopped (stopped_feed l (length buf)) (length buf) refl))

  next-stops : (rest : List ℕ) → 58 ≤ length rest → (header_fault rest ≡ 0 → ⊥) → (r : PushResult) (b : List ℕ) → Row (stopped_feed l (length buf)) s buf r b
      → Next rest r.taken r.feed b ((xs ++ (refused (header_fault rest) 0 ∷ [])) ++ answered r.answer)
  next-stops rest n y _ _ (refuses z) =
      record {
        done = done;
        rest = rest;
        xs = xs;
        said = xs ++ (refused (header_fault rest) 0 ∷ []);
        joined = append-nil (done ++ rest);
        messages = h;
        answers-are = append-nil (xs ++ (refused (header_fault rest) 0 ∷ []));
        stands = stops rest n y;
      }
  next-stops rest n y _ _ (passes z m) = not_stopped z
  next-stops rest n y _ _ (passed z j m) = not_stopped z
  next-stops rest n y _ _ (short z j m) = not_stopped z
  next-stops rest n y _ _ (wrong z j m _) = not_stopped z
  next-stops rest n y _ _ (begins z j _ _ m) = not_stopped z
  next-stops rest n y _ _ (exceeds z j _ _ m) = not_stopped z
  next-stops rest n y _ _ (part z j _ _ m) = not_stopped z
  next-stops rest n y _ _ (whole z j _ _ m) = not_stopped z

  next : (rest : List ℕ) (f : Feed) (said : List Answer) → Stands l (length buf) buf xs rest f said → (r : PushResult) (b : List ℕ) → Row f s buf r b
      → Next rest r.taken r.feed b (said ++ answered r.answer)
  next _ _ _ (keeps k c o) r b w = next-keeps k o r b w
  next rest _ _ (skips _ fr z g o) r b w = next-skips rest fr z g o r b w
  next rest _ _ (stops _ n z) r b w = next-stops rest n z r b w

-- something is taken of a fragment that is not empty, where what is kept ends before the header and the message do
some-taken : (f : Feed) (s buf : List ℕ) → push_fault f (length buf) ≡ 0 → ((header_fault (kept_in f buf ++ s) ≡ 0 → ⊥) → length (kept_in f buf) < 58)
    → length (kept_in f buf) < end_of (kept_in f buf ++ s) → 0 < length s → (r : PushResult) (b : List ℕ) → Row f s buf r b → 0 < r.taken
some-taken f s buf g k e h _ _ (refuses z) = absurd (z g)
some-taken f s buf g k e h _ _ (passes z l) = h
some-taken f s buf g k e h _ _ (passed z l m) = l
some-taken f s buf g k e h _ _ (short z l m) = h
some-taken f s buf g k e h _ _ (wrong z l m y) = omega (arith, k y)
some-taken f s buf g k e h _ _ (begins z l y n m) = h
some-taken f s buf g k e h _ _ (exceeds z l y n m) = omega (arith, e)
some-taken f s buf g k e h _ _ (part z l y n m) = h
some-taken f s buf g k e h _ _ (whole z l y n m) = omega (arith, e)

module _ (l : Layout) (buf s : List ℕ) (xs : List Answer) (large : 58 ≤ length buf) (h : 0 < length s) where
  some_next : (rest : List ℕ) (f : Feed) (said : List Answer) → Stands l (length buf) buf xs rest f said → f.stopped ≡ false → 0 < (push_of f s buf).taken
  some_next _ _ _ (keeps k c o) e =
      some-taken (keeping l (length buf) k) s buf (fault-none (keeping l (length buf) k) (length buf) refl refl large) (kept-short buf s k o) (kept-below buf s k o) h _ _ (row _ s buf)
  some_next rest _ _ (skips _ fr z g o) e =
      let f : Feed = passing l (length buf) (end_of rest) (end_of rest - length rest) in
      some-taken f s buf (fault-none f (length buf) refl refl large) (λ y. omega arith) (omega arith) h _ _ (row f s buf)
  some_next rest _ _ (stops _ n z) e = true-false true refl e

-- ---- a run of pushes

module _ (l : Layout) (room : ℕ) (large : 58 ≤ room) where
  abbrev pub Holds : Run → Type 0
  Holds r = (length r.buffer ≡ room) × Inv l room r.taken r.feed r.buffer r.answers

  one-push : (r : Run) (s : List ℕ) → Holds r → Holds (after r s)
  one-push r s (e, v) = ((writes r.feed s r.buffer).same_length ∙ e, at room e large v)
    where
      at : (n : ℕ) → length r.buffer ≡ n → 58 ≤ n → Inv l n r.taken r.feed r.buffer r.answers
          → Inv l n (after r s).taken (after r s).feed (after r s).buffer (after r s).answers
      at n c = subst (λ (m : ℕ). 58 ≤ m → Inv l m r.taken r.feed r.buffer r.answers → Inv l m (after r s).taken (after r s).feed (after r s).buffer (after r s).answers) c
          (λ g w.
          let i = next l r.buffer s w.done w.xs g w.messages w.rest r.feed w.said w.stands _ _ (row r.feed s r.buffer) in
          record {
            done = i.done;
            rest = i.rest;
            xs = i.xs;
            said = i.said;
            joined = ap (λ (x : List ℕ). x ++ take (push_of r.feed s r.buffer).taken s) w.joined ∙ i.joined;
            messages = i.messages;
            answers-are = ap (λ (x : List Answer). x ++ answered (push_of r.feed s r.buffer).answer) w.answers-are ∙ i.answers-are;
            stands = i.stands;
          })

  all-pushes : (r : Run) (ss : List (List ℕ)) → Holds r → Holds (run_on r ss)
  unfolding run_on
  all-pushes r [] h = h
  all-pushes r (s ∷ ss) h = all-pushes (after r s) ss (one-push r s h)

module _ (l : Layout) (buf : List ℕ) (ss : List (List ℕ)) (large : 58 ≤ length buf) where
  pub run_holds : Holds l (length buf) large (run l buf ss)
  run_holds =
      let start : Inv l (length buf) [] (keeping l (length buf) 0) buf [] =
      record {
        done = [];
        rest = [];
        xs = [];
        said = [];
        joined = refl;
        messages = λ x. refl;
        answers-are = refl;
        stands = keeps 0 (omega arith) (inl (omega arith));
      } in
      all-pushes l (length buf) large (opened l buf) ss (refl, start)

  pub run-stands : Inv l (length (run l buf ss).buffer) (run l buf ss).taken (run l buf ss).feed (run l buf ss).buffer (run l buf ss).answers
  run-stands =
      let q = run l buf ss in
      subst (λ (n : ℕ). Inv l n q.taken q.feed q.buffer q.answers) (sym run_holds.0) run_holds.1

  joined-run : read_by (run l buf ss) ≡ reading_of l (length buf) (run l buf ss).taken
  joined-run =
      let q = run l buf ss in
      read_as l (length buf) q.taken q.feed q.buffer q.answers run_holds.1

  counted-run : (run l buf ss).feed.kept ≡ length (read_by (run l buf ss)).kept
  counted-run =
      let q = run l buf ss in
      kept-counted l (length buf) q.taken q.feed q.buffer q.answers run_holds.0 run_holds.1

  as-opened-run : ((run l buf ss).feed.room ≡ length buf) × ((run l buf ss).feed.layout ≡ l)
  as-opened-run =
      let q = run l buf ss in
      as-opened l (length buf) q.taken q.feed q.buffer q.answers run_holds.1

  progress-run : (s : List ℕ) → (run l buf ss).feed.stopped ≡ false → 0 < length s → 0 < (push_of (run l buf ss).feed s (run l buf ss).buffer).taken
  progress-run s e h =
      let q = run l buf ss in
      let v = run-stands in
      some_next l q.buffer s v.xs (omega (arith, large, run_holds.0)) h v.rest q.feed v.said v.stands e

pub cuts : (l : Layout) → Cuts l
cuts l =
    record {
      too_short = λ buf h. sym (opens_not l (length buf) 20 (sym (room-short 58 (length buf) h)) (λ z. omega (arith, z)));
      opens = λ buf h. sym (opens-so l (length buf) 0 (sym (room-enough 58 (length buf) h)) refl);
      joined = joined-run l;
      counted = counted-run l;
      same_room = λ buf ss h. ((run_holds l buf ss h).0, (as-opened-run l buf ss h).0);
      same_layout = λ buf ss h. (as-opened-run l buf ss h).1;
      progress = λ buf ss s h. progress-run l buf ss h s;
      any_cut = λ a b ss ts h e k.
          joined-run l a ss h
          ∙ ap₂ (reading_of l) e k
          ∙ sym (joined-run l b ts (omega (arith, h, e)));
    }

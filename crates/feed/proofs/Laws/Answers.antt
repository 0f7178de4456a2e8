-- What an answer says of the feed and the buffer that its push leaves, in a run.
use Prim.Native.Nat.{ℕ, ◌-◌, ◌<◌, ◌≤◌}
use mathlib.Core.Path.{◌≡◌, refl, sym, ap, ◌∙◌, subst}
use mathlib.Core.List.{List, ◌++◌}
use native.Mathlib.Omega.{arith}
use lib.ListN.{length, take}
use lib.Seq.{length-take-le}
use borrow.Author.Tests.{eq-eqb, ne_eqb}
use Rattle.header.specs.HeaderReader.{header_fault}
use Rattle.header.proofs.Laws.Faults.{fault-passed}
use Rattle.message.specs.declared.Layout.{Layout}
use Rattle.message.specs.declared.Answer.{Answer}
use Rattle.message.specs.MessageReader.{read_of, refused}
use Rattle.message.proofs.Laws.Front.{read-whole-step}
use Rattle.feed.specs.Feed.{Feed, PushAnswer, Read, PushResult}
use Rattle.feed.specs.Reading.{end_of}
use Rattle.feed.specs.Push.{keeping, passing, stopped_feed, push_of, buffer_of}
use Rattle.feed.specs.Runs.{run, after}
use Rattle.feed.specs.FeedTheorems.{Answers}
use Rattle.feed.proofs.Laws.Stores.{front-stored}
use Rattle.feed.proofs.Laws.Rows.{Row, refuses, passes, passed, short, wrong, begins, exceeds, part, whole, row}
use Rattle.feed.proofs.Laws.Pushes.{read_in, apart, same-front, Whole, whole-front, wrong-front, read-of-front, writes, refusals}
use Rattle.feed.proofs.Laws.Cuts.{Stands, keeps, skips, stops, run_holds, run-stands}

module _ (l : Layout) (buf s : List ℕ) (large : 58 ≤ length buf) (a : Answer) where
  -- the answer x of a case is the answer a
  the-answer : (x : Answer) (f : Feed) (b : List ℕ) → ◌≡◌ {A = PushAnswer} (Read x) (Read a) → Answers l f b x → Answers l f b a
  the-answer x f b e w = subst (Answers l f b) (ap (read_in a) e) w

  -- a message that exceeds the buffer b, and whose header is u's
  exceeding : (u b : List ℕ) → length b ≡ length buf → length buf < end_of u → header_fault u ≡ 0 → take 58 b ≡ take 58 u
      → Answers l (keeping l (length buf) 0) b (refused 20 (end_of u))
  exceeding u b n h y c =
      record {
        fits = λ k. absurd (omega (arith, h, k, n));
        exceeds = λ k. let w = same-front b u c in (w.0 ∙ y, ap (refused 20) (sym w.1));
        stops = sym (ne_eqb (end_of u) 0 (λ e. omega (arith, e)));
        none_kept = refl;
      }

  of-keeping : (k : ℕ) (r : PushResult) (b : List ℕ) → Row (keeping l (length buf) k) s buf r b → length b ≡ length buf → r.answer ≡ Read a
      → Answers l r.feed b a
  of-keeping k _ _ (refuses z) n e = apart _ _ (λ i. omega (arith, i)) e
  of-keeping k _ _ (passes z j) n e = apart _ _ (λ i. omega (arith, i)) e
  of-keeping k _ _ (passed z j m) n e = absurd (omega (arith, j))
  of-keeping k _ _ (short z j m) n e = apart _ _ (λ i. omega (arith, i)) e
  of-keeping k _ _ (wrong z j m y) n e =
      the-answer _ (stopped_feed l (length buf)) _ e
      (record {
        fits = λ h. wrong-front (keeping l (length buf) k) s buf z m y;
        exceeds = λ h. absurd (omega (arith, h));
        stops = sym (eq-eqb 0 0 refl);
        none_kept = refl;
      })
  of-keeping k _ _ (begins z j y g m) n e = apart _ _ (λ i. omega (arith, i)) e
  of-keeping k _ _ (exceeds z j y g m) n e =
      the-answer _ (keeping l (length buf) 0) _ e
      (exceeding (take k buf ++ s) _ n g y (front-stored k buf s 58 58 large (omega arith) (fault-passed (take k buf ++ s) y).long))
  of-keeping k _ _ (part z j y g m) n e = apart _ _ (λ i. omega (arith, i)) e
  of-keeping k _ _ (whole z j y g m) n e =
      let u : List ℕ = take k buf ++ s in
      let w : Whole (take (end_of u) u) = whole-front u y m in
      let t : (read_of l (take (end_of u) u)).step ≡ end_of u = read-whole-step l (take (end_of u) u) w.front ∙ sym w.size ∙ length-take-le (end_of u) u m in
      the-answer _ (keeping l (length buf) 0) _ e
      (record {
        fits = λ h. read-of-front (keeping l (length buf) k) s buf y g m;
        exceeds = λ h. absurd (omega (arith, h, t, g, n));
        stops = sym (ne_eqb (read_of l (take (end_of u) u)).step 0 (λ c. omega (arith, t, c)));
        none_kept = refl;
      })

  of-passing : (rest : List ℕ) (left : ℕ) → take 58 buf ≡ take 58 rest → header_fault rest ≡ 0 → length buf < end_of rest → 0 < left
      → (r : PushResult) (b : List ℕ) → Row (passing l (length buf) (end_of rest) left) s buf r b → r.answer ≡ Read a → Answers l r.feed b a
  of-passing rest left c y h p _ _ (refuses z) e = apart _ _ (λ i. omega (arith, i)) e
  of-passing rest left c y h p _ _ (passes z j) e = apart _ _ (λ i. omega (arith, i)) e
  of-passing rest left c y h p _ _ (passed z j m) e = the-answer _ (keeping l (length buf) 0) _ e (exceeding rest buf refl h y c)
  of-passing rest left c y h p _ _ (short z j m) e = absurd (omega (arith, p, j))
  of-passing rest left c y h p _ _ (wrong z j m _) e = absurd (omega (arith, p, j))
  of-passing rest left c y h p _ _ (begins z j _ g m) e = absurd (omega (arith, p, j))
  of-passing rest left c y h p _ _ (exceeds z j _ g m) e = absurd (omega (arith, p, j))
  of-passing rest left c y h p _ _ (part z j _ g m) e = absurd (omega (arith, p, j))
  of-passing rest left c y h p _ _ (whole z j _ g m) e = absurd (omega (arith, p, j))

  of-push : (xs : List Answer) (rest : List ℕ) (f : Feed) (said : List Answer) → Stands l (length buf) buf xs rest f said → (push_of f s buf).answer ≡ Read a
      → Answers l (push_of f s buf).feed (buffer_of f s buf) a
  of-push xs _ _ _ (keeps k c o) e =
      of-keeping k _ _ (row (keeping l (length buf) k) s buf) (writes (keeping l (length buf) k) s buf).same_length e
  of-push xs rest _ _ (skips _ c z g o) e = of-passing rest (end_of rest - length rest) c z g (omega (arith, o)) _ _ (row _ s buf) e
  of-push xs rest _ _ (stops _ n z) e =
      apart _ _ (λ i. omega (arith, i)) (sym ((refusals (stopped_feed l (length buf)) s buf).stopped_first refl) ∙ e)

pub answers : (l : Layout) (buf : List ℕ) (ss : List (List ℕ)) (s : List ℕ) (a : Answer) → 58 ≤ length buf
    → (push_of (run l buf ss).feed s (run l buf ss).buffer).answer ≡ Read a → Answers l (after (run l buf ss) s).feed (after (run l buf ss) s).buffer a
answers l buf ss s a large e =
    let q = run l buf ss in
    let v = run-stands l buf ss large in
    of-push l q.buffer s (omega (arith, large, (run_holds l buf ss large).0)) a v.xs v.rest q.feed v.said v.stands e

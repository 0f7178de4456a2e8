-- Reading a stream from its front: a message and what follows it, an unfinished tail, a header that is refused.
use Prim.Native.Nat.{ℕ, zero, suc, ◌+◌, ◌≤◌, ◌<◌}
use mathlib.Core.Path.{◌≡◌, sym, ap, ap₂, ◌∙◌}
use mathlib.Core.Bool.{Bool, true, false, cond, ◌&&◌}
use mathlib.Core.List.{List, [], ◌∷◌, ◌++◌}
use native.Mathlib.Omega.{arith}
use lib.Dec.{eqb, leb, ltb}
use lib.ListN.{length, drop, length-append, length-drop}
use lib.Seq.{take-append-le, drop_at}
use borrow.Author.Tests.{eq-eqb, ne_eqb, le-leb, lt-leb, lt-ltb, le-ltb}
use Rattle.fields.proofs.Laws.Tests.{by_zero, cond_yes, cond_no}
use Rattle.header.specs.HeaderReader.{header_fault}
use Rattle.header.proofs.Laws.Faults.{fault-short}
use Rattle.header.proofs.Laws.Front.{fault-whole}
use Rattle.message.specs.declared.Layout.{Layout}
use Rattle.message.specs.declared.Answer.{Answer}
use Rattle.message.specs.MessageReader.{read_of, refused}
use Rattle.message.proofs.Laws.Stream.{step-within}
use Rattle.message.proofs.Laws.Read.{header_refused}
use Rattle.message.proofs.Laws.Front.{read-front, read-begun, read-whole-step}
use Rattle.feed.specs.Reading.{Reading, end_of, answer_for, tail_kept, behind, reading_within, reading_of}
use Rattle.feed.proofs.Laws.Rows.{short-fault}
use Rattle.feed.proofs.Laws.Pushes.{Whole}

-- ---- one step of the reading

module _ (l : Layout) (room n : ℕ) (s : List ℕ) where
  abbrev tail : Reading
  tail = record { answers = []; kept = tail_kept room s; stopped = false }

  abbrev refusal : Reading
  refusal = record { answers = read_of l s ∷ []; kept = []; stopped = true }

  abbrev next : Reading
  next = behind (answer_for room (read_of l s) ∷ []) (reading_within l room n (drop (read_of l s).step s))

  within-ends : (read_of l s).step ≡ 0 → reading_within l room (suc n) s ≡ cond (eqb (read_of l s).number 1) tail refusal
  unfolding reading_within
  within-ends e = cond_yes (eqb (read_of l s).step 0) _ _ (eq-eqb (read_of l s).step 0 e)

  within-next : ((read_of l s).step ≡ 0 → ⊥) → reading_within l room (suc n) s ≡ next
  unfolding reading_within
  within-next e = cond_no (eqb (read_of l s).step 0) _ _ (ne_eqb (read_of l s).step 0 e)

-- a larger bound on the number of messages changes nothing
within-enough : (l : Layout) (room n m : ℕ) (s : List ℕ) → length s < n → length s < m → reading_within l room n s ≡ reading_within l room m s
within-enough l room zero m s h k = absurd (omega (arith, h))
within-enough l room (suc n) zero s h k = absurd (omega (arith, k))
within-enough l room (suc n) (suc m) s h k =
    by_zero (read_of l s).step
    (λ e. within-ends l room n s e ∙ sym (within-ends l room m s e))
    (λ e.
    let d : List ℕ = drop (read_of l s).step s in
    let q : length d < length s = omega (arith, length-drop (read_of l s).step s, step-within l s, e) in
    within-next l room n s e
    ∙ ap (behind (answer_for room (read_of l s) ∷ [])) (within-enough l room n m d (omega (arith, q, h)) (omega (arith, q, k)))
    ∙ sym (within-next l room m s e))

-- ---- a message at the front

module _ (l : Layout) (room : ℕ) (m : List ℕ) (w : Whole m) where
  whole-step : (read_of l m).step ≡ end_of m
  whole-step = read-whole-step l m w.front

  pub answer-fits : end_of m ≤ room → answer_for room (read_of l m) ≡ read_of l m
  answer-fits h = cond_yes (leb (read_of l m).step room) _ _ (le-leb (read_of l m).step room (omega (arith, whole-step, h)))

  pub answer-exceeds : room < end_of m → answer_for room (read_of l m) ≡ refused 20 (end_of m)
  answer-exceeds h =
      cond_no (leb (read_of l m).step room) _ _ (lt-leb (read_of l m).step room (omega (arith, whole-step, h))) ∙ ap (refused 20) whole-step

  pub reading-message : (x : List ℕ) → reading_of l room (m ++ x) ≡ behind (answer_for room (read_of l m) ∷ []) (reading_of l room x)
  reading-message x =
      let s : List ℕ = m ++ x in
      let a : read_of l m ≡ read_of l s = read-front m s w.front (sym (take-append-le (end_of m) m x (omega (arith, w.size)))) l in
      let e : (read_of l s).step ≡ end_of m = ap (λ (q : Answer). q.step) (sym a) ∙ whole-step in
      let n : length s ≡ length m + length x = length-append m x in
      within-next l room (length s) s (λ z. omega (arith, z, e))
      ∙ ap₂ (λ (q : Answer) (d : List ℕ). behind (answer_for room q ∷ []) (reading_within l room (length s) d)) (sym a)
      (ap (λ (k : ℕ). drop k s) e ∙ drop_at m x (end_of m) w.size)
      ∙ ap (behind (answer_for room (read_of l m) ∷ [])) (within-enough l room (length s) (suc (length x)) x (omega (arith, n, w.size)) (omega arith))

-- ---- what is left behind the messages

module _ (l : Layout) (room : ℕ) (s : List ℕ) where
  unfinished : read_of l s ≡ refused 1 0 → reading_of l room s ≡ record { answers = []; kept = tail_kept room s; stopped = false }
  unfinished a =
      within-ends l room (length s) s (ap (λ (q : Answer). q.step) a)
      ∙ cond_yes (eqb (read_of l s).number 1) _ _ (eq-eqb (read_of l s).number 1 (ap (λ (q : Answer). q.number) a))

  tail-is : (k : List ℕ) → tail_kept room s ≡ k
      → ◌≡◌ {A = Reading} (record { answers = []; kept = tail_kept room s; stopped = false }) (record { answers = []; kept = k; stopped = false })
  tail-is k e = λ i. record { answers = []; kept = e i; stopped = false }

  -- a header that is not whole
  pub reading-short : length s < 58 → reading_of l room s ≡ record { answers = []; kept = s; stopped = false }
  reading-short h =
      unfinished (header_refused l s (short-fault s h) ∙ ap (λ (n : ℕ). refused n 0) (fault-short s h))
      ∙ tail-is s (ap (λ (b : Bool). cond (b && ltb room (end_of s)) [] s) (ne_eqb (header_fault s) 0 (short-fault s h)))

  -- a message that fits, and one that exceeds the buffer
  pub reading-part : header_fault s ≡ 0 → length s < end_of s → end_of s ≤ room → reading_of l room s ≡ record { answers = []; kept = s; stopped = false }
  reading-part z h k =
      unfinished (read-begun l s z h)
      ∙ tail-is s (ap₂ (λ (a b : Bool). cond (a && b) [] s) (eq-eqb (header_fault s) 0 z) (le-ltb room (end_of s) k))

  pub reading-passed : header_fault s ≡ 0 → length s < end_of s → room < end_of s → reading_of l room s ≡ record { answers = []; kept = []; stopped = false }
  reading-passed z h k =
      unfinished (read-begun l s z h)
      ∙ tail-is [] (ap₂ (λ (a b : Bool). cond (a && b) [] s) (eq-eqb (header_fault s) 0 z) (lt-ltb room (end_of s) k))

  -- a header that is refused
  pub reading-wrong : 58 ≤ length s → (header_fault s ≡ 0 → ⊥)
      → reading_of l room s ≡ record { answers = refused (header_fault s) 0 ∷ []; kept = []; stopped = true }
  reading-wrong h z =
      let a : read_of l s ≡ refused (header_fault s) 0 = header_refused l s z in
      within-ends l room (length s) s (ap (λ (q : Answer). q.step) a)
      ∙ cond_no (eqb (read_of l s).number 1) _ _ (ne_eqb (read_of l s).number 1 (λ e. fault-whole s h (sym (ap (λ (q : Answer). q.number) a) ∙ e)))
      ∙ (λ i. record { answers = a i ∷ []; kept = []; stopped = true })

-- No message that counted has a later clock than the book.
use Prim.Native.Nat.{ℕ, ◌≤◌}
use mathlib.Core.Path.{◌≡◌, ap, sym, subst}
use mathlib.Core.Logic.{⊎_elim}
use mathlib.Core.List.{List}
use native.Mathlib.Omega.{arith}
use Rattle.fields.proofs.Laws.Tests.{by_zero}
use Rattle.message.specs.Message.{Message}
use Rattle.history.specs.Calls.{Call, Note, note_of}
use Rattle.history.specs.Reading.{Reader}
use Rattle.history.specs.Summary.{Summary, noted, fault_on, summary_of}
use Rattle.history.specs.History.{CountsFor, Counted}
use Rattle.history.proofs.Laws.Rows.{row}
use Rattle.history.proofs.Laws.Longer.{by-calls, longer, book-next, book-kept, counted-cases}

module _ (R : Reader) where
  -- a message's becomes the book's, and was no earlier
  clock-noted : (b : Summary) (c : Call) (i t : ℕ) (m : Message) → CountsFor R b c i t m → (noted b (note_of c)).link.clock ≡ t
  clock-noted b c i t m w = ap (λ (n : Note). (noted b n).link.clock) w.is

  pub clock-received : (b : Summary) (c : Call) (i t : ℕ) (m : Message) → CountsFor R b c i t m → b.link.clock ≤ t
  clock-received b c i t m w = omega (arith, (row R c).rises b w.counts, clock-noted b c i t m w)

  abbrev Known : List Call → Type 0
  Known cs = (i k t : ℕ) (m : Message) → Counted R cs i k t m → t ≤ (summary_of R cs).link.clock

  known_more : (cs : List Call) (c : Call) → Known cs → Known (longer R cs c)
  known_more cs c K i k t m d =
      by_zero (fault_on R (summary_of R cs) c)
      (λ z.
      subst (λ (x : Summary). t ≤ x.link.clock) (sym (book-next R cs c z))
      (⊎_elim
      (λ o. omega (arith, (row R c).rises (summary_of R cs) z, K i k t m o))
      (λ w. let e = clock-noted (summary_of R cs) c i t m w.1 in omega (arith, e))
      (counted-cases R cs c i k t m d)))
      (λ z.
      subst (λ (x : Summary). t ≤ x.link.clock) (sym (book-kept R cs c z))
      (⊎_elim (K i k t m) (λ w. absurd (z w.1.counts)) (counted-cases R cs c i k t m d)))

  pub known : (cs : List Call) → Known cs
  known = by-calls Known (λ i k t m d. absurd (omega (arith, d.within))) known_more

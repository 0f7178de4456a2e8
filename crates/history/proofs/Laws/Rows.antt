-- What is proved of each call by itself, one row a call: if it is accepted, it does not set the clock back, and the history leaves one
-- answer to it.
use Prim.Native.Nat.{ℕ, ◌-◌, ◌≤◌}
use mathlib.Core.Path.{◌≡◌, sym, ap, ap₂, ◌∙◌}
use mathlib.Core.Logic.{⊎_elim}
use mathlib.Core.List.{List}
use mathlib.Core.Option.{Option, some}
use native.Mathlib.Omega.{arith}
use lib.Dec.{ltb}
use borrow.Author.Tests.{ltb-false}
use Rattle.fields.proofs.Laws.Checks.{zero-else, cond-fault}
use Rattle.message.specs.declared.Layout.{Layout}
use Rattle.message.specs.Message.{Message}
use Rattle.history.specs.Calls.{Call, add, link_up, link_down, message, look, Entry, note_of, Colour, green, grey, Answer, shown}
use Rattle.history.specs.Reading.{Reader}
use Rattle.history.specs.Summary.{Summary, noted, clock_fault, fault_on}
use Rattle.history.specs.History.{call_at, summary_before, value_for, IsColour, NoneCounted, OfLast, Shown, Accepted}
use Rattle.history.proofs.Laws.Longer.{same_received}

pub clock-passed : (clock t : ℕ) → clock_fault clock t ≡ 0 → clock ≤ t
unfolding clock_fault
clock-passed clock t z = ltb-false t clock (cond-fault (ltb t clock) 14 0 z).0

-- ---- what a look shows

module _ (R : Reader) (cs : List Call) (i now : ℕ) (a b : Answer) (S : Shown R cs i now a) (T : Shown R cs i now b) where
  both-empty : NoneCounted R cs i → a ≡ b
  both-empty q = S.is-empty.1 q ∙ sym (T.is-empty.1 q)

  -- a colour of the one is the other's
  other-colour : (k : Colour) → IsColour k a → IsColour k b
  other-colour green y = T.is-green.1 (S.is-green.0 y)
  other-colour grey y = T.is-grey.1 (S.is-grey.0 y)

  -- the link before the call at a place
  abbrev link_at : ℕ → Option Layout
  link_at j = (summary_before R cs j).link.up

  both-last : OfLast R cs i now a → OfLast R cs i now b → a ≡ b
  both-last o p =
      let c = o.last.counted.counts-for in
      let d = p.last.counted.counts-for in
      let h : o.place ≤ p.place = p.last.last o.place o.clock o.message o.last.counted in
      let k : p.place ≤ o.place = o.last.last p.place p.clock p.message p.last.counted in
      let l : o.place ≡ p.place = omega (arith, h, k) in
      let w = same_received R (link_at o.place) (link_at p.place) o.clock p.clock c.bytes d.bytes o.message p.message
      (ap link_at l) (sym c.is ∙ ap (λ (j : ℕ). note_of (call_at cs j)) l ∙ d.is) c.read d.read in
      let y = other-colour o.colour (now - o.clock, value_for o.message o.tile, o.is) in
      o.is ∙ same-shown o.colour p.colour o.clock p.clock o.message p.message o.tile p.tile y.0 y.1 w.0 w.1
      (sym o.there ∙ p.there) (sym y.2 ∙ p.is) ∙ sym p.is
    where
      same-shown : (k l : Colour) (t u : ℕ) (m n : Message) (e f : Entry) (x : ℕ) (v : List ℕ) → t ≡ u → m ≡ n → some e ≡ some f
          → shown k x v ≡ shown l (now - u) (value_for n f) → shown k (now - t) (value_for m e) ≡ shown l (now - u) (value_for n f)
      same-shown k l t u m n e f x v h g s q =
          let c : k ≡ l = cc in
          let d : e ≡ f = cc in
          let z : value_for m e ≡ value_for n f = ap₂ value_for g d in
          let y : now - t ≡ now - u = ap (λ (r : ℕ). now - r) h in
          ap₂ (λ (j : Colour) (r : ℕ). shown j r (value_for m e)) c y ∙ ap (shown l (now - u)) z

  shown-only : a ≡ b
  shown-only = ⊎_elim both-empty (λ o. ⊎_elim both-empty (both-last o) T.of-last) S.of-last

-- ---- each call

both : {a b c : Answer} → a ≡ c → b ≡ c → a ≡ b
both x y = x ∙ sym y

module _ (R : Reader) where
  pub record Row (c : Call) : Type 0 where
    pub rises : (b : Summary) → fault_on R b c ≡ 0 → b.link.clock ≤ (noted b (note_of c)).link.clock
    pub one_answer : (cs : List Call) (a b : Answer) → Accepted R cs c a → Accepted R cs c b → a ≡ b

  pub row : (c : Call) → Row c
  row (add t n h) = record { rises = λ b z. omega arith; one_answer = λ cs a b. both }
  row (link_up l t) = record { rises = λ b. clock-passed b.link.clock t; one_answer = λ cs a b. both }
  row (link_down t) = record { rises = λ b. clock-passed b.link.clock t; one_answer = λ cs a b. both }
  row (message t s) =
      record {
        rises = λ b z. clock-passed b.link.clock t (zero-else (clock_fault b.link.clock t) _ z).0;
        one_answer = λ cs a b. both;
      }
  row (look i t) = record { rises = λ b z. omega arith; one_answer = λ cs. shown-only R cs i t }

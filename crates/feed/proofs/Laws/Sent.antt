-- Messages that fit the buffer, sent one after the other.
use Prim.Native.Nat.{ℕ, ◌≤◌}
use mathlib.Core.Path.{◌≡◌, sym, ap, ap₂, ◌∙◌}
use mathlib.Core.Bool.{false}
use mathlib.Core.List.{List, [], ◌∷◌, append-nil, map}
use native.Mathlib.Omega.{arith}
use lib.ListN.{length}
use Rattle.fields.specs.Lists.{Each, flat}
use Rattle.fields.proofs.Laws.Tests.{by_zero}
use Rattle.message.specs.declared.Layout.{Layout}
use Rattle.message.specs.declared.Answer.{Answer}
use Rattle.message.specs.Message.{WellFormed, Message, encode}
use Rattle.message.specs.MessageReader.{front_fault, read_of}
use Rattle.message.specs.Demand2.{Begins}
use Rattle.message.proofs.Laws.Read.{front-refused}
use Rattle.message.proofs.Laws.Front.{front-passed, read-whole-step}
use Rattle.message.proofs.Laws.Messages.{demand-2}
use Rattle.feed.specs.Reading.{Reading, behind, reading_of}
use Rattle.feed.specs.FeedTheorems.{Sent}
use Rattle.feed.proofs.Laws.Pushes.{Whole}
use Rattle.feed.proofs.Laws.Readings.{answer-fits, reading-message, reading-short}
use Rattle.feed.proofs.Laws.Cuts.{cuts}

whole-message : (l : Layout) (m : Message) → WellFormed l m → Whole (encode l m)
whole-message l m w =
    let s : List ℕ = encode l m in
    let b : Begins l s m = record { well = w; rest = []; bytes = append-nil s } in
    let n : (read_of l s).number ≡ 0 = (demand-2 l).begun s m b in
    let z : front_fault s ≡ 0 =
    by_zero (front_fault s) (λ z. z) (λ z. absurd (z (sym (ap (λ (a : Answer). a.number) (front-refused l s z)) ∙ n))) in
    record { front = z; header = (front-passed s z).0; size = sym ((demand-2 l).step s m b) ∙ read-whole-step l s z }

reading-sent : (l : Layout) (room : ℕ) (ms : List Message) → Each (λ m. WellFormed l m × (length (encode l m) ≤ room)) ms
    → reading_of l room (flat (encode l) ms) ≡ record { answers = map (λ m. read_of l (encode l m)) ms; kept = []; stopped = false }
unfolding flat
reading-sent l room [] h = reading-short l room [] (omega arith)
reading-sent l room (m ∷ ms) h =
    let w : Whole (encode l m) = whole-message l m h.0.0 in
    reading-message l room (encode l m) w (flat (encode l) ms)
    ∙ ap₂ (λ (a : Answer) (r : Reading). behind (a ∷ []) r) (answer-fits l room (encode l m) w (omega (arith, w.size, h.0.1))) (reading-sent l room ms h.1)

pub sent : (l : Layout) → Sent l
sent l buf ss ms large h e = (cuts l).joined buf ss large ∙ ap (reading_of l (length buf)) e ∙ reading-sent l (length buf) ms h

-- Every writer: what is stated of it, and what its code owes to keep its promise.
use Prim.Native.Nat.{ℕ, ◌≤◌}
use mathlib.Core.Path.{◌≡◌, sym, ap, ◌∙◌}
use mathlib.Core.Bool.{false≢true}
use mathlib.Core.List.{List, ◌++◌}
use lib.Dec.{eqb}
use lib.ListN.{length, take, drop}
use lib.Seq.{sets, take_at, drop_at}
use borrow.Author.Tests.{eq-eqb, ne_eqb}
use Rattle.std.specs.Prelude.{Result, Ok, Err, IsErr}
use Rattle.fields.specs.Answer.{Written, Wrote, Refused, written_of, written_number, written_count, room_fault}
use Rattle.fields.specs.Writers.{writer_fault, written_count_by, written_by, out_by, WriterPromise, WriterTheorems}
use Rattle.fields.specs.declared.fault.Fault.{Fault}
use Rattle.fields.specs.Fault.{fault_number, number_of}
use Rattle.fields.proofs.Laws.Answer.{fault_some, room-enough, room_fits}
use Rattle.fields.proofs.Laws.Checks.{zero-else, else-zero}
use Rattle.fields.proofs.Laws.Stores.{sets-front}
use Rattle.fields.proofs.Laws.Tests.{by_zero, cond_yes, cond_no}

module _ (fault : ℕ) (bytes : List ℕ) where
  -- no fault, and room
  pub writer-passes : (room : ℕ) → fault ≡ 0 → length bytes ≤ room → writer_fault fault bytes room ≡ 0
  writer-passes room h k = else-zero fault (room_fault (length bytes) room) h (room-enough (length bytes) room k)

  pub writer-passed : (room : ℕ) → writer_fault fault bytes room ≡ 0 → (fault ≡ 0) × (length bytes ≤ room)
  writer-passed room z = let k = zero-else fault (room_fault (length bytes) room) z in (k.0, room_fits (length bytes) room k.1)

  pub answer-wrote : (room : ℕ) → writer_fault fault bytes room ≡ 0 → written_by fault bytes room ≡ Wrote (length bytes)
  unfolding written_by
  answer-wrote room z = cond_yes (eqb (writer_fault fault bytes room) 0) _ _ (eq-eqb (writer_fault fault bytes room) 0 z)

  answer-refused : (room : ℕ) → (writer_fault fault bytes room ≡ 0 → ⊥) → written_by fault bytes room ≡ Refused (writer_fault fault bytes room)
  unfolding written_by
  answer-refused room n = cond_no (eqb (writer_fault fault bytes room) 0) _ _ (ne_eqb (writer_fault fault bytes room) 0 n)

  number : (room : ℕ) → written_number (written_by fault bytes room) ≡ writer_fault fault bytes room
  number room =
      by_zero (writer_fault fault bytes room)
      (λ z. ap written_number (answer-wrote room z) ∙ sym z)
      (λ n. ap written_number (answer-refused room n))

  count : (room : ℕ) → written_count (written_by fault bytes room) ≡ written_count_by fault bytes room
  unfolding written_count_by
  count room =
      by_zero (writer_fault fault bytes room)
      (λ z. ap written_count (answer-wrote room z) ∙ sym (cond_yes (eqb (writer_fault fault bytes room) 0) (length bytes) 0 (eq-eqb (writer_fault fault bytes room) 0 z)))
      (λ n. ap written_count (answer-refused room n) ∙ sym (cond_no (eqb (writer_fault fault bytes room) 0) (length bytes) 0 (ne_eqb (writer_fault fault bytes room) 0 n)))

  out-kept : (out : List ℕ) → (writer_fault fault bytes (length out) ≡ 0 → ⊥) → out_by fault bytes out ≡ out
  unfolding out_by
  out-kept out n = cond_no (eqb (writer_fault fault bytes (length out)) 0) _ out (ne_eqb (writer_fault fault bytes (length out)) 0 n)

  pub out-filled : (out : List ℕ) → writer_fault fault bytes (length out) ≡ 0 → out_by fault bytes out ≡ bytes ++ drop (length bytes) out
  unfolding out_by
  out-filled out z = cond_yes (eqb (writer_fault fault bytes (length out)) 0) _ out (eq-eqb (writer_fault fault bytes (length out)) 0 z)

  -- what stands at the front
  pub out-front : (out : List ℕ) (n : ℕ) → length bytes ≡ n → writer_fault fault bytes (length out) ≡ 0 → take n (out_by fault bytes out) ≡ bytes
  out-front out n e z = ap (take n) (out-filled out z) ∙ take_at bytes (drop (length bytes) out) n e

  beyond : (out : List ℕ)
      → drop (written_count (written_by fault bytes (length out))) (out_by fault bytes out) ≡ drop (written_count (written_by fault bytes (length out))) out
  beyond out =
      by_zero (writer_fault fault bytes (length out))
      (λ z.
      let n : length bytes ≡ written_count (written_by fault bytes (length out)) = sym (ap written_count (answer-wrote (length out) z)) in
      ap (drop (written_count (written_by fault bytes (length out)))) (out-filled out z)
      ∙ drop_at bytes (drop (length bytes) out) (written_count (written_by fault bytes (length out))) n
      ∙ ap (λ (k : ℕ). drop k out) n)
      (λ n. ap (drop (written_count (written_by fault bytes (length out)))) (out-kept out n))

  pub writer-theorems : WriterTheorems fault bytes
  writer-theorems =
      record {
        number = number;
        count = count;
        untouched = λ out h. out-kept out (λ z. h (number (length out) ∙ z));
        wrote = λ room h k. answer-wrote room (writer-passes room h k);
        buffer = λ out h k. out-filled out (writer-passes (length out) h k);
        front = λ out h.
            let z = sym (number (length out)) ∙ h in
            out-front out _ (sym (ap written_count (answer-wrote (length out) z))) z;
        beyond = beyond;
      }

  -- ---- the promise

  promise : (out left : List ℕ) (answer : Written) → answer ≡ written_by fault bytes (length out) → left ≡ out_by fault bytes out
      → WriterPromise fault bytes out answer left
  promise out left answer a b =
      record {
        written = a;
        number = ap written_number a ∙ number (length out);
        count = ap written_count a ∙ count (length out);
        buffer = b;
      }

  -- the code found a fault
  pub refuses : (out : List ℕ) (r : Result ℕ Fault) → IsErr r → number_of r ≡ writer_fault fault bytes (length out)
      → WriterPromise fault bytes out (written_of r) out
  refuses out (Ok n) h e = absurd (false≢true h)
  refuses out (Err f) h e =
      let k : writer_fault fault bytes (length out) ≡ 0 → ⊥ = λ z. fault_some f (e ∙ z) in
      promise out out (Refused (fault_number f)) (ap Refused e ∙ sym (answer-refused (length out) k)) (sym (out-kept out k))

  -- it found none, and wrote the n bytes
  pub writes : (out left : List ℕ) (n : ℕ) → writer_fault fault bytes (length out) ≡ 0 → n ≡ length bytes → left ≡ bytes ++ drop n out
      → WriterPromise fault bytes out (Wrote n) left
  writes out left n z e l =
      promise out left (Wrote n) (ap Wrote e ∙ sym (answer-wrote (length out) z))
      (l ∙ ap (λ (k : ℕ). bytes ++ drop k out) e ∙ sym (out-filled out z))

  -- it stored them
  pub stored : (out left : List ℕ) (n : ℕ) → writer_fault fault bytes (length out) ≡ 0 → n ≡ length bytes → left ≡ sets out 0 bytes
      → WriterPromise fault bytes out (Wrote n) left
  stored out left n z e l =
      writes out left n z e (l ∙ sets-front out bytes (writer-passed (length out) z).1 ∙ ap (λ (k : ℕ). bytes ++ drop k out) (sym e))

-- A refused call gives back the panel that it got, the code's own.
use mathlib.Core.Path.{◌≡◌, refl, sym, ap, ◌∙◌}
use mathlib.Core.List.{List}
use Prim.Native.Nat.{ℕ}
use lib.Dec.{eqb}
use borrow.Author.Tests.{eqb-true}
use Rattle.std.specs.Prelude.{Result, Ok, Err, OnErr}
use Rattle.fields.specs.declared.fault.Fault.{Fault}
use Rattle.fields.specs.Fault.{number_of}
use Rattle.fields.proofs.Laws.Answer.{fault_some}
use Rattle.fields.proofs.Laws.Tests.{cond_cases}
use Rattle.history.specs.Calls.{Call, add, Answer, accepted, refused, answer_number}
use Rattle.panel.specs.declared.Panel as code
use Rattle.panel.specs.Records.{AddResult, CallResult}
use Rattle.panel.specs.Calls.{panel_of, added_of, add_result, call_result, add_of}
use Rattle.panel.specs.Answers.{Called, called_by, add_answer, call_answer}
use Rattle.panel.specs.Demand3.{result_of, answer_to, panel_next}
use Rattle.panel.proofs.Laws.Rows.{refused-kept}
use Rattle.panel.proofs.Laws.Same.{same-panel}

on_refusal : {A : Type 0} (r : Result A Fault) (p q : code.Panel) (c : Call) → panel_next (panel_of p) c ≡ panel_of q
    → answer_number (answer_to (panel_of p) c) ≡ number_of r → OnErr r (q ≡ p)
on_refusal (Ok x) p q c e a = tt
on_refusal (Err f) p q c e a = same-panel q p (sym e ∙ refused-kept (panel_of p) c (λ y. fault_some f (sym a ∙ y)))

added-number : (r : Result ℕ Fault) → answer_number (add_answer (added_of r)) ≡ number_of r
added-number (Ok i) = refl
added-number (Err f) = refl

called-number : (n : ℕ) → answer_number (call_answer n) ≡ n
called-number n = cond_cases (λ (a : Answer). answer_number a ≡ n) (eqb n 0) accepted (refused n) (λ e. sym (eqb-true n 0 e)) (λ e. refl)

-- an add
pub add_kept : (r : Result ℕ Fault) (p q : code.Panel) (t n : List ℕ) (h : ℕ) → add_result q r ≡ add_of (panel_of p) t n h → OnErr r (q ≡ p)
add_kept r p q t n h e =
    on_refusal r p q (add t n h) (sym (ap (λ (x : AddResult). x.panel) e))
    (ap (λ (x : AddResult). answer_number (add_answer x.answer)) (sym e) ∙ added-number r)

-- a link call or a message
pub call_kept : (r : Result (Unit {0}) Fault) (p q : code.Panel) (c : Call) (a : CallResult)
    → called_by (result_of (panel_of p) c) ≡ record { panel = a.panel; answer = call_answer a.number } → call_result q r ≡ a → OnErr r (q ≡ p)
call_kept r p q c a d e =
    on_refusal r p q c (ap (λ (x : Called). x.panel) d ∙ sym (ap (λ (x : CallResult). x.panel) e))
    (ap (λ (x : Called). answer_number x.answer) d ∙ called-number a.number ∙ sym (ap (λ (x : CallResult). x.number) e))

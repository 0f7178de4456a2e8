-- What running a script gives: call by call as the code runs it, and by the book and the history.
use Prim.Native.Nat.{ℕ, zero, suc, ◌-◌, ◌≤◌, ◌<◌}
use mathlib.Core.Path.{◌≡◌, refl, sym, ap, subst, ◌∙◌}
use mathlib.Core.Bool.{Bool, true, false, cond}
use mathlib.Core.List.{List, [], ◌∷◌, foldl}
use mathlib.Core.Option.{some}
use native.Mathlib.Omega.{arith}
use lib.Dec.{eqb}
use lib.ListN.{length, take, drop}
use Rattle.fields.specs.Bytes.{Bytes}
use Rattle.fields.specs.Lists.{Each}
use Rattle.fields.proofs.Laws.Lists.{each_take}
use Rattle.fields.proofs.Laws.Walks.{walk_step}
use Rattle.history.specs.Calls.{Call, add, link_up, link_down, message, look, OfBytes, refused, accepted}
use Rattle.history.specs.Reading.{Reader}
use Rattle.history.specs.History.{call_at, IsColoured, Answers}
use Rattle.panel.specs.Records.{Panel, AddResult, AddAnswer, CallResult, LookResult}
use Rattle.panel.specs.Records as add-answer
use Rattle.panel.specs.declared.LookAnswer.{LookAnswer}
use Rattle.panel.specs.declared.LookAnswer.TheVariants as look-answer
use Rattle.panel.specs.declared.Value.{Value}
use Rattle.panel.specs.Calls.{fresh_panel, add_of, link_of, message_of, look_of}
use Rattle.panel.specs.Answers.{add_answer, look_answer, Result, of_add, of_call, Called, called_by}
use Rattle.panel.specs.Demand3.{result_of, answer_to, panel_next, panel_after}
use Rattle.panel.proofs.Laws.Contents.{bytes_of, PaddedValue, no-value-padded}
use Rattle.panel.proofs.Laws.Demand3.{demand-3}
use Rattle.replay.specs.Records.{Accepted, Refused, Answered, Performed}
use Rattle.replay.specs.Script.{call_length, call_of, calls_in}
use Rattle.replay.specs.Replay.{added_as, shown_as, after_add, after_call, after_look, performed_by, performed}
use Rattle.replay.specs.Replay.{no_call, answer_among, answer_at, look_after, saying, Says, AnswersAt, ShowsAfter}
use Rattle.replay.proofs.Laws.Script.{calls-none, calls-next, calls-bytes}

-- ---- one call

-- what the panel's calls give is handed on with the panel, as the code does it
abbrev pub handed_on : Panel → Answered → Performed
handed_on p a = record { panel = p; answered = a }

-- the call c on the panel p, by what the panel's own call returns
pub performs-as : (p : Panel) (c : Call) {d : Call} {r : Result} → d ≡ c → r ≡ result_of p d → performed_by r ≡ performed p c
unfolding performed
performs-as p c e q = ap performed_by q ∙ ap (performed p) e

add-says : (a : AddAnswer) (v : List ℕ) → saying (added_as a) v ≡ some (add_answer a)
add-says (add-answer.Added i) v = refl
add-says (add-answer.Refused n) v = refl

call-says : (t : Bool) (n : ℕ) (v : List ℕ) → saying (cond t Accepted (Refused n)) v ≡ some (cond t accepted (refused n))
call-says true n v = refl
call-says false n v = refl

look-says : (a : LookAnswer) (v : Value) → saying (shown_as a) (bytes_of v) ≡ some (look_answer a v)
look-says look-answer.Empty v = refl
look-says (look-answer.Green a) v = refl
look-says (look-answer.Grey a) v = refl
look-says (look-answer.Refused n) v = refl

-- a call as it is performed, and as `Demand3` has it: the panel, the answer, and the value beside it
record Performs (p : Panel) (q : Performed) (r : Called) : Type 0 where
  panel : q.panel ≡ r.panel
  says : saying q.answered.answer (bytes_of q.answered.value) ≡ some r.answer
  padded : ((i now : ℕ) → PaddedValue (look_of p i now).value) → PaddedValue q.answered.value
  no_value : (IsColoured r.answer → ⊥) → q.answered.value.len ≡ 0

module _ (p : Panel) where
  add-performs : (r : AddResult) → Performs p (after_add r) (called_by (of_add r))
  add-performs r = record { panel = refl; says = add-says r.answer _; padded = λ h. no-value-padded; no_value = λ z. refl }

  call-performs : (r : CallResult) → Performs p (after_call r) (called_by (of_call r))
  call-performs r =
      record { panel = refl; says = call-says (eqb r.number 0) _ _; padded = λ h. no-value-padded; no_value = λ z. refl }

  performs : (c : Call) → Performs p (performed p c) (called_by (result_of p c))
  unfolding performed
  performs (add t n h) = add-performs (add_of p t n h)
  performs (link_up l t) = call-performs (link_of true l p t)
  performs (link_down t) = call-performs (link_of false p.link.layout p t)
  performs (message t s) = call-performs (message_of p t s)
  performs (look i now) =
      record {
        panel = refl;
        says = look-says (look_of p i now).answer (look_of p i now).value;
        padded = λ h. h i now;
        no_value = demand-3.no_value p i now;
      }

-- ---- what `Demand3` says of the call c after the calls cs

module _ (cs : List Call) (bytes : Each OfBytes cs) where
  performed-answers : (c : Call) → ((R : Reader) → Answers R cs c (answer_to (panel_after cs) c)) → Says cs c (performed (panel_after cs) c).answered
  performed-answers c d =
      record {
        answer = answer_to (panel_after cs) c;
        says = (performs (panel_after cs) c).says;
        answers = d;
        padded = (performs (panel_after cs) c).padded (demand-3.claim demand-3.readers.some cs bytes).padded;
        no_value = (performs (panel_after cs) c).no_value;
      }

-- ---- the call at a place

among-inside : (k : ℕ) (p : Panel) (cs : List Call) → k < length cs
    → answer_among k p cs ≡ (performed (foldl panel_next p (take k cs)) (call_at cs k)).answered
unfolding answer_among
among-inside k p [] h = absurd (omega arith)
among-inside zero p (c ∷ cs) h = refl
among-inside (suc k) p (c ∷ cs) h = among-inside k (panel_next p c) cs (omega arith)

among-past : (k : ℕ) (p : Panel) (cs : List Call) → length cs ≤ k → answer_among k p cs ≡ no_call
unfolding answer_among
among-past k p [] h = refl
among-past zero p (c ∷ cs) h = absurd (omega arith)
among-past (suc k) p (c ∷ cs) h = among-past k (panel_next p c) cs (omega arith)

-- the two promises of `answer_at`
pub answers_at : (s : List ℕ) (k : ℕ) {r : Answered} → Bytes s → r ≡ answer_at s k → (r ≡ answer_at s k) × AnswersAt s k r
unfolding answer_at panel_after
answers_at s k b e =
    let cs = calls_in s in
    let o = calls-bytes s b in (
      e,
      subst (AnswersAt s k) (sym e)
          (record {
            inside = λ l.
                subst (Says (take k cs) (call_at cs k)) (sym (among-inside k fresh_panel cs l))
                (performed-answers (take k cs) (each_take OfBytes k cs o) (call_at cs k) (λ R. (demand-3.claim R cs o).inside k l));
            past = λ l.
                let e = among-past k fresh_panel cs l in
                (ap (λ (a : Answered). a.answer) e, ap (λ (a : Answered). a.value.len) e);
          }),
    )

-- and of `look_after`
pub shows-after : (s : List ℕ) (i now : ℕ) {r : Answered} → Bytes s → r ≡ look_after s i now → (r ≡ look_after s i now) × ShowsAfter s i now r
unfolding look_after performed
shows-after s i now b e =
    let cs = calls_in s in
    let o = calls-bytes s b in
    (e, subst (Says cs (look i now)) (sym e) (performed-answers cs o (look i now) (λ R. (demand-3.claim R cs o).after i now)))

-- a look on the panel p after all calls, as the code makes it
pub look-shown : (s : List ℕ) (i now : ℕ) {p : Panel} {l : LookResult} {q : Answered} → p ≡ panel_after (calls_in s) → l ≡ look_of p i now
    → q ≡ (after_look l).answered → q ≡ look_after s i now
unfolding look_after
look-shown s i now a b e =
    e ∙ ap (λ (x : LookResult). (after_look x).answered) (b ∙ ap (λ (x : Panel). look_of x i now) a)

-- ---- the first call, and the calls left

-- the panel that the calls of a script give, from the panel p on
abbrev pub ran_on : Panel → List ℕ → Panel
ran_on p s = foldl panel_next p (calls_in s)

-- q is what the first call gives, as the code performs it
module _ (p : Panel) (s : List ℕ) (h : 0 < length s) {q : Performed} (done : q ≡ performed p (call_of s)) where
  next-panel : panel_next p (call_of s) ≡ q.panel
  next-panel = sym (ap (λ (x : Performed). x.panel) done ∙ (performs p (call_of s)).panel)

  pub answer-here : (k : ℕ) → k ≡ 0 → answer_among k p (calls_in s) ≡ q.answered
  unfolding answer_among
  answer-here k z =
      ap (λ (j : ℕ). answer_among j p (calls_in s)) z
      ∙ ap (answer_among 0 p) (calls-next s h)
      ∙ sym (ap (λ (x : Performed). x.answered) done)

  -- and t what it leaves
  module _ {n : ℕ} (taken : n ≡ call_length s) {t : List ℕ} (left : t ≡ drop n s) where
    next-left : calls_in s ≡ call_of s ∷ calls_in t
    next-left = calls-next s h ∙ sym (ap (λ (l : List ℕ). call_of s ∷ calls_in l) (left ∙ ap (λ (m : ℕ). drop m s) taken))

    pub run-next : ran_on p s ≡ ran_on q.panel t
    run-next = ap (foldl panel_next p) next-left ∙ ap (λ (x : Panel). ran_on x t) next-panel

    pub answer-next : (k : ℕ) → (k ≡ 0 → ⊥) → answer_among k p (calls_in s) ≡ answer_among (k - 1) q.panel (calls_in t)
    unfolding answer_among
    answer-next k z =
        walk_step (λ (j : ℕ). answer_among j p (calls_in s)) k (omega (arith, z))
        ∙ ap (answer_among (suc (k - 1)) p) next-left
        ∙ ap (λ (x : Panel). answer_among (k - 1) x (calls_in t)) next-panel

-- ---- where the loops begin and end

pub run-start : (s : List ℕ) {p : Panel} → p ≡ fresh_panel → panel_after (calls_in s) ≡ ran_on p s
unfolding panel_after
run-start s e = ap (λ (p : Panel). ran_on p s) (sym e)

pub run_end : (p : Panel) (s : List ℕ) → length s ≤ 0 → ran_on p s ≡ p
run_end p s h = ap (foldl panel_next p) (calls-none s h)

pub answer-start : (s : List ℕ) (k : ℕ) {p : Panel} → p ≡ fresh_panel → answer_at s k ≡ answer_among k p (calls_in s)
unfolding answer_at
answer-start s k e = ap (λ (p : Panel). answer_among k p (calls_in s)) (sym e)

pub answer-end : (k : ℕ) (p : Panel) (s : List ℕ) → length s ≤ 0 → answer_among k p (calls_in s) ≡ no_call
unfolding answer_among
answer-end k p s h = ap (answer_among k p) (calls-none s h)

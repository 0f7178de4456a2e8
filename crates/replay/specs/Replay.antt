-- What running a script gives: by the panel's definitions, and by the book and the history (rules 1.7 to 1.9 and 7.10).
use Rattle.std.specs.Prelude.{ℕ, zero, suc, ◌<◌, ◌≤◌, ◌≡◌, cond, List, [], ◌∷◌, eqb, length, take}
use Rattle.std.proofs.Math.Option.{Option, none, some}
use Rattle.history.specs.Calls.{Call, look, green, grey, Answer, refused, accepted, added, empty, shown, value_bytes, Padded}
use Rattle.history.specs.Reading.{Reader}
use Rattle.history.specs.History.{call_at, IsColoured, Answers}
use Rattle.panel.specs.Records.{Panel, AddResult, AddAnswer, CallResult, LookResult}
use Rattle.panel.specs.Records as add-answer
use Rattle.panel.specs.declared.LookAnswer.{LookAnswer}
use Rattle.panel.specs.declared.LookAnswer.TheVariants as look-answer
use Rattle.panel.specs.Tiles.{no_value}
use Rattle.panel.specs.Calls.{fresh_panel, look_of}
use Rattle.panel.specs.Answers.{Result, of_add, of_call, of_look}
use Rattle.panel.specs.Demand3.{result_of, panel_next, panel_after}
use Rattle.replay.specs.Records.{CallAnswer, Accepted, Added, Empty, Green, Grey, Refused, NoCall, Answered, Performed}
use Rattle.replay.specs.Script.{calls_in}

-- ---- by the panel's definitions

abbrev pub without_value : CallAnswer → Answered
without_value a = record { answer = a; value = no_value }

abbrev pub added_as : AddAnswer → CallAnswer
added_as (add-answer.Added i) = Added i
added_as (add-answer.Refused n) = Refused n

-- a link or message call, by its number
abbrev pub called_as : ℕ → CallAnswer
called_as n = cond (eqb n 0) Accepted (Refused n)

abbrev pub shown_as : LookAnswer → CallAnswer
shown_as look-answer.Empty = Empty
shown_as (look-answer.Green a) = Green a
shown_as (look-answer.Grey a) = Grey a
shown_as (look-answer.Refused n) = Refused n

abbrev pub after_add : AddResult → Performed
after_add r = record { panel = r.panel; answered = without_value (added_as r.answer) }

abbrev pub after_call : CallResult → Performed
after_call r = record { panel = r.panel; answered = without_value (cond (eqb r.number 0) Accepted (Refused r.number)) }

abbrev pub after_look : LookResult → Performed
after_look r = record { panel = r.panel; answered = record { answer = shown_as r.answer; value = r.value } }

-- one call on a panel, by what it returns
abbrev pub performed_by : Result → Performed
performed_by (of_add r) = after_add r
performed_by (of_call r) = after_call r
performed_by (of_look r) = after_look r

unfoldable pub performed : Panel → Call → Performed
performed p c = performed_by (result_of p c)

abbrev pub no_call : Answered
no_call = without_value NoCall

-- the answer of the call at a place among calls that begin on this panel
unfoldable pub answer_among : ℕ → Panel → List Call → Answered
answer_among k p [] = no_call
answer_among zero p (c ∷ cs) = (performed p c).answered
answer_among (suc k) p (c ∷ cs) = answer_among k (panel_next p c) cs

unfoldable pub answer_at : List ℕ → ℕ → Answered
answer_at s k = answer_among k fresh_panel (calls_in s)

unfoldable pub look_after : List ℕ → ℕ → ℕ → Answered
look_after s i now = (after_look (look_of (panel_after (calls_in s)) i now)).answered

-- ---- by the book and the history

-- each answer as a case of `Answer` in crate history (rule 9.6); none where there is no call
abbrev pub saying : CallAnswer → List ℕ → Option Answer
saying Accepted v = some accepted
saying (Added i) v = some (added i)
saying Empty v = some empty
saying (Green a) v = some (shown green a v)
saying (Grey a) v = some (shown grey a v)
saying (Refused n) v = some (refused n)
saying NoCall v = none

-- r says what the book and the history say of the call c after the calls cs, with any reader (rule 1.4); past its value's bytes are zeros,
-- and a value goes with green and grey alone
pub record Says (cs : List Call) (c : Call) (r : Answered) : Type 0 where
  pub answer : Answer
  pub says : saying r.answer (value_bytes r.value.bytes r.value.len) ≡ some answer
  pub answers : (R : Reader) → Answers R cs c answer
  pub padded : Padded r.value.bytes r.value.len
  pub no_value : (IsColoured answer → ⊥) → r.value.len ≡ 0

pub record AnswersAt (s : List ℕ) (k : ℕ) (r : Answered) : Type 0 where
  pub inside : k < length (calls_in s) → Says (take k (calls_in s)) (call_at (calls_in s) k) r
  pub past : length (calls_in s) ≤ k → (r.answer ≡ NoCall) × (r.value.len ≡ 0)

abbrev pub ShowsAfter : List ℕ → ℕ → ℕ → Answered → Type 0
ShowsAfter s i now r = Says (calls_in s) (look i now) r

-- The panel's answers as cases of `Answer` in crate history: for each its number and the values that it carries (rule 9.6).
use Rattle.std.specs.Prelude.{ℕ, cond, eqb}
use Rattle.history.specs.Calls.{green, grey, Answer, refused, accepted, added, empty, shown, value_bytes}
use Rattle.panel.specs.declared.Value.{Value}
use Rattle.panel.specs.Records.{Panel, AddResult, CallResult, LookResult, AddAnswer, Added, Refused}
use Rattle.panel.specs.declared.LookAnswer.{LookAnswer}
use Rattle.panel.specs.declared.LookAnswer.TheVariants as looked

-- of an add
abbrev pub add_answer : AddAnswer → Answer
add_answer (Added i) = added i
add_answer (Refused n) = refused n

-- of a link or message call, by its number
abbrev pub call_answer : ℕ → Answer
call_answer n = cond (eqb n 0) accepted (refused n)

-- of a look, with the value beside it
abbrev pub look_answer : LookAnswer → Value → Answer
look_answer looked.Empty v = empty
look_answer (looked.Green a) v = shown green a (value_bytes v.bytes v.len)
look_answer (looked.Grey a) v = shown grey a (value_bytes v.bytes v.len)
look_answer (looked.Refused n) v = refused n

-- what a call returns, by its type
pub data Result : Type 0 where
  of_add : AddResult → Result
  of_call : CallResult → Result
  of_look : LookResult → Result

-- the panel that it has, and the answer in these words
pub record Called : Type 0 where
  pub panel : Panel
  pub answer : Answer

abbrev pub called_by : Result → Called
called_by (of_add r) = record { panel = r.panel; answer = add_answer r.answer }
called_by (of_call r) = record { panel = r.panel; answer = call_answer r.number }
called_by (of_look r) = record { panel = r.panel; answer = look_answer r.answer r.value }

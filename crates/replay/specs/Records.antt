-- What the calls of a script answer, as the definitions have it, and what the code's answers stand for in it.
use Rattle.std.specs.Prelude.{ℕ, Option, Some, None}
use Rattle.panel.specs.declared.Panel as panel
use Rattle.panel.specs.declared.Value.{Value}
use Rattle.panel.specs.Records.{Panel}
use Rattle.panel.specs.Tiles.{no_value}
use Rattle.panel.specs.Calls.{panel_of}
use Rattle.replay.specs.declared.CallAnswer as code
use Rattle.replay.specs.declared.CallAnswer.TheVariants as said
use Rattle.replay.specs.declared.Answered as beside

-- what a call answered; NoCall where the script has no call at that place
pub data CallAnswer : Type 0 where
  Accepted : CallAnswer
  Added : ℕ → CallAnswer
  Empty : CallAnswer
  Green : ℕ → CallAnswer
  Grey : ℕ → CallAnswer
  Refused : ℕ → CallAnswer
  NoCall : CallAnswer

-- and the value with green or grey; else the value is empty
pub record Answered : Type 0 where
  pub answer : CallAnswer
  pub value : Value

-- the panel after a call, and what the call answered
pub record Performed : Type 0 where
  pub panel : Panel
  pub answered : Answered

abbrev pub answer_of : code.CallAnswer → CallAnswer
answer_of said.Accepted = Accepted
answer_of (said.Added i) = Added i
answer_of said.Empty = Empty
answer_of (said.Green a) = Green a
answer_of (said.Grey a) = Grey a
answer_of (said.Refused n) = Refused n

abbrev pub answered_of : beside.Answered → Answered
answered_of r = record { answer = answer_of r.answer; value = r.value }

-- at a place of a script
abbrev pub answered_in : Option beside.Answered → Answered
answered_in None = record { answer = NoCall; value = no_value }
answered_in (Some r) = answered_of r

abbrev pub performed_of : panel.Panel → beside.Answered → Performed
performed_of p r = record { panel = panel_of p; answered = answered_of r }

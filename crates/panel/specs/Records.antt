-- The panel and what its calls give back, as the definitions have them. What the code's values stand for in them: Tiles (tile_of), Calls
-- (panel_of, add_result, call_result, look_result).
use Rattle.std.specs.Prelude.{ℕ, Bool, List}
use Rattle.panel.specs.declared.Value.{Value}
use Rattle.panel.specs.declared.Label.{Label}
use Rattle.panel.specs.declared.Link.{Link}
use Rattle.panel.specs.declared.LookAnswer.{LookAnswer}

-- a place of the table: whether a tile has it, which one, its hold time (rule 7.3), and the last message that counted for it (rule 7.9), if
-- one did: its clock, its value, and whether it came since the last accepted link call
pub record Tile : Type 0 where
  pub used : Bool
  pub label : Label
  pub hold_time : ℕ
  pub counted : Bool
  pub since_link : Bool
  pub clock : ℕ
  pub value : Value

pub record Panel : Type 0 where
  pub tiles : List Tile
  pub link : Link

-- the new tile's number, or the number of the refusal (rule 5.1)
pub data AddAnswer : Type 0 where
  Added : ℕ → AddAnswer
  Refused : ℕ → AddAnswer

-- the panel after an add, and its answer
pub record AddResult : Type 0 where
  pub panel : Panel
  pub answer : AddAnswer

-- the panel after a link or message call, and the number (rule 5.1): 0 where a link call is accepted or a message counts (rule 7.5)
pub record CallResult : Type 0 where
  pub panel : Panel
  pub number : ℕ

-- the panel after a look, what the tile shows, and the value beside it
pub record LookResult : Type 0 where
  pub panel : Panel
  pub answer : LookAnswer
  pub value : Value

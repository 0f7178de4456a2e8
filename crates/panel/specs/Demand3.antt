-- Rules 1.7 to 1.9 and 7.10: one theorem about every sequence of calls, of the definitions that the contracts of `Panel` cite.
use Rattle.std.specs.Prelude.{ℕ, ◌<◌, ◌≡◌, true, false, length, take}
use mathlib.Core.List.{List, foldl}
use Rattle.fields.specs.Lists.{Each}
use Rattle.history.specs.Calls.{Call, add, link_up, link_down, message, look, OfBytes, Answer, Padded, answer_number}
use Rattle.history.specs.Reading.{Reader, ReaderTheorems}
use Rattle.history.specs.History.{call_at, IsColoured, Answers}
use Rattle.history.specs.Words.{Words}
use Rattle.panel.specs.Records.{Panel}
use Rattle.panel.specs.Answers.{Result, of_add, of_call, of_look, called_by}
use Rattle.panel.specs.Calls.{fresh_panel, add_of, link_of, message_of, look_of}

-- what a call on a panel returns
abbrev pub result_of : Panel → Call → Result
result_of p (add t n h) = of_add (add_of p t n h)
result_of p (link_up l t) = of_call (link_of true l p t)
result_of p (link_down t) = of_call (link_of false p.link.layout p t)
result_of p (message t s) = of_call (message_of p t s)
result_of p (look i now) = of_look (look_of p i now)

-- its answer, and the panel that it gives back
abbrev pub answer_to : Panel → Call → Answer
answer_to p c = (called_by (result_of p c)).answer

abbrev pub panel_next : Panel → Call → Panel
panel_next p c = (called_by (result_of p c)).panel

-- from a fresh panel on, each call gets the panel that the last one gave back
unfoldable pub panel_after : List Call → Panel
panel_after cs = foldl panel_next fresh_panel cs

pub record Claim (R : Reader) (cs : List Call) : Type 0 where
  -- every call in the sequence answers what its checks on the book of the calls before it say; a look shows what their history says
  pub inside : (k : ℕ) → k < length cs → Answers R (take k cs) (call_at cs k) (answer_to (panel_after (take k cs)) (call_at cs k))
  -- so does a look after it
  pub after : (i now : ℕ) → Answers R cs (look i now) (answer_to (panel_after cs) (look i now))
  -- its value's length is that of the content, and the bytes past it are 0
  pub padded : (i now : ℕ) → Padded (look_of (panel_after cs) i now).value.bytes (look_of (panel_after cs) i now).value.len

pub record Demand3 : Type 0 where
  -- with any reader (rule 1.4); there is one, and any two agree on all bytes; bytes are read as one message exactly where they are its encoding
  pub readers : ReaderTheorems
  -- the book and the history leave at most one answer to each call; a tile's messages stand after its adding; the layout of the
  -- link is the one named last; tiles are numbered in order
  pub words : Words
  pub claim : (R : Reader) (cs : List Call) → Each OfBytes cs → Claim R cs
  -- a refused call gives the panel back unchanged, and so does every look, for every panel
  pub refused : (p : Panel) (c : Call) → (answer_number (answer_to p c) ≡ 0 → ⊥) → panel_next p c ≡ p
  pub looked : (p : Panel) (i now : ℕ) → panel_next p (look i now) ≡ p
  -- a look that is neither green nor grey has no value, for every panel
  pub no_value : (p : Panel) (i now : ℕ) → (IsColoured (answer_to p (look i now)) → ⊥) → (look_of p i now).value.len ≡ 0

-- What rules 1.7, 1.8 and 7.9 say of a sequence of calls. A call's place is its number in the sequence, from 0; the book that it meets
-- is that of the calls before it.
use Rattle.std.specs.Prelude.{ℕ, ◌-◌, ◌<◌, ◌≤◌, ◌≡◌, ◌⊎◌, ◌↔◌, true, List, length, take, get_or}
use Rattle.std.proofs.Math.Option.{Option, none, some}
use Rattle.content.specs.Tree as tree
use Rattle.message.specs.Message.{Message}
use Rattle.history.specs.Calls.{Call, add, link_up, link_down, message, look, Entry, Link, linking, receiving, note_of, Colour, green, grey, Answer, refused, accepted, added, empty, shown}
use Rattle.history.specs.Places.{passes, first_free}
use Rattle.history.specs.Reading.{one_message, Reader}
use Rattle.history.specs.Summary.{Summary, tile_at, carries, read_on, fault_on, summary_of}

abbrev pub call_at : List Call → ℕ → Call
call_at cs k = get_or cs k (look 0 0)

-- the hold time of a tile
abbrev pub hold_time_of : Option Entry → ℕ
hold_time_of none = 0
hold_time_of (some e) = e.hold_time

-- the value that a message gives a tile: its content, whichever tile it is (rule 7.7)
abbrev pub value_for : Message → Entry → List ℕ
value_for m e = tree.encode m.content

-- the answer is this colour, with some age and value
abbrev pub IsColour : Colour → Answer → Type 0
IsColour k a = (age : ℕ) × (value : List ℕ) × (a ≡ shown k age value)

-- it is some colour: a value goes with it
abbrev pub IsColoured : Answer → Type 0
IsColoured a = (k : Colour) × IsColour k a

module _ (R : Reader) where
  abbrev pub summary_before : List Call → ℕ → Summary
  summary_before cs k = summary_of R (take k cs)

  -- the call c, where the book is b, has that clock and bytes that are the message m in the layout of the link; it counts, and the book
  -- already has a tile i of its name and type (rule 7.9)
  pub record CountsFor (b : Summary) (c : Call) (i clock : ℕ) (m : Message) : Type 0 where
    pub bytes : List ℕ
    pub is : note_of c ≡ receiving clock bytes
    pub read : read_on R b.link.up bytes ≡ one_message m
    pub counts : fault_on R b c ≡ 0
    pub carried : passes (carries m) (tile_at b i) ≡ true

  -- at place k stands a message that counts for tile i
  pub record Counted (cs : List Call) (i k clock : ℕ) (m : Message) : Type 0 where
    pub within : k < length cs
    pub counts-for : CountsFor (summary_before cs k) (call_at cs k) i clock m

  -- an accepted link call
  pub record LinkCall (b : Summary) (c : Call) : Type 0 where
    pub link : Link
    pub is : note_of c ≡ linking link
    pub accepted : fault_on R b c ≡ 0

  -- no call after place k is so, where P says it of the book before a call and the call
  abbrev pub NoneAfter : (Summary → Call → Type 0) → List Call → ℕ → Type 0
  NoneAfter P cs k = (j : ℕ) → k < j → j < length cs → P (summary_before cs j) (call_at cs j) → ⊥

  -- no accepted link call stands after place k
  abbrev pub NoLinkAfter : List Call → ℕ → Type 0
  NoLinkAfter cs k = NoneAfter LinkCall cs k

  -- the condition for green (rule 1.7)
  pub record Current (cs : List Call) (i now : ℕ) : Type 0 where
    pub place : ℕ
    pub clock : ℕ
    pub message : Message
    pub counted : Counted cs i place clock message
    pub no-link : NoLinkAfter cs place
    pub no-older : now - clock ≤ hold_time_of (tile_at (summary_of R cs) i)

  -- no message counted for the tile
  abbrev pub NoneCounted : List Call → ℕ → Type 0
  NoneCounted cs i = (k t : ℕ) (m : Message) → Counted cs i k t m → ⊥

  -- the message at place k is the last that counted for the tile
  pub record Last (cs : List Call) (i k clock : ℕ) (m : Message) : Type 0 where
    pub counted : Counted cs i k clock m
    pub last : (j t : ℕ) (n : Message) → Counted cs i j t n → j ≤ k

  -- a colour, with the value that the last message that counted gives the tile, and with the look's clock less that message's as the age
  pub record OfLast (cs : List Call) (i now : ℕ) (a : Answer) : Type 0 where
    pub place : ℕ
    pub clock : ℕ
    pub message : Message
    pub tile : Entry
    pub colour : Colour
    pub last : Last cs i place clock message
    pub not-later : clock ≤ now
    pub there : tile_at (summary_of R cs) i ≡ some tile
    pub is : a ≡ shown colour (now - clock) (value_for message tile)

  -- what a look at tile i shows after the calls cs
  pub record Shown (cs : List Call) (i now : ℕ) (a : Answer) : Type 0 where
    pub is-green : IsColour green a ↔ Current cs i now
    pub is-empty : (a ≡ empty) ↔ NoneCounted cs i
    pub is-grey : IsColour grey a ↔ ((NoneCounted cs i → ⊥) × (Current cs i now → ⊥))
    pub of-last : NoneCounted cs i ⊎ OfLast cs i now a

  -- what a call answers that is not refused; an add, the smallest number that no tile has
  abbrev pub Accepted : List Call → Call → Answer → Type 0
  Accepted cs (add t n h) a = a ≡ added (first_free (summary_of R cs).tiles)
  Accepted cs (link_up l t) a = a ≡ accepted
  Accepted cs (link_down t) a = a ≡ accepted
  Accepted cs (message t s) a = a ≡ accepted
  Accepted cs (look i now) a = Shown cs i now a

  -- the answer a of the call c after the calls cs is the book's, and of a look the history's
  pub record Answers (cs : List Call) (c : Call) (a : Answer) : Type 0 where
    pub refusal : (fault_on R (summary_of R cs) c ≡ 0 → ⊥) → a ≡ refused (fault_on R (summary_of R cs) c)
    pub acceptance : fault_on R (summary_of R cs) c ≡ 0 → Accepted cs c a

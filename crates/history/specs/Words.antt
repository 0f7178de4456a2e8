-- What follows from the words of the book and the history alone, for any calls: the answer to a call; the places of a tile's adding and of its
-- messages, and of the link call that named the layout.
use Rattle.std.specs.Prelude.{ℕ, ◌<◌, ◌≡◌, ◌↔◌, List, length}
use Rattle.std.proofs.Math.Option.{some}
use Rattle.message.specs.declared.Layout.{Layout}
use Rattle.message.specs.Message.{Message}
use Rattle.history.specs.Calls.{Call, link_up, Entry, adding, note_of, Answer}
use Rattle.history.specs.Places.{first_free, count_of}
use Rattle.history.specs.Reading.{Reader}
use Rattle.history.specs.Summary.{tile_at, fault_on, summary_of}
use Rattle.history.specs.History.{call_at, summary_before, Counted, NoLinkAfter, Answers}

module _ (R : Reader) where
  -- at place j stands an accepted add that gave the number i to this tile
  pub record AddedAt (cs : List Call) (i j : ℕ) (e : Entry) : Type 0 where
    pub within : j < length cs
    pub is : note_of (call_at cs j) ≡ adding e
    pub accepted : fault_on R (summary_before R cs j) (call_at cs j) ≡ 0
    pub number : first_free (summary_before R cs j).tiles ≡ i

  -- this tile was added with the number i, and every message that counts for the number stands after the adding
  pub record AfterAdding (cs : List Call) (i : ℕ) (e : Entry) : Type 0 where
    pub place : ℕ
    pub added : AddedAt cs i place e
    pub after : (k t : ℕ) (m : Message) → Counted R cs i k t m → place < k

  -- at some place stands an accepted link up that named this layout, and no accepted link call after it
  pub record NamedLast (cs : List Call) (l : Layout) : Type 0 where
    pub place : ℕ
    pub clock : ℕ
    pub within : place < length cs
    pub is : call_at cs place ≡ link_up l clock
    pub accepted : fault_on R (summary_before R cs place) (call_at cs place) ≡ 0
    pub last : NoLinkAfter R cs place

pub record Words : Type 0 where
  -- they leave at most one answer to a call
  pub one_answer : (R : Reader) (cs : List Call) (c : Call) (a b : Answer) → Answers R cs c a → Answers R cs c b → a ≡ b
  -- a tile of the book was added, and its messages came later (rule 7.9)
  pub after_adding : (R : Reader) (cs : List Call) (i : ℕ) (e : Entry) → tile_at (summary_of R cs) i ≡ some e → AfterAdding R cs i e
  -- messages are read in the layout of the last link up that was accepted (rule 7.11)
  pub named_last : (R : Reader) (cs : List Call) (l : Layout) → ((summary_of R cs).link.up ≡ some l) ↔ NamedLast R cs l
  -- tiles are numbered in order of adding (rule 7.3): the smallest free number is how many tiles there are
  pub in_order : (R : Reader) (cs : List Call) → first_free (summary_of R cs).tiles ≡ count_of (summary_of R cs).tiles

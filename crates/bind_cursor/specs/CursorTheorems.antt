-- What is proved of the walk: in an accepted content it comes to each of its children, in order, and to no other; a refused one has none.
use Rattle.std.specs.Prelude.{ℕ, zero, suc, ◌+◌, ◌-◌, ◌≤◌, ◌<◌, ◌≡◌, Bool, false, cond, List, [], ◌∷◌, map, eqb, length}
use Rattle.fields.specs.Bytes.{Bytes}
use Rattle.bind_layout.specs.Children.{Child}
use Rattle.content.specs.ContentCheck.{bind_fault, deepest}
use Rattle.bind_lookup.specs.ChildLookup.{mark_of, place_of}
use Rattle.bind_lookup.specs.LookupTheorems.{HasChildren, AtIndex, Marks}
use Rattle.bind_cursor.specs.declared.Cursor.{Cursor}
use Rattle.bind_cursor.specs.Cursor.{no_child, first_of, next_of, type_part, name_part, data_part}

-- the cursor after n calls of `next_child`
unfoldable pub after : ℕ → List ℕ → Cursor
after zero s = first_of s
after (suc n) s = next_of s (after n s)

-- what is handed out of a child: the text of its type, its name and its data
pub record Handed : Type 0 where
  pub type : List ℕ
  pub name : List ℕ
  pub content : List ℕ

-- those of a child, and those at a cursor
abbrev pub handed_of : Child → Handed
handed_of c = record { type = c.type_text; name = c.name; content = c.content }

abbrev pub handed_at : List ℕ → Cursor → Handed
handed_at s x = record { type = type_part s x; name = name_part s x; content = data_part s x }

-- all that is handed out from a cursor on while a child is left, in at most k steps
unfoldable pub walked : ℕ → List ℕ → Cursor → List Handed
walked zero s x = []
walked (suc k) s x = cond (eqb x.left 0) [] (handed_at s x ∷ walked k s (next_of s x))

-- the cursor is at index n of these children, at c: it stands where the look-up of n says
pub record StandsAt (s : List ℕ) (cs : List Child) (n : ℕ) (c : Child) (x : Cursor) : Type 0 where
  pub number : x.number ≡ 0
  pub left : n + x.left ≡ length cs
  pub handed : handed_at s x ≡ handed_of c
  pub place : place_of s n ≡ record { number = 0; at = x.at; len = x.len; clean = x.clean }
  pub mark : x.clean ≡ mark_of s

pub record CursorTheorems : Type 0 where
  -- after n steps it is at child n; past the last one there is none
  pub child : (s : List ℕ) (cs : List Child) (n : ℕ) (c : Child) → HasChildren s cs → AtIndex n c cs → StandsAt s cs n c (after n s)
  pub past : (s : List ℕ) (cs : List Child) (n : ℕ) → HasChildren s cs → length cs ≤ n → after n s ≡ no_child 0 (mark_of s)
  -- the whole walk hands out exactly the children, in their order
  pub walk : (s : List ℕ) (cs : List Child) (k : ℕ) → HasChildren s cs → length cs ≤ k → walked k s (first_of s) ≡ map handed_of cs
  -- an accepted content has children (LookupTheorems, some)
  pub some : (s : List ℕ) → Bytes s → (first_of s).number ≡ 0 → (cs : List Child) × HasChildren s cs
  -- the mark is that of the whole content, at each child and past them
  pub mark : (s : List ℕ) (n : ℕ) → (after n s).number ≡ 0 → Marks (after n s).clean s
  -- the number stays that of the content; one that is refused has no child, and no step changes that
  pub number : (s : List ℕ) (n : ℕ) → (after n s).number ≡ bind_fault deepest s
  pub refused : (s : List ℕ) (n : ℕ) → (bind_fault deepest s ≡ 0 → ⊥) → after n s ≡ no_child (bind_fault deepest s) false
  pub refused_walk : (s : List ℕ) (k : ℕ) → (bind_fault deepest s ≡ 0 → ⊥) → walked k s (first_of s) ≡ []
  -- at no child all but the number and the mark is 0
  pub nothing : (number : ℕ) (mark : Bool)
      → no_child number mark
      ≡ record { number = number; left = 0; type_at = 0; type_len = 0; name_at = 0; name_len = 0; at = 0; len = 0; clean = mark }
  -- without a child the parts have no bytes (rule 5.6)
  pub empty : (s : List ℕ) (number : ℕ) (mark : Bool) → handed_at s (no_child number mark) ≡ record { type = []; name = []; content = [] }
  -- a loop while a child is left ends: it begins unrefused, and each step leaves one child less, of any content and any cursor without a refusal
  pub begins : (s : List ℕ) → 0 < (first_of s).left → (first_of s).number ≡ 0
  pub counts_down : (s : List ℕ) (x : Cursor) → x.number ≡ 0 → ((next_of s x).number ≡ 0) × ((next_of s x).left ≡ x.left - 1)
  -- of any content, any cursor that is refused or has no child left stays
  pub stays_refused : (s : List ℕ) (x : Cursor) → (x.number ≡ 0 → ⊥) → next_of s x ≡ x
  pub stays_ended : (s : List ℕ) (x : Cursor) → x.left ≡ 0 → next_of s x ≡ x

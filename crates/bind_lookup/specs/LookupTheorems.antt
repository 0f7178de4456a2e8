-- What is proved of look-ups: for an accepted content they give its children, those of the tree that is written as it, and its mark.
use Rattle.std.specs.Prelude.{ℕ, ◌+◌, ◌*◌, ◌≤◌, ◌≡◌, ◌⊎◌, ◌↔◌, Bool, true, false, List, [], ◌∷◌, ◌++◌, length}
use Rattle.fields.specs.Bytes.{Bytes}
use Rattle.fields.specs.Lists.{Each, flat}
use Rattle.bind_layout.specs.Children.{Child, child_data, name_table}
use Rattle.content.specs.Tree.{Children, bind, encode, child_list, WellFormed, IsClean}
use Rattle.content.specs.ContentCheck.{bind_fault, deepest}
use Rattle.bind_lookup.specs.ChildLookup.{Place, mark_of, count_of, place_of, named_place, part_at, type_at, name_at}
use Rattle.bind_lookup.specs.EitherLookup.{Source, Site, Default, Neither, either_place, bundle_of, either_data, Finds}

-- these are the children of an accepted content: a well formed BIND with them is written as it
pub record HasChildren (s : List ℕ) (cs : List Child) : Type 0 where
  pub tree : Children
  pub well : WellFormed (bind tree) deepest
  pub bytes : encode (bind tree) ≡ s
  pub children : child_list tree ≡ cs

-- c is at index n of the list
pub record AtIndex (n : ℕ) (c : Child) (cs : List Child) : Type 0 where
  pub before : List Child
  pub after : List Child
  pub list : before ++ (c ∷ after) ≡ cs
  pub index : length before ≡ n

-- none of the list has the name
abbrev pub NoneNamed : List ℕ → List Child → Type 0
NoneNamed x cs = Each (λ c. c.name ≡ x → ⊥) cs

-- c, at index n, is the first of the list with the name
pub record FirstNamed (x : List ℕ) (n : ℕ) (c : Child) (cs : List Child) : Type 0 where
  pub at_index : AtIndex n c cs
  pub named : c.name ≡ x
  pub first : NoneNamed x at_index.before

-- the mark of a content (rule 13.2) is true exactly if every text in it is clean, to its innermost children
abbrev pub Marks : Bool → List ℕ → Type 0
Marks clean s = (cs : List Child) (h : HasChildren s cs) → (clean ≡ true) ↔ IsClean (bind h.tree)

-- where the data of a child stand in a content: behind the counts, the headers, the name table and the data of those before it
abbrev pub place_among : Bool → List Child → List Child → Child → Place
place_among mark cs before c =
    record { number = 0; at = 4 + 20 * length cs + length (name_table cs) + length (flat child_data before); len = length c.content; clean = mark }

-- what holds of a place holds of its number, which can be asked by itself
pub record LookupTheorems : Type 0 where
  -- an accepted content has children
  pub some : (s : List ℕ) → Bytes s → bind_fault deepest s ≡ 0 → (cs : List Child) × HasChildren s cs
  pub count : (s : List ℕ) (cs : List Child) → HasChildren s cs → count_of s ≡ record { number = 0; count = length cs; clean = mark_of s }
  -- by index
  pub place : (s : List ℕ) (cs : List Child) (n : ℕ) (c : Child) → HasChildren s cs → (k : AtIndex n c cs) → place_of s n ≡ place_among (mark_of s) cs k.before c
  pub content : (s : List ℕ) (cs : List Child) (n : ℕ) (c : Child) → HasChildren s cs → AtIndex n c cs → part_at (place_of s n) s ≡ c.content
  pub type : (s : List ℕ) (cs : List Child) (n : ℕ) (c : Child) → HasChildren s cs → AtIndex n c cs → type_at s n ≡ c.type_text
  pub name : (s : List ℕ) (cs : List Child) (n : ℕ) (c : Child) → HasChildren s cs → AtIndex n c cs → name_at s n ≡ c.name
  pub none : (s : List ℕ) (cs : List Child) (n : ℕ) → HasChildren s cs → length cs ≤ n → place_of s n ≡ record { number = 19; at = 0; len = 0; clean = false }
  pub index_or_none : (n : ℕ) (cs : List Child) → ((c : Child) × AtIndex n c cs) ⊎ (length cs ≤ n)
  -- by name
  pub named : (s : List ℕ) (cs : List Child) (x : List ℕ) (n : ℕ) (c : Child) → HasChildren s cs → FirstNamed x n c cs → named_place s x ≡ place_of s n
  pub unnamed : (s : List ℕ) (cs : List Child) (x : List ℕ) → HasChildren s cs → NoneNamed x cs → named_place s x ≡ record { number = 19; at = 0; len = 0; clean = false }
  pub named_or_none : (x : List ℕ) (cs : List Child) → ((n : ℕ) × (c : Child) × FirstNamed x n c cs) ⊎ NoneNamed x cs
  -- whichever child is asked for, the mark is that of the whole content (rule 13.4)
  pub mark : (s : List ℕ) (n : ℕ) → (place_of s n).number ≡ 0 → Marks (place_of s n).clean s
  pub mark_named : (s x : List ℕ) → (named_place s x).number ≡ 0 → Marks (named_place s x).clean s
  pub mark_count : (s : List ℕ) → (count_of s).number ≡ 0 → Marks (count_of s).clean s
  -- a refused content refuses every look-up, by its number; the mark of a refusal is false (rule 13.3)
  pub refused : (s : List ℕ) (n : ℕ) → (bind_fault deepest s ≡ 0 → ⊥) → place_of s n ≡ record { number = bind_fault deepest s; at = 0; len = 0; clean = false }
  pub refused_named : (s x : List ℕ) → (bind_fault deepest s ≡ 0 → ⊥) → named_place s x ≡ record { number = bind_fault deepest s; at = 0; len = 0; clean = false }
  pub refused_count : (s : List ℕ) → (bind_fault deepest s ≡ 0 → ⊥) → count_of s ≡ record { number = bind_fault deepest s; count = 0; clean = false }
  -- the part that a refusal returns has no bytes (rule 5.6)
  pub empty : (s : List ℕ) (n : ℕ) → ((place_of s n).number ≡ 0 → ⊥) → (part_at (place_of s n) s ≡ []) × (type_at s n ≡ []) × (name_at s n ≡ [])
  pub empty_named : (s x : List ℕ) → ((named_place s x).number ≡ 0 → ⊥) → part_at (named_place s x) s ≡ []

-- of two bundles, by cases on both. What `find` answers is put together of these (Finds)
pub record EitherTheorems : Type 0 where
  pub site : (a b : List ℕ) (cs ds : List Child) (x : List ℕ) (n : ℕ) (c : Child) → HasChildren a cs → HasChildren b ds → FirstNamed x n c cs
      → (either_place a b x ≡ record { number = 0; source = Site; at = (place_of a n).at; len = (place_of a n).len; clean = mark_of a }) × (either_data a b x ≡ c.content)
  pub default : (a b : List ℕ) (cs ds : List Child) (x : List ℕ) (n : ℕ) (c : Child) → HasChildren a cs → HasChildren b ds → NoneNamed x cs → FirstNamed x n c ds
      → (either_place a b x ≡ record { number = 0; source = Default; at = (place_of b n).at; len = (place_of b n).len; clean = mark_of b }) × (either_data a b x ≡ c.content)
  -- the mark is that of the bundle answered from
  pub mark : (a b x : List ℕ) → (either_place a b x).number ≡ 0 → Marks (either_place a b x).clean (bundle_of (either_place a b x).source a b)
  pub neither : (a b : List ℕ) (cs ds : List Child) (x : List ℕ) → HasChildren a cs → HasChildren b ds → NoneNamed x cs → NoneNamed x ds
      → either_place a b x ≡ record { number = 19; source = Neither; at = 0; len = 0; clean = false }
  pub site_fault : (a b x : List ℕ) → (bind_fault deepest a ≡ 0 → ⊥) → either_place a b x ≡ record { number = bind_fault deepest a; source = Neither; at = 0; len = 0; clean = false }
  pub default_fault : (a b x : List ℕ) → bind_fault deepest a ≡ 0 → (bind_fault deepest b ≡ 0 → ⊥)
      → either_place a b x ≡ record { number = bind_fault deepest b; source = Neither; at = 0; len = 0; clean = false }
  -- a refusal is of neither bundle, and its part has no bytes (rule 5.6)
  pub empty : (a b x : List ℕ) → ((either_place a b x).number ≡ 0 → ⊥) → ((either_place a b x).source ≡ Neither) × (either_data a b x ≡ [])
  -- what `find` answers is no other number, part, source or mark
  pub found : (a b x : List ℕ) (number : ℕ) (bytes : List ℕ) (source : Source) (mark : Bool) → Finds a b x number bytes source mark
      → (number ≡ (either_place a b x).number) × (bytes ≡ either_data a b x) × (source ≡ (either_place a b x).source) × (mark ≡ (either_place a b x).clean)

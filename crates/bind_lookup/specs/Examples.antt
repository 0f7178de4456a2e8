-- Look-ups in contents given byte by byte: the number, the place, the length and the mark; of two bundles, which.
use Rattle.std.specs.Prelude.{ℕ, ◌≡◌, Bool, true, false, List, [], ◌∷◌, ◌++◌, map, replicate}
use Rattle.bind_layout.specs.Examples.{two_children}
use Rattle.content.specs.Examples.{no_children, within, inner, outer, inner_rest, outer_rest}
use Rattle.bind_lookup.specs.ChildLookup.{Place, count_of, place_of, named_place, part_at, type_at, name_at}
use Rattle.bind_lookup.specs.EitherLookup.{EitherPlace, Source, Site, Default, Neither, either_place, either_data, Finds}

-- three children of type "T": name "D", 81 82; name "A", 91; name "A", 92. `two_children` has "A" and "BC"
abbrev pub three_children : List ℕ
three_children =
    0 ∷ 3
    ∷ (0x54 ∷ replicate 18 0) ++ (2
    ∷ (0x54 ∷ replicate 18 0) ++ (1
    ∷ (0x54 ∷ replicate 18 0) ++ (1
    ∷ 0 ∷ 6 ∷ 0x44 ∷ 0 ∷ 0x41 ∷ 0 ∷ 0x41 ∷ 0
    ∷ 0x81 ∷ 0x82 ∷ 0x91 ∷ 0 ∷ 0x92 ∷ 0
    ∷ [])))

-- a child of type "T" without data, and then a BIND of no bytes, which is 10; a BIND at level 5, which is 11
abbrev pub faulty_child : List ℕ
faulty_child = 0 ∷ 2 ∷ (0x54 ∷ replicate 19 0) ++ (0x42 ∷ 0x49 ∷ 0x4E ∷ 0x44 ∷ replicate 16 0 ++ (0 ∷ 2 ∷ 0 ∷ 0 ∷ []))

abbrev pub too_deep : List ℕ
too_deep = within (within (within (within no_children)))

-- a BIND of one child with this letter as its name, of type "T" with these eleven bytes behind its text, and of the byte 07
abbrev pub one : ℕ → List ℕ → List ℕ
one n r = 0 ∷ 1 ∷ 0x54 ∷ r ++ (0 ∷ 0 ∷ 0 ∷ 0 ∷ 0 ∷ 0 ∷ 0 ∷ 1 ∷ 0 ∷ 2 ∷ n ∷ 0 ∷ 7 ∷ 0 ∷ [])

-- a BIND of two: "A", as there, and "N", a BIND with these eight bytes behind its text, whose only child is "B"
abbrev pub two : List ℕ → List ℕ → List ℕ → List ℕ
two r n s =
    0 ∷ 2
    ∷ 0x54 ∷ r ++ (0 ∷ 0 ∷ 0 ∷ 0 ∷ 0 ∷ 0 ∷ 0 ∷ 1
    ∷ 0x42 ∷ 0x49 ∷ 0x4E ∷ 0x44 ∷ n ++ (0 ∷ 0 ∷ 0 ∷ 0 ∷ 0 ∷ 0 ∷ 0 ∷ 28
    ∷ 0 ∷ 4 ∷ 0x41 ∷ 0 ∷ 0x4E ∷ 0
    ∷ 7 ∷ 0 ∷ one 0x42 s))

-- behind a text of one byte: zeros, and bytes that are not clean
abbrev pub zeros : List ℕ
zeros = replicate 11 0

abbrev pub uncleared : List ℕ
uncleared = 0 ∷ replicate 10 0xFF

-- all clean; the first CTYPE not, the second not, the one inside the second child not
abbrev pub bundles : List (List ℕ)
bundles =
    two zeros (replicate 8 0) zeros
    ∷ two uncleared (replicate 8 0) zeros
    ∷ two zeros outer_rest zeros
    ∷ two zeros (replicate 8 0) uncleared
    ∷ []

-- answers: a place, a length and a mark, or a number
abbrev pub found : ℕ → ℕ → Bool → Place
found at len mark = record { number = 0; at = at; len = len; clean = mark }

abbrev pub refused : ℕ → Place
refused n = record { number = n; at = 0; len = 0; clean = false }

abbrev pub found_in : Source → ℕ → ℕ → Bool → EitherPlace
found_in source at len mark = record { number = 0; source = source; at = at; len = len; clean = mark }

abbrev pub of_neither : ℕ → EitherPlace
of_neither n = record { number = n; source = Neither; at = 0; len = 0; clean = false }

-- by index and by name
abbrev pub looked_up : List ℕ → List Place
looked_up s = place_of s 0 ∷ place_of s 1 ∷ named_place s (0x41 ∷ []) ∷ named_place s (0x4E ∷ []) ∷ place_of s 2 ∷ []

-- "A", "B" and "C"
abbrev pub letters : List ℕ → List ℕ → List EitherPlace
letters site default = map (either_place site default) ((0x41 ∷ []) ∷ (0x42 ∷ []) ∷ (0x43 ∷ []) ∷ [])

pub record Examples : Type 0 where
  pub count : count_of two_children ≡ record { number = 0; count = 2; clean = true }
  -- by index: the first, the second, and none
  pub at_index : map (place_of two_children) (0 ∷ 1 ∷ 2 ∷ [])
      ≡ found 50 3 true ∷ found 54 1 true ∷ refused 19 ∷ []
  pub contents : map (λ n. part_at (place_of two_children n) two_children) (0 ∷ 1 ∷ 2 ∷ []) ≡ (0x61 ∷ 0x62 ∷ 0x63 ∷ []) ∷ (0x71 ∷ []) ∷ [] ∷ []
  pub types : map (type_at two_children) (0 ∷ 1 ∷ 2 ∷ []) ≡ (0x50 ∷ 0x51 ∷ []) ∷ (0x52 ∷ 0x53 ∷ 0x54 ∷ []) ∷ [] ∷ []
  pub names : map (name_at two_children) (0 ∷ 1 ∷ 2 ∷ []) ≡ (0x41 ∷ []) ∷ (0x42 ∷ 0x43 ∷ []) ∷ [] ∷ []
  -- by name: the second child, the first of two with the name, the front of a name, no name
  pub named : named_place two_children (0x42 ∷ 0x43 ∷ []) ≡ found 54 1 true
  pub named_first : named_place three_children (0x41 ∷ []) ≡ found 72 1 true
  pub unnamed : map (named_place two_children) ((0x42 ∷ []) ∷ [] ∷ []) ≡ replicate 2 (refused 19)
  -- the number by itself
  pub faults : map (λ n. (place_of two_children n).number) (0 ∷ 1 ∷ 2 ∷ []) ≡ 0 ∷ 0 ∷ 19 ∷ []
  pub named_faults : map (λ x. (named_place two_children x).number) ((0x41 ∷ []) ∷ (0x42 ∷ []) ∷ []) ≡ 0 ∷ 19 ∷ []
  -- a fault of a later child, or a byte left over, refuses each look-up
  pub faulty : place_of faulty_child 0 ≡ refused 10
  pub faulty_named : named_place (two_children ++ (0 ∷ [])) (0x41 ∷ []) ≡ refused 10
  pub faulty_count : count_of faulty_child ≡ record { number = 10; count = 0; clean = false }
  -- of two bundles: a name of both, of the default one, of neither
  pub site : either_place two_children three_children (0x41 ∷ []) ≡ found_in Site 50 3 true
  pub site_part : either_data two_children three_children (0x41 ∷ []) ≡ 0x61 ∷ 0x62 ∷ 0x63 ∷ []
  pub default : either_place two_children three_children (0x44 ∷ []) ≡ found_in Default 70 2 true
  pub default_part : either_data two_children three_children (0x44 ∷ []) ≡ 0x81 ∷ 0x82 ∷ []
  pub neither : either_place two_children three_children (0x45 ∷ []) ≡ of_neither 19
  pub finds : Finds two_children three_children (0x44 ∷ []) 0 (0x81 ∷ 0x82 ∷ []) Default true
  pub finds_none : Finds two_children three_children (0x45 ∷ []) 19 [] Neither false
  -- the site's fault, the default's though the site has the name, and of two faults the site's
  pub site_fault : either_place too_deep two_children (0x41 ∷ []) ≡ of_neither 11
  pub default_fault : either_place two_children too_deep (0x41 ∷ []) ≡ of_neither 11
  pub both_faults : either_place too_deep faulty_child (0x41 ∷ []) ≡ of_neither 11
  pub both_faults_turned : either_place faulty_child too_deep (0x41 ∷ []) ≡ of_neither 10
  -- the mark is that of the whole content, whichever child is asked for; a refusal's is false
  pub marks : map looked_up bundles
      ≡ (found 48 1 true ∷ found 50 28 true ∷ found 48 1 true ∷ found 50 28 true ∷ refused 19 ∷ [])
      ∷ replicate 3 (found 48 1 false ∷ found 50 28 false ∷ found 48 1 false ∷ found 50 28 false ∷ refused 19 ∷ [])
  pub marks_count : map count_of bundles ≡ record { number = 0; count = 2; clean = true } ∷ replicate 3 (record { number = 0; count = 2; clean = false })
  -- a child that is a BIND is handed out as received; a type is its text
  pub received : named_place (outer (replicate 8 0) (inner inner_rest)) (0x4E ∷ []) ≡ found 26 74 false
  pub as_received : part_at (named_place (outer (replicate 8 0) (inner inner_rest)) (0x4E ∷ [])) (outer (replicate 8 0) (inner inner_rest)) ≡ inner inner_rest
  pub type_texts : map (type_at (two uncleared outer_rest uncleared)) (0 ∷ 1 ∷ []) ≡ (0x54 ∷ []) ∷ (0x42 ∷ 0x49 ∷ 0x4E ∷ 0x44 ∷ []) ∷ []
  -- of two bundles the mark of the one answered from: the site's "A", the default one's "B", and no "C"
  pub site_mark : letters (one 0x41 uncleared) (one 0x42 zeros) ≡ found_in Site 26 1 false ∷ found_in Default 26 1 true ∷ of_neither 19 ∷ []
  pub default_mark : letters (one 0x41 zeros) (one 0x42 uncleared) ≡ found_in Site 26 1 true ∷ found_in Default 26 1 false ∷ of_neither 19 ∷ []
  pub both_marks : letters (one 0x41 uncleared) (one 0x42 uncleared) ≡ found_in Site 26 1 false ∷ found_in Default 26 1 false ∷ of_neither 19 ∷ []
  -- an "A" in both
  pub same_name : letters (one 0x41 zeros) (one 0x41 uncleared) ≡ found_in Site 26 1 true ∷ of_neither 19 ∷ of_neither 19 ∷ []

-- The children of a BIND, given as three lists: their types, after which zeros are put, their names, their contents.
use Rattle.std.specs.Prelude.{ℕ, ◌-◌, ◌^◌, ◌<◌, ◌≡◌, List, [], ◌∷◌, map, length, replicate}
use Rattle.fields.specs.Lists.{Each}
use Rattle.bind_layout.specs.Children.{ctype_size, Child}

-- the children, as many as the shortest list has
unfoldable pub children : List (List ℕ) → List (List ℕ) → List (List ℕ) → List Child
children [] ns ds = []
children (t ∷ ts) [] ds = []
children (t ∷ ts) (n ∷ ns) [] = []
children (t ∷ ts) (n ∷ ns) (d ∷ ds) = record { type_text = t; rest = replicate (ctype_size - length t) 0; name = n; content = d } ∷ children ts ns ds

-- the lists of given children
abbrev pub types_of : List Child → List (List ℕ)
types_of cs = map (λ c. c.type_text) cs

abbrev pub names_of : List Child → List (List ℕ)
names_of cs = map (λ c. c.name) cs

abbrev pub contents_of : List Child → List (List ℕ)
contents_of cs = map (λ c. c.content) cs

-- P holds of all children with these types and names, whatever their contents; with these types and contents, whatever their names
abbrev pub WithNames : List (List ℕ) → List (List ℕ) → (List Child → Type 0) → Type 0
WithNames ts ns P = (cs : List Child) → types_of cs ≡ ts → names_of cs ≡ ns → P cs

abbrev pub WithContents : List (List ℕ) → List (List ℕ) → (List Child → Type 0) → Type 0
WithContents ts ds P = (cs : List Child) → types_of cs ≡ ts → contents_of cs ≡ ds → P cs

-- the three lists are of one length
pub record SameCount (ts ns ds : List (List ℕ)) : Type 0 where
  pub names : length ns ≡ length ts
  pub contents : length ds ≡ length ts

-- each content's size fits CSIZE. On the target the length of every slice does
abbrev pub SizesFit : List (List ℕ) → Type 0
SizesFit ds = Each (λ d. length d < 256 ^ 8) ds

-- Look-ups in a BIND content (rule 6.1), for any bytes: where a child stands, and the answers. The content is judged first; then comes 19
-- (rule 5.5). The part that a refusal returns has no bytes (rule 5.6). The mark is that of the whole content (rule 13.4).
use Rattle.std.specs.Prelude.{ℕ, zero, suc, ◌-◌, ◌*◌, Bool, false, cond, List, [], eqb, ltb, length, drop, Option, Some, None, Result, Ok, Err}
use Rattle.fields.specs.Bytes.{part, same}
use Rattle.fields.specs.Text.{text_of, past_text}
use Rattle.fields.specs.Checks.{or_else}
use Rattle.fields.specs.Fault.{fault_number}
use Rattle.fields.specs.declared.fault.Fault.{Fault}
use Rattle.bind_layout.specs.Children.{child_header_size}
use Rattle.bind_layout.specs.BindLayout.{child_count, headers, table_of, data_of, type_of, size_of, after_block}
use Rattle.content.specs.ContentCheck.{bind_fault, bind_checked, deepest}
use Rattle.bind_lookup.specs.declared.ChildCount.{ChildCount as CountFound}
use Rattle.bind_lookup.specs.declared.Place.{Place as PlaceFound}

-- ---- the children, by their index

-- the headers from child j's on
abbrev pub headers_from : ℕ → List ℕ → List ℕ
headers_from j s = drop (child_header_size * j) (headers s)

-- what is left of a name table t from name j on
unfoldable pub names_from : ℕ → List ℕ → List ℕ
names_from zero t = t
names_from (suc j) t = names_from j (past_text t)

-- what is left of the data d from child j's on, by the headers h
unfoldable pub data_from : ℕ → List ℕ → List ℕ → List ℕ
data_from zero h d = d
data_from (suc j) h d = data_from j (drop child_header_size h) (after_block (size_of h) d)

-- the index of the first of k names that is x, or k where none is (rule 4.13)
unfoldable pub index_in : ℕ → List ℕ → List ℕ → ℕ
index_in zero t x = 0
index_in (suc k) t x = cond (same (text_of t) x) 0 (suc (index_in k (past_text t) x))

-- an index that may be none of n
abbrev pub index_or : ℕ → Option ℕ → ℕ
index_or n (Some i) = i
index_or n None = n

abbrev pub index_of : List ℕ → List ℕ → ℕ
index_of s x = index_in (child_count s) (table_of s) x

-- ---- the answers

-- the number (rule 5.1), and how many children there are
pub record ChildCount : Type 0 where
  pub number : ℕ
  pub count : ℕ
  pub clean : Bool

-- the number, and where a child's data stands in the content and how long it is
pub record Place : Type 0 where
  pub number : ℕ
  pub at : ℕ
  pub len : ℕ
  pub clean : Bool

-- what the answers say: of a refusal, all but the number is 0, and the mark false
abbrev pub count_answer : Result CountFound Fault → ChildCount
count_answer (Ok c) = record { number = 0; count = c.count; clean = c.clean }
count_answer (Err f) = record { number = fault_number f; count = 0; clean = false }

abbrev pub place_found : PlaceFound → Place
place_found p = record { number = 0; at = p.at; len = p.len; clean = p.clean }

abbrev pub place_answer : Result PlaceFound Fault → Place
place_answer (Ok p) = place_found p
place_answer (Err f) = record { number = fault_number f; at = 0; len = 0; clean = false }

-- the mark of a content; false where it is refused (rule 13.3)
abbrev pub mark_of : List ℕ → Bool
mark_of s = (bind_checked deepest s).clean

-- the count, 0 where refused
unfoldable pub count_of : List ℕ → ChildCount
count_of s = record { number = bind_fault deepest s; count = cond (eqb (bind_fault deepest s) 0) (child_count s) 0; clean = mark_of s }

-- the number of a look-up of child j in a content with this fault
unfoldable pub index_fault : ℕ → List ℕ → ℕ → ℕ
index_fault fault s j = or_else fault (cond (ltb j (child_count s)) 0 19)

-- where the child's data stands in the content, and how long it is; both 0 where refused, and not clean
unfoldable pub placed : ℕ → Bool → List ℕ → ℕ → Place
placed number mark s j =
    cond (eqb number 0)
    (record { number = 0; at = length s - length (data_from j (headers s) (data_of s)); len = size_of (headers_from j s); clean = mark })
    (record { number = number; at = 0; len = 0; clean = false })

-- a look-up of child j in a content with this fault and mark
abbrev pub place_in : ℕ → Bool → List ℕ → ℕ → Place
place_in fault mark s j = placed (index_fault fault s j) mark s j

-- by index, and by name
abbrev pub place_of : List ℕ → ℕ → Place
place_of s j = place_in (bind_fault deepest s) (mark_of s) s j

abbrev pub named_place : List ℕ → List ℕ → Place
named_place s x = place_of s (index_of s x)

-- the bytes at a place: a refusal's are none
abbrev pub part_at : Place → List ℕ → List ℕ
part_at p s = part p.len p.at s

-- the text of child j's type, and its name; no bytes where the look-up is refused
unfoldable pub type_at : List ℕ → ℕ → List ℕ
type_at s j = cond (eqb (place_of s j).number 0) (type_of (headers_from j s)) []

unfoldable pub name_at : List ℕ → ℕ → List ℕ
name_at s j = cond (eqb (place_of s j).number 0) (text_of (names_from j (table_of s))) []

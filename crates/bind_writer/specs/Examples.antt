-- A BIND of two children written byte by byte, and the writer's numbers; children that are not clean.
use Rattle.std.specs.Prelude.{ℕ, ◌≡◌, List, [], ◌∷◌, ◌++◌, map, replicate}
use Rattle.fields.specs.Bytes.{Bytes}
use Rattle.fields.specs.Lists.{Each}
use Rattle.fields.specs.Answer.{Written, Wrote, Refused}
use Rattle.bind_layout.specs.Examples.{two_children}
use Rattle.content.specs.Kinds.{bind_text}
use Rattle.content.specs.Examples.{spelled, no_children, within, inner, outer, inner_rest}
use Rattle.bind_writer.specs.ChildLists.{SizesFit}
use Rattle.bind_writer.specs.BindWriter.{bind_written, bind_out}

-- the children of `two_children`
abbrev pub types : List (List ℕ)
types = (0x50 ∷ 0x51 ∷ []) ∷ (0x52 ∷ 0x53 ∷ 0x54 ∷ []) ∷ []

abbrev pub names : List (List ℕ)
names = (0x41 ∷ []) ∷ (0x42 ∷ 0x43 ∷ []) ∷ []

abbrev pub contents : List (List ℕ)
contents = (0x61 ∷ 0x62 ∷ 0x63 ∷ []) ∷ (0x71 ∷ []) ∷ []

-- the answer for one child of this type and name, of one byte, with room; for a BIND of these bytes, without room
abbrev pub one_written : List ℕ → List ℕ → Written
one_written t n = bind_written (t ∷ []) (n ∷ []) ((7 ∷ []) ∷ []) 65587

abbrev pub bind_no_room : List ℕ → Written
bind_no_room s = bind_written (bind_text ∷ []) ([] ∷ []) (s ∷ []) 0

-- one child of this type called N, of these bytes: the answer, and the buffer of 101 bytes
abbrev pub n_written : List ℕ → List ℕ → Written
n_written t s = bind_written (t ∷ []) ((0x4E ∷ []) ∷ []) (s ∷ []) 101

abbrev pub n_out : List ℕ → List ℕ → List ℕ
n_out t s = bind_out (t ∷ []) ((0x4E ∷ []) ∷ []) (s ∷ []) (replicate 101 5)

pub record Examples : Type 0 where
  -- the premises of the statements hold of them
  pub sizes_fit : SizesFit contents
  pub are_bytes : Each Bytes contents
  -- into 58 bytes, of which two stay; into 56 and into 55
  pub written : bind_out types names contents (replicate 58 5) ≡ two_children ++ (5 ∷ 5 ∷ [])
  pub wrote : map (bind_written types names contents) (58 ∷ 56 ∷ 55 ∷ []) ≡ Wrote 56 ∷ Wrote 56 ∷ Refused 20 ∷ []
  pub untouched : bind_out types names contents (replicate 55 5) ≡ replicate 55 5
  pub no-children : bind_out [] [] [] (replicate 5 5) ≡ 0 ∷ 0 ∷ 0 ∷ 0 ∷ 5 ∷ []
  -- lists of different lengths
  pub counts : bind_written types names ([] ∷ []) 99 ∷ bind_written types ([] ∷ []) contents 99 ∷ bind_written ([] ∷ []) names contents 99 ∷ []
      ≡ replicate 3 (Refused 10)
  -- a type of 12 bytes and of 13; bytes 0 and 128 in a type and in a name
  pub type_lengths : one_written (replicate 12 65) [] ∷ one_written (replicate 13 65) [] ∷ [] ≡ Wrote 28 ∷ Refused 10 ∷ []
  pub bytes : one_written (0 ∷ []) [] ∷ one_written (128 ∷ []) [] ∷ one_written [] (0 ∷ []) ∷ one_written [] (128 ∷ []) ∷ []
      ≡ replicate 4 (Refused 10)
  -- a text with its 0 behind it, as a type and as a name
  pub ended : one_written (bind_text ++ (0 ∷ [])) [] ∷ one_written [] (0x4E ∷ 0 ∷ []) ∷ [] ≡ replicate 2 (Refused 10)
  -- a name and its 0 take 65,534 bytes, and 65,535, which makes a table of 65,536
  pub table_lengths : one_written [] (replicate 65533 65) ∷ one_written [] (replicate 65534 65) ∷ [] ≡ Wrote 65560 ∷ Refused 10 ∷ []
  -- 256 children, without types, names and contents
  pub many_children : bind_written (replicate 256 []) (replicate 256 []) (replicate 256 []) 5380 ≡ Wrote 5380
  -- of two faulty children the first one's number
  pub first-fault : map (λ ds. bind_written (bind_text ∷ bind_text ∷ []) ([] ∷ [] ∷ []) ds 0)
      (([] ∷ within (within (within no_children)) ∷ []) ∷ (within (within (within no_children)) ∷ [] ∷ []) ∷ [])
      ≡ Refused 10 ∷ Refused 11 ∷ []
  -- the lists, then the children, which are at level 2, then 20
  pub children_faults : map bind_no_room ([] ∷ within (within (within no_children)) ∷ within (within no_children) ∷ [])
      ≡ Refused 10 ∷ Refused 11 ∷ Refused 20 ∷ []
  pub lists_first : bind_written (bind_text ∷ []) ((0 ∷ []) ∷ []) (within (within (within no_children)) ∷ []) 0 ≡ Refused 10
  -- a child that is a BIND is written clean (rule 13.6), to its innermost children; of another type the same bytes are written as given
  pub cleaned : n_out bind_text (inner inner_rest) ≡ outer (replicate 8 0) (inner (replicate 3 0)) ++ (5 ∷ [])
  pub cleaned_count : n_written bind_text (inner inner_rest) ≡ Wrote 100
  pub cleaned_deep : bind_out (bind_text ∷ []) ([] ∷ []) (within (within (inner inner_rest)) ∷ []) (replicate 152 5) ≡ within (within (within (inner (replicate 3 0))))
  pub as_given : n_out (spelled "OTHER") (inner inner_rest)
      ≡ 0 ∷ 1 ∷ 0x4F ∷ 0x54 ∷ 0x48 ∷ 0x45 ∷ 0x52 ∷ replicate 7 0 ++ (0 ∷ 0 ∷ 0 ∷ 0 ∷ 0 ∷ 0 ∷ 0 ∷ 74 ∷ 0 ∷ 2 ∷ 0x4E ∷ 0 ∷ inner inner_rest ++ (5 ∷ []))
  -- a byte above 127 before a CTYPE's first 0
  pub not_text : n_written bind_text (inner (0x80 ∷ 0 ∷ 0 ∷ [])) ≡ Refused 10

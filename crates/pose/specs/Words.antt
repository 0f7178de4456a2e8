-- Floats (rule 4.4): each is a word, the number that its 32 bits spell.
use Rattle.std.specs.Prelude.{ℕ, ◌^◌, ◌<◌, List}
use Rattle.fields.specs.Lists.{Each, flat}
use Rattle.fields.specs.Numbers.{be_bytes}

-- the bytes of a word
abbrev pub word_size : ℕ
word_size = 4

-- every number is a word of 32 bits
abbrev pub Words : List ℕ → Type 0
Words ws = Each (λ w. w < 256 ^ word_size) ws

-- the words, big endian, one after the other
unfoldable pub word_bytes : List ℕ → List ℕ
word_bytes ws = flat (be_bytes word_size) ws

-- Rules 1.4 to 1.6, for the layout named: the reader accepts a stream exactly when it starts with a message as received. That message is the
-- only one; what is handed out is the same message cleaned, but for its content. It is marked clean exactly if it is. Given room, the writer
-- writes it back cleaned, and that is byte for byte what was read exactly if it is marked clean.
use Rattle.std.specs.Prelude.{ℕ, ◌+◌, ◌≤◌, ◌≡◌, ◌↔◌, true, false, List, ◌++◌, length, take, drop}
use Rattle.fields.specs.Answer.{Wrote}
use Rattle.fields.specs.Bytes.{Bytes}
use Rattle.fields.specs.Numbers.{be_at}
use Rattle.crc64.specs.Crc.{crc_of}
use Rattle.message.specs.declared.Layout.{Layout}
use Rattle.message.specs.declared.Answer.{Answer}
use Rattle.message.specs.Message.{Message, WellFormed, Parts, message_body, encode, RestsFill, cleaned, Clean, handed_out}
use Rattle.message.specs.MessageReader.{read_of, type_in, name_in, further_in, content_in, metadata_in, handed}
use Rattle.message.specs.MessageWriter.{given, message_written, message_out}

-- the bytes of the message m are the front of the stream s
pub record Begins (l : Layout) (s : List ℕ) (m : Message) : Type 0 where
  pub well : WellFormed l m
  pub rest : List ℕ
  pub bytes : encode l m ++ rest ≡ s

-- what `write` is given when its arguments are the fields and the parts that an answer hands out
abbrev pub given_back : List ℕ → Answer → Parts
given_back s a =
    given (record { version = a.version; time_stamp = a.time_stamp; id = a.id })
    (type_in s a) (name_in s a) (further_in s a) (content_in s a) (metadata_in s a)

-- read_of is what `read` answers, `handed` what the answer and the functions for its parts give of the stream, message_written and
-- message_out what `write` answers and leaves in the buffer
pub record Demand2 (l : Layout) : Type 0 where
  -- accepted exactly when some message as received is the front of the stream
  pub accepted : (s : List ℕ) → Bytes s → (read_of l s).number ≡ 0 → (m : Message) × Begins l s m
  pub begun : (s : List ℕ) (m : Message) → Begins l s m → (read_of l s).number ≡ 0
  -- it is the only one
  pub only_one : (s : List ℕ) (m n : Message) → Begins l s m → Begins l s n → m ≡ n
  -- its CRC is its body's, with the rests in it
  pub crc : (s : List ℕ) (m : Message) → Begins l s m → be_at 8 50 s ≡ crc_of (message_body l m)
  -- cleaned it is well formed, and clean; one that is clean already stays as it is
  pub meant : (m : Message) → WellFormed l m → WellFormed l (cleaned m) × Clean (cleaned m)
  pub kept : (m : Message) → Clean m → cleaned m ≡ m
  -- its rests fill their fields; whatever they are then, it is well formed if the cleaned message is
  pub fills : (m : Message) → WellFormed l m → RestsFill m
  pub any_rests : (m : Message) → RestsFill m → WellFormed l (cleaned m) → WellFormed l m
  -- cleaned it is what is handed out, but for its content; and the step is its length
  pub handed_out : (s : List ℕ) (m : Message) → Begins l s m → handed s (read_of l s) ≡ handed_out m
  pub step : (s : List ℕ) (m : Message) → Begins l s m → (read_of l s).step ≡ length (encode l m)
  -- which is 58 + BODY_SIZE, and that of the cleaned message
  pub size : (m : Message) → length (encode l m) ≡ 58 + length (message_body l m)
  pub same_length : (m : Message) → length (encode l (cleaned m)) ≡ length (encode l m)
  -- the mark is true exactly if it is clean; a refusal's is false
  pub mark : (s : List ℕ) (m : Message) → Begins l s m → ((read_of l s).clean ≡ true) ↔ Clean m
  pub no_mark : (s : List ℕ) → ((read_of l s).number ≡ 0 → ⊥) → (read_of l s).clean ≡ false
  -- the writer, given what is handed out and room, writes the cleaned message, and keeps the bytes beyond
  pub answered_back : (s : List ℕ) (room : ℕ) → Bytes s → (read_of l s).number ≡ 0 → (read_of l s).step ≤ room
      → message_written l (given_back s (read_of l s)) room ≡ Wrote (read_of l s).step
  pub written_back : (s out : List ℕ) (m : Message) → Begins l s m → (read_of l s).step ≤ length out
      → message_out l (given_back s (read_of l s)) out ≡ encode l (cleaned m) ++ drop (read_of l s).step out
  -- these are the bytes that were read exactly if the mark is true
  pub same_bytes : (s : List ℕ) (m : Message) → Begins l s m → (encode l (cleaned m) ≡ take (read_of l s).step s) ↔ ((read_of l s).clean ≡ true)

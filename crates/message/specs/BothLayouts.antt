-- What is the same in both layouts (rule 3.15): all that is read and written where V is not 2; and the bytes of a message with MSG_ID 0 whose
-- metadata is no more than its index: no section, or one without entries. A message whose metadata has fewer than 65,536 bytes is well formed for
-- both or for neither.
use Rattle.std.specs.Prelude.{ℕ, ◌^◌, ◌<◌, ◌≡◌, List, length}
use Rattle.header.specs.HeaderReader.{header_of}
use Rattle.metadata.specs.Metadata.{index_size, encode_metadata}
use Rattle.message.specs.declared.Layout.{Layout}
use Rattle.message.specs.Message.{Message, WellFormed, Parts, encode}
use Rattle.message.specs.MessageReader.{read_of}
use Rattle.message.specs.MessageWriter.{message_written, message_out}

pub record BothLayouts (l o : Layout) : Type 0 where
  pub read : (s : List ℕ) → ((header_of s).version ≡ 2 → ⊥) → read_of l s ≡ read_of o s
  pub written : (p : Parts) (room : ℕ) → (p.version ≡ 2 → ⊥) → message_written l p room ≡ message_written o p room
  pub out : (p : Parts) (out : List ℕ) → (p.version ≡ 2 → ⊥) → message_out l p out ≡ message_out o p out
  pub bytes : (m : Message) → m.id ≡ 0 → length (encode_metadata m.metadata) ≡ index_size m.metadata → encode l m ≡ encode o m
  pub well : (m : Message) → length (encode_metadata m.metadata) < 256 ^ 2 → WellFormed l m → WellFormed o m

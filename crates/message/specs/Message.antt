-- A message as it is received (rule 13.1): its content a tree, its metadata a list of entries, and beside each text the rest of that text's
-- field; the bytes that it is written as, in each layout; and the same message cleaned. Nothing here reads bytes.
use Rattle.std.specs.Prelude.{ℕ, ◌^◌, ◌<◌, ◌≤◌, ◌≡◌, List, ◌++◌, length}
use Rattle.crc64.specs.Crc.{crc_of}
use Rattle.fields.specs.Received.{zeroed, Fills}
use Rattle.header.specs.Header.{type_size, name_size, Header, encode_header, body_limit}
use Rattle.metadata.specs.Metadata.{Metadata, WellMetadata, encode_metadata, index_size}
use Rattle.content.specs.Tree.{Content, type_text}
use Rattle.content.specs.Tree as tree
use Rattle.content.specs.ContentCheck.{deepest}
use Rattle.message.specs.declared.Layout.{Layout}
use Rattle.message.specs.Body.{Sections, WellSections, encode_body}

-- the type's text is the content's; type_rest and name_rest are what stands behind the texts of TYPE and DEVICE_NAME in their fields
pub record Message : Type 0 where
  pub version : ℕ
  pub type_rest : List ℕ
  pub device_name : List ℕ
  pub name_rest : List ℕ
  pub time_stamp : ℕ
  pub id : ℕ
  pub further : List ℕ
  pub content : Content
  pub metadata : Metadata

-- ---- its bytes

-- a message whose content and metadata are bytes
pub record Parts : Type 0 where
  pub version : ℕ
  pub type_text : List ℕ
  pub type_rest : List ℕ
  pub device_name : List ℕ
  pub name_rest : List ℕ
  pub time_stamp : ℕ
  pub sections : Sections

abbrev pub parts_of : Message → Parts
parts_of m =
    record {
      version = m.version;
      type_text = type_text m.content;
      type_rest = m.type_rest;
      device_name = m.device_name;
      name_rest = m.name_rest;
      time_stamp = m.time_stamp;
      sections =
          record {
            id = m.id;
            further = m.further;
            content = tree.encode m.content;
            metadata = encode_metadata m.metadata;
          };
    }

-- k is the bytes of the metadata's index
abbrev pub body_of : Layout → ℕ → Parts → List ℕ
body_of l k p = encode_body l p.version k p.sections

-- BODY_SIZE is the body's length, and CRC that of all its bytes (rule 3.4)
abbrev pub header_for : Layout → ℕ → Parts → Header
header_for l k p =
    record {
      version = p.version;
      type_text = p.type_text;
      type_rest = p.type_rest;
      device_name = p.device_name;
      name_rest = p.name_rest;
      time_stamp = p.time_stamp;
      body_size = length (body_of l k p);
      crc = crc_of (body_of l k p);
    }

unfoldable pub encode_with : Layout → ℕ → Parts → List ℕ
encode_with l k p = encode_header (header_for l k p) ++ body_of l k p

abbrev pub message_body : Layout → Message → List ℕ
message_body l m = body_of l (index_size m.metadata) (parts_of m)

abbrev pub encode : Layout → Message → List ℕ
encode l m = encode_with l (index_size m.metadata) (parts_of m)

-- ---- what the rules ask of a message

pub record WellFormed (l : Layout) (m : Message) : Type 0 where
  pub type_fills : Fills type_size (type_text m.content) m.type_rest
  pub name_fills : Fills name_size m.device_name m.name_rest
  pub stamp_fits : m.time_stamp < 256 ^ 8
  pub sections : WellSections l m.version (index_size m.metadata) (parts_of m).sections
  pub content : tree.WellFormed m.content deepest
  pub metadata : WellMetadata m.metadata
  pub size-limit : length (message_body l m) ≤ body_limit

-- ---- the rests

-- every rest fills its field behind the text
pub record RestsFill (m : Message) : Type 0 where
  pub type_fills : Fills type_size (type_text m.content) m.type_rest
  pub name_fills : Fills name_size m.device_name m.name_rest
  pub content_fills : tree.RestsFill m.content

-- every rest is zeros (rule 13.2)
pub record Clean (m : Message) : Type 0 where
  pub type_clean : m.type_rest ≡ zeroed m.type_rest
  pub name_clean : m.name_rest ≡ zeroed m.name_rest
  pub content-clean : tree.IsClean m.content

-- the message with every rest zeroed. Its CRC is that of the cleaned body, as each message's is that of its own
abbrev pub cleaned : Message → Message
cleaned m =
    record {
      version = m.version;
      type_rest = zeroed m.type_rest;
      device_name = m.device_name;
      name_rest = zeroed m.name_rest;
      time_stamp = m.time_stamp;
      id = m.id;
      further = m.further;
      content = tree.cleaned m.content;
      metadata = m.metadata;
    }

-- what is handed out of it (rule 13.5): the cleaned message, but for the content, whose bytes are as received
abbrev pub handed_out : Message → Parts
handed_out m =
    record {
      version = m.version;
      type_text = type_text m.content;
      type_rest = zeroed m.type_rest;
      device_name = m.device_name;
      name_rest = zeroed m.name_rest;
      time_stamp = m.time_stamp;
      sections = (parts_of m).sections;
    }

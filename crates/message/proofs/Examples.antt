-- Cases P4 to P6; the body by computation.
use Prim.Native.Nat.{ℕ, ◌+◌, ◌-◌, ◌^◌, ◌<◌, ◌≤◌}
use mathlib.Core.Path.{◌≡◌, refl, ap, ◌∙◌}
use mathlib.Core.Logic.{inl, inr}
use mathlib.Core.Bool.{true}
use mathlib.Core.List.{List, [], ◌++◌, append_assoc, append-nil}
use native.Mathlib.Omega.{arith}
use lib.ListN.{length, replicate}
use Rattle.fields.specs.Bytes.{Bytes}
use Rattle.fields.specs.Numbers.{be_bytes}
use Rattle.fields.specs.Lists.{all_of}
use Rattle.fields.specs.Text.{is_text, Text}
use Rattle.fields.proofs.Laws.Bytes.{bytes-nil}
use Rattle.fields.proofs.Laws.Text.{is-text}
use Rattle.fields.proofs.Laws.Received.{field_bytes-zeros, zero-fills}
use Rattle.crc64.specs.Crc.{crc_of}
use Rattle.crc64.proofs.Laws.{crc-lt}
use Rattle.header.specs.Header.{Header, encode_header}
use Rattle.metadata.specs.Metadata.{absent, encode_metadata, WellMetadata}
use Rattle.content.specs.Tree.{other, Opaque}
use Rattle.content.specs.Tree as tree
use Rattle.message.specs.declared.Layout.{Layout}
use Rattle.message.specs.declared.Layout.TheVariants.{New, Old}
use Rattle.message.specs.Body.{encode_body, MetadataFits}
use Rattle.message.specs.Message.{Message, Parts, message_body, encode_with, encode}
use Rattle.message.specs.MessageReader.{refused, read_of}
use Rattle.message.specs.Demand2.{Begins}
use Rattle.message.specs.MessageNumbers.{Whole}
use Rattle.message.specs.Examples.{of_version2, get_status_text, body12, Accepted70, Examples}
use Rattle.message.proofs.Laws.Messages.{demand-2}
use Rattle.message.proofs.Laws.MessageNumbers.{refusals}

-- a header of V 2 for a body
abbrev header_of_version2 : List ℕ → List ℕ → ℕ → List ℕ → Header
header_of_version2 t n stamp b =
    record {
      version = 2;
      type_text = t;
      type_rest = replicate (12 - length t) 0;
      device_name = n;
      name_rest = replicate (20 - length n) 0;
      time_stamp = stamp;
      body_size = length b;
      crc = crc_of b;
    }

front : (t n : List ℕ) (stamp : ℕ) (b : List ℕ) → encode_header (header_of_version2 t n stamp b) ++ b ≡ of_version2 t n stamp b
unfolding encode_header
front t n stamp b = simp (append_assoc, append-nil, field_bytes-zeros 12 t, field_bytes-zeros 20 n)

-- ---- P5

status : List ℕ → ℕ → ℕ → Message
status n stamp id =
    record {
      version = 2;
      type_rest = replicate (12 - length get_status_text) 0;
      device_name = n;
      name_rest = replicate (20 - length n) 0;
      time_stamp = stamp;
      id = id;
      further = [];
      content = other get_status_text [];
      metadata = absent;
    }

opaque : Opaque get_status_text
opaque =
    record {
      no-transform = λ e. let z : ◌≡◌ {A = ℕ} 71 84 = cc in omega arith;
      no-position = λ e. let z : ◌≡◌ {A = ℕ} 71 80 = cc in omega arith;
      no-image = λ e. let z : ◌≡◌ {A = ℕ} 71 73 = cc in omega arith;
      no-bind = λ e. let z : ◌≡◌ {A = ℕ} 71 66 = cc in omega arith;
    }

status-text : is_text get_status_text ≡ true
unfolding is_text all_of
status-text = refl

status-body : (l : Layout) (n : List ℕ) (stamp id : ℕ) → message_body l (status n stamp id) ≡ body12 l id
unfolding status encode_body encode_metadata tree.encode be_bytes
status-body New n stamp id = refl
status-body Old n stamp id = refl

status-length : (l : Layout) (id : ℕ) → length (body12 l id) ≡ 12
unfolding be_bytes
status-length New id = refl
status-length Old id = refl

no-metadata-fits : (l : Layout) → MetadataFits l 0 0
no-metadata-fits New = (omega arith, omega arith, omega arith)
no-metadata-fits Old = omega arith

status-begins : (l : Layout) (n : List ℕ) (stamp id : ℕ) → Text n → length n ≤ 20 → stamp < 256 ^ 8 → id < 256 ^ 4
    → Begins l (of_version2 get_status_text n stamp (body12 l id)) (status n stamp id)
unfolding status encode_metadata WellMetadata tree.encode tree.WellFormed encode_with be_bytes
status-begins l n stamp id t o s i =
    record {
      well =
          record {
            type_fills = zero-fills 12 get_status_text (is-text get_status_text status-text) (omega arith);
            name_fills = zero-fills 20 n t o;
            stamp_fits = s;
            sections =
                inr (refl, record { id_fits = i; further_bytes = bytes-nil; further_fits = omega arith; metadata_fits = no-metadata-fits l });
            content = (opaque, bytes-nil);
            metadata = tt;
            size-limit = omega (arith, ap length (status-body l n stamp id), status-length l id);
          };
      rest = [];
      bytes =
          append-nil (encode l (status n stamp id))
          ∙ ap (λ (b : List ℕ). encode_header (header_of_version2 get_status_text n stamp b) ++ b) (status-body l n stamp id)
          ∙ front get_status_text n stamp (body12 l id);
    }

p5 : (l : Layout) (n : List ℕ) (stamp id : ℕ) → Text n → length n ≤ 20 → stamp < 256 ^ 8 → id < 256 ^ 4
    → Accepted70 l (of_version2 get_status_text n stamp (body12 l id))
unfolding status tree.encode
p5 l n stamp id t o s i =
    let b = status-begins l n stamp id t o s i in
    let m : Message = status n stamp id in
    record {
      number = (demand-2 l).begun _ m b;
      step =
          (demand-2 l).step _ m b
          ∙ (demand-2 l).size m
          ∙ ap (λ (x : List ℕ). 58 + length x) (status-body l n stamp id)
          ∙ ap (λ (k : ℕ). 58 + k) (status-length l id);
      content = ap (λ (p : Parts). p.sections.content) ((demand-2 l).handed_out _ m b);
    }

-- ---- P6

p6 : (l : Layout) (t n : List ℕ) (stamp : ℕ) (b : List ℕ) → Text t → length t ≤ 12 → Text n → length n ≤ 20 → stamp < 256 ^ 8 → Bytes b → length b ≡ 11
    → read_of l (of_version2 t n stamp b) ≡ refused 6 69
p6 l t n stamp b tt' tl nt nl s bs e =
    let h : Header = header_of_version2 t n stamp b in
    let w : Whole (of_version2 t n stamp b) h b =
    record {
      well =
          record {
            fits =
                record {
                  version_fits = omega arith;
                  type_fills = zero-fills 12 t tt' tl;
                  name_fills = zero-fills 20 n nt nl;
                  stamp_fits = s;
                  size_fits = omega arith;
                  crc_fits = crc-lt b;
                };
            size-limit = omega arith;
          };
      size = refl;
      bytes = bs;
      rest = [];
      front = ap (λ (x : List ℕ). encode_header h ++ x) (append-nil b) ∙ front t n stamp b;
    } in
    (refusals l).extended (of_version2 t n stamp b) h b w (record { version = inr refl; crc = refl }) refl (inl (omega arith))
    ∙ ap (λ (k : ℕ). refused 6 (58 + k)) e

pub examples : Examples
unfolding encode_body be_bytes
examples = record { p4 = λ l s h. (refusals l).short s (omega arith); p5 = p5; p6 = p6; body_new = refl; body_old = refl }

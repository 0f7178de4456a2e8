-- `message::put_message` meets its contract: the body fills the part lent for it, the CRC is of that, and the header comes before it.
use Prim.Native.Nat.{◌+◌, ◌-◌}
use mathlib.Core.Path.{ap, sym, ◌∙◌}
use native.Mathlib.Nat.{add-sub_cancel_left}
use native.Mathlib.Omega.{arith}
use lib.ListN.{length}
use borrow.Rule.Slice.PartMut.{put_mid}
use Rattle.fields.proofs.Laws.Bytes.{length_part}
use Rattle.header.specs.declared.HeaderFields.{HeaderFields}
use Rattle.header.specs.HeaderWriter.{header_out}
use Rattle.header.specs.HeaderWriter as header
use Rattle.message.specs.MessageWriter.{given_of, clean_parts}
use Rattle.message.proofs.Laws.Writer.{writable, written-sizes, length-given, content-long, length-cleaned-body, writable-cleaned, message-stored}
use Rattle.message.proofs.put_message.Goals as goal

pub put_body-requires : goal.put_body-requires
put_body-requires c =
    let a = c.args in
    let p = given_of a.message in
    let w = writable a.layout p c.requires.0 in
    let b = length-given a.layout p in
    let n = length_part (58 + a.size - 58) 58 a.out.now (omega (arith, c.requires.2)) in (
      written-sizes a.layout p w,
      omega (arith, w.short, b, content-long a.message.version (length a.message.further.now) (length a.message.content.now) (length a.message.metadata.now)),
      omega (arith, b, n, c.requires.1, c.requires.2),
    )

pub returns : goal.returns
returns c =
    let a = c.args in
    let p = given_of a.message in
    let k = 58 + a.size - 58 in
    let y = c.put_body.new.out in
    c.write_header.ensures.buffer
    ∙ ap (λ (h : HeaderFields). header_out (header.given h a.message.type_text.now a.message.device_name.now) (put_mid 58 k a.out.now y)) c.header_fields.ensures
    ∙ message-stored a.layout (clean_parts p) a.out.now a.size k c.crc64-crc.result y
    (writable-cleaned a.layout p (writable a.layout p c.requires.0)) (c.requires.1 ∙ sym (length-cleaned-body a.layout p)) c.requires.2
    (add-sub_cancel_left 58 a.size) c.put_body.ensures c.crc64-crc.ensures

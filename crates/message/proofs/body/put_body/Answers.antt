-- `message::body::put_body` meets its contract: the stores of each version.
use Prim.Native.Nat.{ℕ}
use mathlib.Core.Path.{ap, sym, ◌∙◌, subst}
use native.Mathlib.Omega.{arith}
use lib.ListN.{length}
use lib.Seq.{sets}
use Rattle.content.specs.ContentCheck.{deepest}
use Rattle.cleaning.specs.CleanBytes.{clean_bytes}
use Rattle.cleaning.proofs.Laws.CleaningWalk.{put-fits}
use Rattle.metadata.specs.MetadataCheck.{index_size_in}
use Rattle.message.specs.MessageWriter.{sections_given, BodyFits, body_written}
use Rattle.message.proofs.Laws.Body.{body-1}
use Rattle.message.proofs.Laws.Writer.{long-1}
use Rattle.message.proofs.body.put_body.Goals as goal

pub put_extended-requires : goal.put_extended-requires
put_extended-requires c =
    let a = c.args in
    let m = a.message in
    subst (λ (v : ℕ). BodyFits a.layout v m.further.now m.content.now m.metadata.now (length a.out.now)) c.if-message-eq2.true c.requires

pub returns-then-message-eq2 : goal.returns-then-message-eq2
returns-then-message-eq2 c =
    let a = c.args in
    let m = a.message in
    c.put_extended.ensures
    ∙ ap (λ (v : ℕ). sets a.out.now 0 (body_written a.layout v m.id m.type_text.now m.further.now m.content.now m.metadata.now)) (sym c.if-message-eq2.true)

pub returns : goal.returns
returns c =
    let a = c.args in
    let m = a.message in
    let t = m.type_text.now in
    let y = m.content.now in
    let l = long-1 m.version (length m.further.now) (length y) (length m.metadata.now) c.if-message-eq2.false in
    c.put_clean.ensures
    ∙ put-fits deepest t y 0 a.out.now (omega (arith, l, c.requires.2))
    ∙ ap (sets a.out.now 0) (sym (body-1 a.layout m.version (index_size_in m.metadata.now) (sections_given m.id m.further.now (clean_bytes deepest t y) m.metadata.now) c.if-message-eq2.false))

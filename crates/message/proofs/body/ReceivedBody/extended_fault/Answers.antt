-- `message::body::ReceivedBody::extended_fault` meets its contract: in V 2 the places have the two sizes.
use mathlib.Core.Path.{ap, ◌∙◌}
use Rattle.message.specs.declared.body.Places.{Places}
use Rattle.message.proofs.Laws.Body.{places-2}
use Rattle.message.proofs.body.ReceivedBody.extended_fault.Goals as goal

pub is_extended-requires : goal.is_extended-requires
is_extended-requires c =
    let e = c.requires ∙ places-2 _ _ _ c.if-self-eq2.true in
    (ap (λ (p : Places). p.content_at) e, ap (λ (p : Places). p.metadata_len) e)

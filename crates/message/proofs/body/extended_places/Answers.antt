-- `message::body::extended_places` meets its contract: the sizes are read from two and from at most six bytes.
use native.Mathlib.Omega.{arith}
use Rattle.message.proofs.Laws.Layout.{section-lt}
use Rattle.message.proofs.body.extended_places.Goals as goal

pub overflow_add-size : goal.overflow_add-size
overflow_add-size c =
    let a = c.args in
    omega (arith, c.section_size-metadata_len.ensures, section-lt a.layout a.body.now (λ i. (c.type_inv.body i).fits))

-- `message::body::is_extended` meets its contract: the two sizes are read from two and from at most six bytes.
use native.Mathlib.Omega.{arith}
use Rattle.fields.specs.Bytes.{Bytes}
use Rattle.fields.proofs.Laws.Numbers.{be_at-lt}
use Rattle.message.proofs.Laws.Layout.{section-lt}
use Rattle.message.proofs.body.is_extended.Goals as goal

pub overflow_add-result : goal.overflow_add-result
overflow_add-result c =
    let b = c.args.body.now in
    let bytes : Bytes b = λ i. (c.type_inv.body i).fits in
    omega (arith, c.requires.0, c.requires.1, be_at-lt 2 0 b bytes, section-lt c.args.layout b bytes)

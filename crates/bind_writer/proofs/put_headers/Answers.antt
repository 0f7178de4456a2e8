use Prim.Native.Nat.{ℕ, ◌+◌, ◌*◌}
use mathlib.Core.Path.{refl, ap, sym, ◌∙◌}
use mathlib.Core.List.{List, ◌++◌}
use native.Mathlib.Omega.{arith}
use lib.ListN.{length, get_or}
use lib.Seq.{sets}
use Rattle.fields.specs.Numbers.{be_bytes}
use Rattle.fields.specs.Text.{text_bytes}
use Rattle.fields.proofs.Laws.Lists.{flat-none, flat-all}
use Rattle.bind_writer.specs.BindWriter.{plain_header}
use Rattle.bind_writer.proofs.Laws.Slices.{none, length-given}
use Rattle.bind_writer.proofs.Laws.Children.{headers-next}
use Rattle.bind_writer.proofs.put_headers.Goals as goal

pub loop-i-init : goal.loop-i-init
loop-i-init c = (omega arith, refl, λ cs p q. ap (sets c.args.out.now 2) (sym (flat-none plain_header cs)))

pub overflow_mul-i : goal.overflow_mul-i
overflow_mul-i c = omega (arith, c.requires.1)

pub overflow_add-i : goal.overflow_add-i
overflow_add-i c = omega (arith, c.requires.1)

pub put_header-requires : goal.put_header-requires
put_header-requires c = omega (arith, c.requires.1)

pub loop-i-preserved : goal.loop-i-preserved
loop-i-preserved c =
    let a = c.args in
    let l = c.loop-i in
    let h = text_bytes 12 (get_or a.types.now l.i none).now ++ be_bytes 8 (length (get_or a.contents.now l.i none).now) in (
      omega arith,
      c.put_header.auto.out ∙ l.invariant.1,
      λ cs p q.
          c.put_header.ensures
          ∙ ap (λ (x : List ℕ). sets x (2 + 20 * l.i) h) (l.invariant.2 cs p q)
          ∙ headers-next a.types.now l.i (omega arith) cs p a.contents.now q a.out.now,
    )

pub returns : goal.returns
returns c =
    let l = c.loop-i in
    λ cs p q. l.invariant.2 cs p q ∙ ap (sets c.args.out.now 2) (flat-all plain_header cs l.i (omega (arith, length-given (λ c. c.type_text) cs c.args.types.now p)))

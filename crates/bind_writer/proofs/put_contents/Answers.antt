use Prim.Native.Nat.{ℕ, ◌+◌}
use mathlib.Core.Path.{refl, ap, ap₂, sym, ◌∙◌}
use mathlib.Core.List.{List, map}
use native.Mathlib.Omega.{arith}
use lib.ListN.{length, get_or}
use lib.Seq.{sets}
use Rattle.fields.proofs.Laws.Lists.{flat-none, flat-all}
use Rattle.bind_layout.specs.Children.{padded}
use Rattle.bind_writer.specs.BindWriter.{clean_content, clean_data}
use Rattle.bind_writer.proofs.Laws.Slices.{none, length-given, slices-all, length-slices-next, length-slices-le}
use Rattle.bind_writer.proofs.Laws.Children.{datas-next}
use Rattle.bind_writer.proofs.put_contents.Goals as goal

pub loop-i-init : goal.loop-i-init
loop-i-init c =
    let a = c.args in
    let e = flat-none padded (map (λ x. x.now) a.contents.now) in
    let l = ap length e in
    (omega arith, refl, omega arith, λ cs p q. ap (sets a.out.now a.at) (sym (flat-none clean_data cs)))

pub bounds-types-i : goal.bounds-types-i
bounds-types-i c = omega (arith, c.requires.0)

pub put_content-to-requires : goal.put_content-to-requires
put_content-to-requires c = omega (arith, c.requires.1, c.loop-i.invariant.1, c.loop-i.invariant.2, length-slices-le padded c.args.contents.now c.loop-i.i (omega arith))

pub loop-i-preserved : goal.loop-i-preserved
loop-i-preserved c =
    let a = c.args in
    let l = c.loop-i in
    let w = c.put_content-to in
    let ts = a.types.now in
    let ps = a.contents.now in
    let x = padded (clean_content (get_or ts l.i none).now (get_or ps l.i none).now) in (
      omega arith,
      w.auto.out ∙ l.invariant.1,
      omega (arith, w.ensures.place, l.invariant.2, length-slices-next padded ps l.i (omega arith)),
      λ cs p q.
          w.ensures.bytes
          ∙ ap₂ (λ (y : List ℕ) (n : ℕ). sets y n x) (l.invariant.3 cs p q) l.invariant.2
          ∙ datas-next ts l.i (omega (arith, c.requires.0)) cs p ps q a.out.now a.at,
    )

pub returns : goal.returns
returns c =
    let a = c.args in
    let l = c.loop-i in
    let e = slices-all padded a.contents.now l.i (omega arith) in record {
      place = l.invariant.2 ∙ ap (λ (x : List ℕ). a.at + length x) e;
      bytes = λ cs p q.
          l.invariant.3 cs p q
          ∙ ap (sets a.out.now a.at) (flat-all clean_data cs l.i (omega (arith, length-given (λ c. c.content) cs a.contents.now q)));
    }

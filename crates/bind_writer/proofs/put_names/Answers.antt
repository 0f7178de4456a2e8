use Prim.Native.Nat.{ℕ, ◌+◌}
use mathlib.Core.Path.{refl, ap, ap₂, sym, ◌∙◌}
use mathlib.Core.List.{List, map}
use native.Mathlib.Omega.{arith}
use lib.ListN.{length, take, get_or}
use lib.Seq.{sets}
use Rattle.fields.specs.Lists.{flat}
use Rattle.fields.proofs.Laws.Lists.{flat-none}
use Rattle.bind_layout.specs.Children.{ended}
use Rattle.bind_writer.proofs.Laws.Slices.{none, slices-all, length-slices-next, length-slices-le, sets-slices-next}
use Rattle.bind_writer.proofs.put_names.Goals as goal

pub loop-name-init : goal.loop-name-init
loop-name-init c =
    let a = c.args in
    let e = flat-none ended (map (λ x. x.now) a.names.now) in
    let l = ap length e in
    (omega arith, refl, omega arith, ap (sets a.out.now a.at) (sym e))

pub put_name-to-requires : goal.put_name-to-requires
put_name-to-requires c = omega (arith, c.requires, length-slices-le ended c.args.names.now c.loop-name.name-index (omega arith))

pub loop-name-preserved : goal.loop-name-preserved
loop-name-preserved c =
    let a = c.args in
    let l = c.loop-name in
    let w = c.put_name-to in
    let ps = a.names.now in
    let x = ended (get_or ps l.name-index none).now in
    let h = flat ended (take l.name-index (map (λ x. x.now) ps)) in (
      omega arith,
      w.auto.out ∙ l.invariant.1,
      omega (arith, w.ensures.place, l.invariant.2, length-slices-next ended ps l.name-index (omega arith)),
      w.ensures.bytes
          ∙ ap₂ (λ (y : List ℕ) (n : ℕ). sets y n x) l.invariant.3 l.invariant.2
          ∙ sets-slices-next ended ps l.name-index (omega arith) a.out.now a.at,
    )

pub returns : goal.returns
returns c =
    let a = c.args in
    let l = c.loop-name in
    let e = slices-all ended a.names.now l.name-index (omega arith) in
    record {
      place = l.invariant.2 ∙ ap (λ (x : List ℕ). a.at + length x) e;
      bytes = l.invariant.3 ∙ ap (sets a.out.now a.at) e;
    }

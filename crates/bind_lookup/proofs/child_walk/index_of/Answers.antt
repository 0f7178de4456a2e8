use Prim.Native.Nat.{ℕ, suc, ◌+◌, ◌-◌}
use mathlib.Core.Path.{◌≡◌, sym, ap, ◌∙◌}
use mathlib.Core.Bool.{true, false}
use mathlib.Core.List.{List}
use native.Mathlib.Omega.{arith}
use Rattle.fields.specs.Bytes.{same}
use Rattle.fields.specs.Text.{text_of}
use Rattle.bind_layout.specs.BindLayout.{child_count, table_of}
use Rattle.bind_lookup.specs.ChildLookup.{index_in}
use Rattle.bind_lookup.proofs.Laws.Lookup.{index-next}
use Rattle.bind_lookup.proofs.child_walk.index_of.Goals as goal

pub loop-i-init : goal.loop-i-init
loop-i-init c =
    let s = c.args.content.now in
    let x = c.args.name.now in
    let n : c.child_count-i-end.result - 0 ≡ child_count s = omega arith in
    let e : index_in (c.child_count-i-end.result - 0) c.table_of-names.result.now x ≡ index_in (child_count s) (table_of s) x =
    λ i. index_in (n i) (c.table_of-names.ensures i) x in
    omega arith

pub returns-then-eq : goal.returns-then-eq
unfolding same index_in
returns-then-eq c =
    let l = c.loop-i in
    let x = c.args.name.now in
    let n = c.child_count-i-end.result in
    let f : same (text_of l.names.now) x ≡ true = cc in
    let p : n - l.i ≡ suc (n - l.i - 1) = omega arith in
    record {
      value = sym (l.invariant ∙ ap (λ (m : ℕ). l.i + index_in m l.names.now x) p ∙ simp f (omega arith));
      inside = omega arith;
    }

pub loop-i-preserved : goal.loop-i-preserved
unfolding same
loop-i-preserved c =
    let l = c.loop-i in
    let x = c.args.name.now in
    let n = c.child_count-i-end.result in
    let f : same (text_of l.names.now) x ≡ false = cc in
    let e = index-next n l.i l.names.now x c.loop-i-test.true f in
    let g = ap (λ (t : List ℕ). index_in (n - (l.i + 1)) t x) c.past_text-names.ensures in
    omega arith

pub returns : goal.returns
unfolding index_in
returns c =
    let l = c.loop-i in
    let n = c.child_count-i-end.result in
    let p : n - l.i ≡ 0 = omega arith in
    let e = ap (λ (m : ℕ). index_in m l.names.now c.args.name.now) p in
    record { value = omega arith; inside = tt }

use Prim.Native.Nat.{ℕ, ◌-◌, ◌+◌}
use mathlib.Core.Path.{sym, ap, ap₂, ◌∙◌}
use Rattle.bind_layout.specs.BindLayout.{after_block}
use Rattle.bind_lookup.specs.ChildLookup.{data_from}
use Rattle.fields.proofs.Laws.Walks.{steps_end, steps_next}
use Rattle.bind_lookup.proofs.child_walk.data_from.Goals as goal

pub loop-preserved : goal.loop-preserved
unfolding data_from
loop-preserved c =
    let l = c.loop in
    let i = c.args.i in
    let e = c.after_block-blocks.ensures ∙ ap (λ (n : ℕ). after_block n l.blocks.now) c.size_of.ensures in
    l.invariant
    ∙ steps_next (λ k. data_from k l.headers.now l.blocks.now) i l.counter c.loop-test.true
    ∙ ap₂ (data_from (i - (l.counter + 1))) (sym c.rest-headers.ensures) (sym e)

pub returns : goal.returns
unfolding data_from
returns c =
    let l = c.loop in
    sym (l.invariant ∙ steps_end (λ k. data_from k l.headers.now l.blocks.now) c.args.i l.counter c.loop-test.false)

use Prim.Native.Nat.{◌-◌, ◌+◌}
use mathlib.Core.Path.{sym, ap, ◌∙◌}
use Rattle.bind_lookup.specs.ChildLookup.{names_from}
use Rattle.fields.proofs.Laws.Walks.{steps_end, steps_next}
use Rattle.bind_lookup.proofs.child_walk.names_from.Goals as goal

pub loop-preserved : goal.loop-preserved
unfolding names_from
loop-preserved c =
    let l = c.loop in
    let i = c.args.i in
    l.invariant
    ∙ steps_next (λ k. names_from k l.names.now) i l.counter c.loop-test.true
    ∙ ap (names_from (i - (l.counter + 1))) (sym c.past_text-names.ensures)

pub returns : goal.returns
unfolding names_from
returns c =
    let l = c.loop in
    sym (l.invariant ∙ steps_end (λ k. names_from k l.names.now) c.args.i l.counter c.loop-test.false)

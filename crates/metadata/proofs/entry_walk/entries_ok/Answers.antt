use mathlib.Core.Path.{sym, ◌∙◌}
use Rattle.metadata.specs.MetadataCheck.{entries_ok}
use Rattle.fields.proofs.Laws.Walks.{steps_end, steps_next}
use Rattle.metadata.proofs.entry_walk.entries_ok.Goals as goal

pub returns-then-not-first_ok : goal.returns-then-not-first_ok
unfolding entries_ok
returns-then-not-first_ok c =
    let l = c.loop in
    let s = steps_next (λ k. entries_ok k l.entries.headers.now l.entries.data.now) c.args.n l.counter c.loop-test.true in
    let e = sym c.first_ok.ensures ∙ c.if-not-first_ok.true in
    sym (l.invariant ∙ s ∙ simp e)

pub loop-preserved : goal.loop-preserved
unfolding entries_ok
loop-preserved c =
    let l = c.loop in
    let s = steps_next (λ k. entries_ok k l.entries.headers.now l.entries.data.now) c.args.n l.counter c.loop-test.true in
    let e = sym c.first_ok.ensures ∙ c.if-not-first_ok.false in
    l.invariant ∙ s ∙ simp (e, c.after_first-entries.ensures.headers, c.after_first-entries.ensures.content)

pub returns : goal.returns
unfolding entries_ok
returns c =
    let l = c.loop in
    sym (l.invariant ∙ steps_end (λ k. entries_ok k l.entries.headers.now l.entries.data.now) c.args.n l.counter c.loop-test.false)

use Prim.Native.Nat.{◌+◌, ◌-◌}
use mathlib.Core.Path.{ap, sym, ◌∙◌}
use native.Mathlib.Omega.{arith}
use lib.ListN.{length, length-drop}
use Rattle.fields.specs.Bytes.{same}
use Rattle.metadata.specs.ValueLookup.{place_in}
use Rattle.metadata.specs.MetadataCheck.{entry_size}
use Rattle.metadata.proofs.Laws.Search.{search-found, search-next}
use Rattle.fields.proofs.Laws.Walks.{steps_end, steps_next}
use Rattle.metadata.proofs.entry_walk.search.Goals as goal

pub returns-then-eq : goal.returns-then-eq
unfolding same
returns-then-eq c =
    let l = c.loop in
    let h = l.entries.headers.now in
    let d = l.entries.data.now in
    let x = c.args.key.now in
    let n = length c.args.section.now in
    let k = c.index_count-end.result in
    let s = steps_next (λ j. place_in n j h d x) k l.counter c.loop-test.true in
    let f = search-found n h d x (k - (l.counter + 1)) (cc) in
    cc

pub loop-preserved : goal.loop-preserved
unfolding same
loop-preserved c =
    let l = c.loop in
    let h = l.entries.headers.now in
    let d = l.entries.data.now in
    let x = c.args.key.now in
    let n = length c.args.section.now in
    let k = c.index_count-end.result in
    let s = steps_next (λ j. place_in n j h d x) k l.counter c.loop-test.true in
    let f = search-next n h d x (k - (l.counter + 1)) (cc) in
    (omega (arith, ap length c.after_first-entries.ensures.content, length-drop (entry_size h) d), cc)

pub returns : goal.returns
unfolding place_in
returns c =
    let l = c.loop in
    let n = length c.args.section.now in
    let s = steps_end (λ j. place_in n j l.entries.headers.now l.entries.data.now c.args.key.now) c.index_count-end.result l.counter c.loop-test.false in
    sym (l.invariant.1 ∙ s)

-- `exports::push_all` meets its contract: push by push.
use Prim.Native.Nat.{ℕ, ◌+◌, ◌<◌}
use mathlib.Core.Path.{◌≡◌, refl, ap, sym, ◌∙◌}
use mathlib.Core.List.{List}
use native.Mathlib.Omega.{arith}
use lib.ListN.{length}
use Rattle.std.specs.declared.slice.ChunksExact.{ChunksExact}
use Rattle.fields.specs.Numbers.{be_at}
use Rattle.feed.specs.Feed.{feed_of, push_answered}
use Rattle.feed.proofs.Laws.Pushes.{writes}
use Rattle.exports.specs.Exports.{Fed, started, fed_by}
use Rattle.exports.proofs.Laws.{fed-end, fed-next, fed-within, chunk-parts}
use Rattle.exports.proofs.push_all.Goals as goal

pub loop-length-init : goal.loop-length-init
loop-length-init c =
    let a = c.args in
    let i = c.into_iter-length-iterator.ensures.into_iter_gives in
    let all = c.chunks_exact-length-items.ensures in (
      refl,
      omega arith,
      ap (λ (x : ChunksExact ℕ). x.size) i ∙ all.size,
      ap (λ (x : List ℕ). fed_by x a.stream.now (started (feed_of a.feed.now)) a.buffer.now) (sym (ap (λ (x : ChunksExact ℕ). x.rest.now) i ∙ all.rest)),
    )

pub overflow_add-total : goal.overflow_add-total
overflow_add-total c =
    let l = c.loop-length in
    let a = c.args in
    let piece = c.part-fragment in
    let e = c.in-Some.ensures.steps in
    let left = l.length-iterator.rest.now in
    let r : Fed = record { last = push_answered l.feed l.last; total = l.total } in
    let parts = chunk-parts c.in-Some.length.now c.next.new.self.rest.now left e.1.0 (e.1.1 ∙ l.invariant.2) in
    let n : c.read.result ≡ be_at 4 0 left = c.read.ensures ∙ parts.0 in
    let k = fed-within a.stream.now r l.buffer left piece.result.now _ _ n piece.ensures c.push-last.ensures.result l.invariant.1 in
    omega (arith, k, c.taken-total.ensures, c.well_formed.1.1.0)

pub loop-length-preserved : goal.loop-length-preserved
loop-length-preserved c =
    let l = c.loop-length in
    let s = c.args.stream.now in
    let r : Fed = record { last = push_answered l.feed l.last; total = l.total } in
    let piece = c.part-fragment in
    let e = c.in-Some.ensures.steps in
    let left = l.length-iterator.rest.now in
    let next = c.next.new.self.rest.now in
    let parts = chunk-parts c.in-Some.length.now next left e.1.0 (e.1.1 ∙ l.invariant.2) in
    let n : c.read.result ≡ be_at 4 0 left = c.read.ensures ∙ parts.0 in
    let push = c.push-last.ensures in
    let p = push_answered c.push-last.new.self c.push-last.result in
    let t = c.taken-total.ensures in (
      ap length push.bytes ∙ (writes (feed_of l.feed) piece.result.now l.buffer).same_length ∙ l.invariant.0,
      omega (arith, t, fed-within s r l.buffer left piece.result.now _ _ n piece.ensures push.result l.invariant.1),
      e.0 ∙ l.invariant.2,
      l.invariant.3
          ∙ fed-next s r l.buffer left piece.result.now _ _ n piece.ensures push.result next _ parts.2 parts.1 push.bytes
          ∙ ap (λ k. fed_by next s (record { last = p; total = l.total + k }) c.push-last.new.buffer) (sym t),
    )

pub returns : goal.returns
returns c =
    let l = c.loop-length in
    let s = c.args.stream.now in
    let r : Fed = record { last = push_answered l.feed l.last; total = l.total } in
    let left = l.length-iterator.rest.now in
    let last : length l.length-iterator.rest.now < 4 = omega (arith, c.in-None.ensures.steps.1.0, l.invariant.2) in
    let e = sym (l.invariant.3 ∙ fed-end s r l.buffer left last) in
    record {
      result = ap (λ x. x.0) e;
      bytes = ap (λ x. x.1) e;
    }

-- `feed::Feed::take_in` meets its contract: the header is not whole yet, or it is refused, or its message exceeds the buffer, or it fits.
use Prim.Native.Nat.{ℕ, ◌+◌, ◌-◌, ◌≤◌, ◌<◌}
use mathlib.Core.Path.{sym, ap, ◌∙◌}
use native.Mathlib.Omega.{arith}
use lib.ListN.{length}
use Rattle.feed.specs.Feed.{Nothing, Read}
use Rattle.feed.specs.Push.{keeping, stopped_feed, pushed, passed_of}
use Rattle.feed.proofs.Laws.Code.{header-waits, header-wrong, size-limit, header-passes, header-fits}
use Rattle.feed.proofs.Feed.take_in.Goals as goal

pub returns-then-fragment-more : goal.returns-then-fragment-more
returns-then-fragment-more c =
    let a = c.args in
    let f = a.self.now in
    let n : ℕ = length a.fragment.now in
    let short : length a.fragment.now < 58 - a.kept = omega (arith, c.if-fragment-more.true, c.saturating_sub-more.ensures) in
    let w = header-waits f.layout a.kept a.fragment.now a.buffer.now c.requires.2 short in record {
      answer = ap (λ (r : ℕ). pushed Nothing (keeping f.layout r (a.kept + n)) n) (sym c.requires.0) ∙ w.0;
      bytes = c.fill.ensures ∙ w.1;
    }

pub returns-then-number-ne0 : goal.returns-then-number-ne0
returns-then-number-ne0 c =
    let a = c.args in
    let f = a.self.now in
    let more = c.saturating_sub-more.ensures in
    let enough : 58 - a.kept ≤ length a.fragment.now = omega (arith, c.if-fragment-more.false, more) in
    let filled = c.fill.ensures in
    let read = c.read_header-header.ensures in
    let w = header-wrong f.layout a.kept a.fragment.now a.buffer.now c.requires.2 c.requires.1 enough _ filled _ read c.if-number-ne0.true in record {
      answer = (λ i. pushed (Read (c.refusal.ensures i)) (stopped_feed f.layout (sym c.requires.0 i)) (more i)) ∙ w.0;
      bytes = filled ∙ w.1;
    }

pub overflow_add-end : goal.overflow_add-end
overflow_add-end c =
    let a = c.args in
    let f = a.self.now in
    let enough : 58 - a.kept ≤ length a.fragment.now = omega (arith, c.if-fragment-more.false, c.saturating_sub-more.ensures) in
    let filled = c.fill.ensures in
    let read = c.read_header-header.ensures in
    omega (arith, size-limit f.layout a.kept a.fragment.now a.buffer.now c.requires.2 c.requires.1 enough _ filled _ read c.if-number-ne0.false)

pub returns-then-self-end : goal.returns-then-self-end
returns-then-self-end c =
    let a = c.args in
    let f = a.self.now in
    let n : ℕ = length a.fragment.now in
    let enough : 58 - a.kept ≤ length a.fragment.now = omega (arith, c.if-fragment-more.false, c.saturating_sub-more.ensures) in
    let filled = c.fill.ensures in
    let read = c.read_header-header.ensures in
    let e : ℕ = 58 + c.read_header-header.result.body_size in
    let large : length a.buffer.now < 58 + c.read_header-header.result.body_size = omega (arith, c.requires.0, c.if-self-end.true) in
    let w = header-passes f.layout a.kept a.fragment.now a.buffer.now c.requires.2 c.requires.1 enough _ filled _ read c.if-number-ne0.false large in record {
      answer = c.pass.ensures ∙ ap (λ (r : ℕ). passed_of f.layout r e (e - a.kept) n) (sym c.requires.0) ∙ w.0;
      bytes = filled ∙ w.1;
    }

pub returns : goal.returns
returns c =
    let a = c.args in
    let f = a.self.now in
    let enough : 58 - a.kept ≤ length a.fragment.now = omega (arith, c.if-fragment-more.false, c.saturating_sub-more.ensures) in
    let filled = c.fill.ensures in
    let read = c.read_header-header.ensures in
    let fits : 58 + c.read_header-header.result.body_size ≤ length a.buffer.now = omega (arith, c.requires.0, c.if-self-end.false) in
    let w = header-fits f.layout a.kept a.fragment.now a.buffer.now c.requires.2 c.requires.1 enough _ filled _ read c.if-number-ne0.false fits in
    let body = c.take_body.ensures in
    record {
      answer = body.answer ∙ w.0;
      bytes = body.bytes ∙ w.1;
    }

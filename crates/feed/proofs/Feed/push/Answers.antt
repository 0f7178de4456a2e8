-- `feed::Feed::push` meets its contract: it is refused, or a message is passed over, or the fragment goes behind the bytes kept.
use Prim.Native.Nat.{min}
use mathlib.Core.Path.{sym, ap, ◌∙◌}
use native.Mathlib.Omega.{arith}
use lib.ListN.{length}
use Rattle.std.proofs.Common.{rules}
use Rattle.feed.specs.Feed.{feed_of}
use Rattle.feed.proofs.Laws.Pushes.{room-large, room-same}
use Rattle.feed.proofs.Laws.Code.{none_left, answers-refused, answers-passing, push-keeps}
use Rattle.feed.proofs.Feed.push.Goals as goal

pub returns-in_err-push_fault : goal.returns-in_err-push_fault
returns-in_err-push_fault c =
    let a = c.args in
    let w = answers-refused a.self.now a.fragment.now a.buffer.now c.in_err-push_fault.field-0.0 c.from_residual.result c.in_err-push_fault.ensures c.from_residual.ensures.1 in
    record {
      result = w.0;
      bytes = w.1;
      refused = search rules;
    }

pub returns-in-Passing : goal.returns-in-Passing
returns-in-Passing c =
    let a = c.args in
    let p = c.in-Passing in
    let w = answers-passing a.self.now a.fragment.now a.buffer.now (sym c.in_ok-push_fault.ensures) p.step c.get.result p.left p.is c.get.ensures.value c.get.ensures.nonzero in
    record {
      result = c.pass.ensures ∙ w.0;
      bytes = w.1;
      refused = tt;
    }

pub take_in-requires : goal.take_in-requires
take_in-requires c =
    let f = feed_of c.args.self.now in
    let none = sym c.in_ok-push_fault.ensures in
    (room-same f _ none, room-large f _ none, omega (arith, c.min-kept.ensures))

pub returns : goal.returns
returns c =
    let a = c.args in
    let f = a.self.now in
    let none = sym c.in_ok-push_fault.ensures in
    let kept = c.min-kept.ensures ∙ ap (λ k. min k (length a.buffer.now)) c.kept_len.ensures in
    let w = push-keeps (feed_of f) a.fragment.now a.buffer.now none (none_left f.state c.in_default.not-Passing) _ kept in
    let taken = c.take_in.ensures in
    record {
      result = taken.answer ∙ w.0;
      bytes = taken.bytes ∙ w.1;
      refused = tt;
    }

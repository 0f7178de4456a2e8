-- `feed::Feed::take_body` meets its contract: the message is not whole yet, or it is read.
use Prim.Native.Nat.{ℕ, ◌+◌, ◌-◌, ◌≤◌, ◌<◌}
use mathlib.Core.Path.{sym, ap, ◌∙◌}
use native.Mathlib.Omega.{arith}
use lib.ListN.{length}
use Rattle.message.specs.MessageReader.{read_of}
use Rattle.feed.specs.Feed.{Nothing, Read}
use Rattle.feed.specs.Push.{keeping, pushed}
use Rattle.feed.proofs.Laws.Code.{body-waits, body_reads}
use Rattle.feed.proofs.Feed.take_body.Goals as goal

pub returns-then-fragment-more-clause-answer : goal.returns-then-fragment-more-clause-answer
returns-then-fragment-more-clause-answer c =
    let a = c.args in
    let f = a.self.now in
    let n : ℕ = length a.fragment.now in
    let short : length a.fragment.now < a.end - a.kept = omega (arith, c.if-fragment-more.true, c.saturating_sub-more.ensures) in
    ap (λ (r : ℕ). pushed Nothing (keeping f.layout r (a.kept + n)) n) (sym c.requires.0)
    ∙ body-waits f.layout a.kept a.fragment.now a.buffer.now c.requires.1 a.end c.requires.2 short

pub returns-clause-answer : goal.returns-clause-answer
returns-clause-answer c =
    let a = c.args in
    let f = a.self.now in
    let more = c.saturating_sub-more.ensures in
    let enough : a.end - a.kept ≤ length a.fragment.now = omega (arith, c.if-fragment-more.false, more) in
    let read = c.read-answer.ensures ∙ ap (read_of f.layout) c.first.ensures in
    (λ i. pushed (Read (read i)) (keeping f.layout (sym c.requires.0 i) 0) (more i))
    ∙ body_reads f.layout a.kept a.fragment.now a.buffer.now c.requires.1 a.end c.requires.2 enough _ c.fill.ensures

-- `feed::Feed::pass` meets its contract: some of the message is left, or its last byte has passed.
use Prim.Native.Nat.{ℕ, ◌-◌, ◌≤◌, ◌<◌}
use mathlib.Core.Path.{◌≡◌, sym, ap, ◌∙◌}
use native.Mathlib.Omega.{arith}
use Rattle.message.specs.declared.Answer.{Answer}
use Rattle.feed.specs.Feed.{Nothing, Read}
use Rattle.feed.specs.Push.{keeping, passing, pushed}
use Rattle.feed.proofs.Laws.Rows.{passed-part, passed-whole}
use Rattle.feed.proofs.Feed.pass.Goals as goal

pub returns-in-Some : goal.returns-in-Some
returns-in-Some c =
    let a = c.args in
    let f = a.self.now in
    let left : c.in-Some.left.value ≡ a.left - a.n = c.in-Some.ensures ∙ c.saturating_sub.ensures in
    let some : a.n < a.left = omega (arith, left, c.in-Some.left.ok) in
    ap (λ (k : ℕ). pushed Nothing (passing f.layout f.room a.step k) a.n) left ∙ sym (passed-part f.layout f.room a.step a.left a.n some)

pub returns-in-None : goal.returns-in-None
returns-in-None c =
    let a = c.args in
    let f = a.self.now in
    let none : a.left ≤ a.n = omega (arith, c.in-None.ensures, c.saturating_sub.ensures) in
    ap (λ (x : Answer). pushed (Read x) (keeping f.layout f.room 0) a.left) c.refusal.ensures ∙ sym (passed-whole f.layout f.room a.step a.left a.n none)

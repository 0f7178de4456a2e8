-- `feed::Feed::push_fault` meets its contract: stopped, or another length, or too short.
use mathlib.Core.Path.{sym, ap, ◌∙◌}
use Rattle.feed.specs.Feed.{feed_of, is_stopped}
use Rattle.feed.proofs.Laws.Pushes.{fault-stopped, fault-other, fault-room}
use Rattle.feed.proofs.Laws.Code.{goes_on}
use Rattle.feed.proofs.Feed.push_fault.Goals as goal

pub returns-in-Stopped : goal.returns-in-Stopped
returns-in-Stopped c = sym (fault-stopped (feed_of c.args.self.now) c.args.room (ap is_stopped c.in-Stopped.is))

pub returns-then-room-self : goal.returns-then-room-self
returns-then-room-self c =
    let f = c.args.self.now in
    sym (fault-other (feed_of f) c.args.room (goes_on f.state c.in_default.not-Stopped) c.if-room-self.true)

pub returns : goal.returns
returns c =
    let f = c.args.self.now in
    c.room_fault.ensures ∙ sym (fault-room (feed_of f) c.args.room (goes_on f.state c.in_default.not-Stopped) c.if-room-self.false)

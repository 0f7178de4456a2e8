-- What is proved of feeds, as it is stated.
use Rattle.message.specs.declared.Layout.{Layout}
use Rattle.feed.specs.FeedTheorems.{FeedTheorems}
use Rattle.feed.proofs.Laws.Pushes.{takes, writes, refusals}
use Rattle.feed.proofs.Laws.Cuts.{cuts}
use Rattle.feed.proofs.Laws.Sent.{sent}
use Rattle.feed.proofs.Laws.Answers.{answers}

pub feed-theorems : (l : Layout) → FeedTheorems l
feed-theorems l = record { cuts = cuts l; sent = sent l; answers = answers l; takes = takes; writes = writes; refuses = refusals }

-- `content::kind_of` meets its contract: one test for each of the four texts.
use mathlib.Core.Path.{sym, ◌∙◌}
use Rattle.content.specs.Kinds.{kind_of}
use Rattle.content.proofs.kind_of.Goals as goal

pub returns-then-same : goal.returns-then-same
unfolding kind_of
returns-then-same c = simp (sym c.same.ensures ∙ c.if-same.true)

pub returns-then-same-2 : goal.returns-then-same-2
unfolding kind_of
returns-then-same-2 c = simp (sym c.same.ensures ∙ c.if-same.false, sym c.same-2.ensures ∙ c.if-same-2.true)

pub returns-then-same-3 : goal.returns-then-same-3
unfolding kind_of
returns-then-same-3 c = simp (sym c.same.ensures ∙ c.if-same.false, sym c.same-2.ensures ∙ c.if-same-2.false, sym c.same-3.ensures ∙ c.if-same-3.true)

pub returns-then-same-4 : goal.returns-then-same-4
unfolding kind_of
returns-then-same-4 c = simp (sym c.same.ensures ∙ c.if-same.false, sym c.same-2.ensures ∙ c.if-same-2.false, sym c.same-3.ensures ∙ c.if-same-3.false, sym c.same-4.ensures ∙ c.if-same-4.true)

pub returns : goal.returns
unfolding kind_of
returns c = simp (sym c.same.ensures ∙ c.if-same.false, sym c.same-2.ensures ∙ c.if-same-2.false, sym c.same-3.ensures ∙ c.if-same-3.false, sym c.same-4.ensures ∙ c.if-same-4.false)

-- `content::bind_check` meets its contract: a content of type BIND is judged as a BIND is.
use mathlib.Core.Path.{◌∙◌}
use Rattle.content.proofs.Laws.ChildrenWalk.{kind-bound}
use Rattle.content.proofs.Laws.Kinds.{kind-bind}
use Rattle.content.proofs.bind_check.Goals as goal

pub returns : goal.returns
returns c = c.nested_check.ensures ∙ kind-bound _ _ _ kind-bind

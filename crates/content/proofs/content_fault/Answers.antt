-- `content::content_fault` meets its contract.
use mathlib.Core.Path.{◌∙◌}
use Rattle.fields.proofs.Laws.Answer.{number_is, mapped}
use Rattle.content.proofs.Laws.ChildrenWalk.{content-fault}
use Rattle.content.proofs.content_fault.Goals as goal

pub returns : goal.returns
returns c = mapped _ c.content_check.result c.map.result c.map.ensures.cases ∙ number_is c.content_check.result c.content_check.ensures ∙ content-fault _ _ _

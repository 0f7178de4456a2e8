-- `content::nested_fault` meets its contract.
use mathlib.Core.Path.{◌∙◌}
use Rattle.fields.proofs.Laws.Answer.{number_is, mapped}
use Rattle.content.proofs.Laws.ChildrenWalk.{content-fault}
use Rattle.content.proofs.nested_fault.Goals as goal

pub returns : goal.returns
returns c = mapped _ c.nested_check.result c.map.result c.map.ensures.cases ∙ number_is c.nested_check.result c.nested_check.ensures ∙ content-fault _ _ _

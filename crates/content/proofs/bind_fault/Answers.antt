-- `content::bind_fault` meets its contract.
use mathlib.Core.Path.{◌∙◌}
use Rattle.fields.proofs.Laws.Answer.{number_is, mapped}
use Rattle.content.proofs.Laws.ChildrenWalk.{bind-fault}
use Rattle.content.proofs.bind_fault.Goals as goal

pub returns : goal.returns
returns c = mapped _ c.bind_check.result c.map.result c.map.ensures.cases ∙ number_is c.bind_check.result c.bind_check.ensures ∙ bind-fault _ _

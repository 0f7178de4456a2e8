use Rattle.fields.specs.Bytes.{same}
use Rattle.fields.proofs.slice.same.Goals as goal

pub returns : goal.returns
unfolding same
returns c = c.eq.ensures

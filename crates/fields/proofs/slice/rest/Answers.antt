-- `fields::slice::rest` meets its contract.
use mathlib.Core.Path.{sym}
use native.Mathlib.Omega.{arith}
use lib.ListN.{drop_of_length-le}
use Rattle.fields.proofs.Laws.Bytes.{rest_part}
use Rattle.fields.proofs.slice.rest.Goals as goal

pub returns-then-n-s : goal.returns-then-n-s
returns-then-n-s c = rest_part c.args.n c.args.s.now

pub returns-else-n-s : goal.returns-else-n-s
returns-else-n-s c = sym (drop_of_length-le c.args.s.now {i = c.args.n} (omega arith))

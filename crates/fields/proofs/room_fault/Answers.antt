-- `fields::room_fault` meets its contract: the law of each case.
use mathlib.Core.Path.{sym}
use Rattle.fields.proofs.Laws.Answer.{room-enough, room-short}
use Rattle.fields.proofs.room_fault.Goals as goal

pub returns-then-n-room : goal.returns-then-n-room
returns-then-n-room c = sym (room-enough c.args.n c.args.room c.if-n-room.true)

pub returns-else-n-room : goal.returns-else-n-room
returns-else-n-room c = sym (room-short c.args.n c.args.room c.if-n-room.false)

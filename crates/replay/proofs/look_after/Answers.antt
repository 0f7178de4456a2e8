-- `replay::look_after` meets its contract: a look on the panel after the calls; then `Demand3`.
use Rattle.replay.proofs.Laws.Replay.{look-shown, shows-after}
use Rattle.replay.proofs.look_after.Goals as goal

pub returns : goal.returns
returns c =
    let a = c.args in
    let e = look-shown a.script.now a.tile a.clock c.run.ensures c.look.ensures.equal c.after_look.ensures in
    let both = shows-after a.script.now a.tile a.clock (λ i. (c.type_inv.script i).fits) e in
    record { equal = both.0; demand3 = both.1 }

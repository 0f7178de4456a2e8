-- `bind_lookup::child_walk::headers_from` meets its contract: where there are not so many headers, nothing is left of them.
use mathlib.Core.Path.{sym, ap}
use Prim.Native.Nat.{◌*◌, ◌≤◌}
use native.Mathlib.Omega.{arith}
use lib.ListN.{length, drop_of_length-le}
use Rattle.bind_layout.specs.BindLayout.{headers}
use Rattle.bind_lookup.proofs.child_walk.headers_from.Goals as goal

pub returns-then-headers-i : goal.returns-then-headers-i
returns-then-headers-i c =
    let z = c.args in
    let h = headers z.content.now in
    let k : length h ≤ 20 * z.i = omega (arith, ap length c.headers-headers.ensures, c.if-headers-i.true) in
    sym (drop_of_length-le h k)

pub returns : goal.returns
returns c = cc

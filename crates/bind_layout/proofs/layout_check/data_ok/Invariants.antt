-- `bind_layout::layout_check::data_ok` meets its contract. The loop's invariant: the answer is that for the children left.
use mathlib.Core.Path.{◌≡◌}
use Prim.Native.Nat.{◌-◌}
use Rattle.bind_layout.specs.BindLayout.{data_ok}
use Rattle.bind_layout.proofs.layout_check.data_ok.Given as goal

abbrev pub invariant-loop : goal.invariant-loop
invariant-loop l = data_ok l.n l.children.headers.now l.children.data.now ≡ data_ok (l.n - l.counter) l.left.headers.now l.left.data.now

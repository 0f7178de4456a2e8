-- `bind_layout::layout_check::names_ok` meets its contract. The loop's invariant: the answer is that for the names left.
use mathlib.Core.Path.{◌≡◌}
use Prim.Native.Nat.{◌-◌}
use Rattle.bind_layout.specs.BindLayout.{names_ok}
use Rattle.bind_layout.proofs.layout_check.names_ok.Given as goal

abbrev pub invariant-loop : goal.invariant-loop
invariant-loop l = names_ok l.n l.table ≡ names_ok (l.n - l.counter) l.left

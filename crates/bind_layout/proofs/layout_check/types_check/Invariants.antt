-- `bind_layout::layout_check::types_check` meets its contract. The loop's invariant: the answer is that for the headers left, with the mark so far.
use mathlib.Core.Path.{◌≡◌}
use mathlib.Core.Bool.{◌&&◌}
use Prim.Native.Nat.{◌-◌}
use Rattle.bind_layout.specs.BindLayout.{types_ok, types_clean}
use Rattle.bind_layout.proofs.layout_check.types_check.Given as goal

abbrev pub invariant-loop : goal.invariant-loop
invariant-loop l = (types_ok l.n l.headers ≡ types_ok (l.n - l.counter) l.left) × (types_clean l.n l.headers ≡ (l.clean && types_clean (l.n - l.counter) l.left))

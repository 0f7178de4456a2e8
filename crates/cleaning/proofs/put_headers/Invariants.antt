-- `cleaning::put_headers` meets its contract. The loop's invariant: all is written once the headers left are.
use Prim.Native.Nat.{◌+◌, ◌-◌, ◌*◌, ◌≤◌}
use mathlib.Core.Path.{◌≡◌}
use lib.ListN.{length}
use lib.Seq.{sets}
use Rattle.cleaning.specs.CleanBytes.{clean_headers}
use Rattle.cleaning.proofs.put_headers.Given as goal

abbrev pub invariant-loop-i : goal.invariant-loop-i
invariant-loop-i l = (sets l.initial.out l.at (clean_headers l.n l.headers) ≡ sets l.out (l.at + 20 * l.i) (clean_headers (l.n - l.i) l.left))
    × (length l.out ≡ length l.initial.out)
    × (20 * (l.n - l.i) ≤ length l.left)

-- `bind_writer::table_ok` meets its contract: the length of the names with its pad, or more than that.
use Prim.Native.Nat.{ℕ}
use mathlib.Core.Path.{ap, sym}
use mathlib.Core.List.{map}
use native.Mathlib.Omega.{arith}
use lib.Dec.{leb}
use lib.ListN.{length}
use borrow.Author.Tests.{lt-leb}
use Rattle.fields.specs.Lists.{flat}
use Rattle.bind_layout.specs.Children.{padded, ended}
use Rattle.bind_layout.proofs.Laws.Children.{length-padded}
use Rattle.bind_writer.proofs.table_ok.Goals as goal

pub returns-in-Some : goal.returns-in-Some
returns-in-Some c =
    let l = flat ended (map (λ x. x.now) c.args.names.now) in
    ap (λ (n : ℕ). leb n 65535) (omega (arith, c.in-Some.ensures.0, length-padded l))

pub returns-in-None : goal.returns-in-None
returns-in-None c =
    let l = flat ended (map (λ x. x.now) c.args.names.now) in
    sym (lt-leb (length (padded l)) 65535 (omega (arith, c.in-None.ensures, length-padded l)))

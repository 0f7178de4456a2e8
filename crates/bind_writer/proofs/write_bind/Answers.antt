-- `bind_writer::write_bind` meets its contract: the law of a writer that refuses, and that of one that stored its bytes.
use Prim.Native.Nat.{ℕ, ◌≤◌}
use mathlib.Core.Path.{◌≡◌, sym, subst, ◌∙◌}
use mathlib.Core.List.{map}
use lib.ListN.{length}
use Rattle.std.proofs.Common.{rules}
use Rattle.fields.specs.Fault.{number_of}
use Rattle.fields.specs.Writers.{writer_fault}
use Rattle.fields.proofs.Laws.Writers.{refuses, stored}
use Rattle.bind_writer.specs.BindWriter.{given_fault, bind_bytes}
use Rattle.bind_writer.specs.ChildLists.{children}
use Rattle.bind_writer.proofs.Laws.Encoding.{length-cleaned}
use Rattle.bind_writer.proofs.Laws.Faults.{passed}
use Rattle.bind_writer.proofs.write_bind.Goals as goal

pub returns-in_err-write_fault : goal.returns-in_err-write_fault
returns-in_err-write_fault c =
    let a = c.args in
    let ts = map (λ x. x.now) a.types.now in
    let ns = map (λ x. x.now) a.names.now in
    let ds = map (λ x. x.now) a.contents.now in
    let e : number_of c.from_residual.result ≡ writer_fault (given_fault ts ns ds) (bind_bytes ts ns ds) (length a.out.now) = search rules in
    refuses (given_fault ts ns ds) (bind_bytes ts ns ds) a.out.now _ c.from_residual.ensures.0 e

pub put_children-n-requires : goal.put_children-n-requires
put_children-n-requires c =
    let a = c.args in
    let ts = map (λ x. x.now) a.types.now in
    let ns = map (λ x. x.now) a.names.now in
    let ds = map (λ x. x.now) a.contents.now in
    let p = passed ts ns ds (length a.out.now) (sym c.in_ok-write_fault.ensures) in
    (p.lists, subst (λ (n : ℕ). n ≤ length a.out.now) (length-cleaned (children ts ns ds)) p.fits)

pub returns : goal.returns
returns c =
    let a = c.args in
    let ts = map (λ x. x.now) a.types.now in
    let ns = map (λ x. x.now) a.names.now in
    let ds = map (λ x. x.now) a.contents.now in
    let put = c.put_children-n.ensures in
    stored (given_fault ts ns ds) (bind_bytes ts ns ds) a.out.now _ _ (sym c.in_ok-write_fault.ensures)
    (put.count ∙ sym (length-cleaned (children ts ns ds))) put.bytes

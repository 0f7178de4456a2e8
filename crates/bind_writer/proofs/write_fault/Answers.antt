-- `bind_writer::write_fault` meets its contract: the lists, the children, the room.
use mathlib.Core.Path.{◌≡◌, sym, ◌∙◌}
use mathlib.Core.Bool.{true}
use mathlib.Core.List.{List, map}
use Prim.Native.Nat.{ℕ}
use Rattle.std.proofs.Common.{rules}
use Rattle.fields.specs.Fault.{fault_number, number_of}
use Rattle.fields.proofs.Laws.Answer.{fault_some}
use Rattle.content.specs.ContentTheorems.{first_fault}
use Rattle.bind_writer.specs.ChildLists.{children, WithContents}
use Rattle.bind_writer.specs.BindWriter.{lists_ok, child_fault}
use Rattle.bind_writer.proofs.Laws.Slices.{count_same}
use Rattle.bind_writer.proofs.Laws.Children.{lists_of}
use Rattle.bind_writer.proofs.Laws.Layout.{lists-passed}
use Rattle.bind_writer.proofs.Laws.Faults.{by-lists, by-children, by-room}
use Rattle.bind_writer.proofs.write_fault.Goals as goal

-- of lists that pass, what is promised of any children with these types and contents holds of their own
children-fault : (ts ns ds : List (List ℕ)) {n : ℕ} → lists_ok ts ns ds ≡ true → WithContents ts ds (λ cs. n ≡ first_fault child_fault cs)
    → n ≡ first_fault child_fault (children ts ns ds)
children-fault ts ns ds h f = let e = lists_of ts ns ds (lists-passed ts ns ds h).count in f (children ts ns ds) e.0 e.2

pub returns-then-not-lists_ok : goal.returns-then-not-lists_ok
returns-then-not-lists_ok c =
    let a = c.args in
    let g = c.lists_ok in
    sym (by-lists (map (λ x. x.now) a.types.now) (map (λ x. x.now) a.names.now) (map (λ x. x.now) a.contents.now) a.room (sym g.ensures ∙ c.if-not-lists_ok.true))

pub first_fault-requires : goal.first_fault-requires
first_fault-requires c =
    let a = c.args in
    let ts = a.types.now in
    let ns = a.names.now in
    let ds = a.contents.now in
    let g = c.lists_ok in
    (count_same ts ns ds (lists-passed (map (λ x. x.now) ts) (map (λ x. x.now) ns) (map (λ x. x.now) ds) (sym g.ensures ∙ c.if-not-lists_ok.false)).count).1

pub returns-in_err-first_fault : goal.returns-in_err-first_fault
returns-in_err-first_fault c =
    let a = c.args in
    let ts = map (λ x. x.now) a.types.now in
    let ns = map (λ x. x.now) a.names.now in
    let ds = map (λ x. x.now) a.contents.now in
    let h : lists_ok ts ns ds ≡ true = sym c.lists_ok.ensures ∙ c.if-not-lists_ok.false in
    let f = c.in_err-first_fault.field-0.0 in
    let r : number_of c.from_residual.result ≡ fault_number f = search rules in
    let e = children-fault ts ns ds h c.in_err-first_fault.ensures in
    r ∙ e ∙ sym (by-children ts ns ds a.room h (λ z. fault_some f (e ∙ z)))

pub space_fault-requires : goal.space_fault-requires
space_fault-requires c =
    let g = c.lists_ok in
    sym g.ensures ∙ c.if-not-lists_ok.false

pub returns : goal.returns
returns c =
    let a = c.args in
    let ts = map (λ x. x.now) a.types.now in
    let ns = map (λ x. x.now) a.names.now in
    let ds = map (λ x. x.now) a.contents.now in
    let h : lists_ok ts ns ds ≡ true = sym c.lists_ok.ensures ∙ c.if-not-lists_ok.false in
    c.space_fault.ensures ∙ sym (by-room ts ns ds a.room h (sym (children-fault ts ns ds h c.in_ok-first_fault.ensures)))

-- `bind_writer::space_fault` meets its contract: the room is compared with the length of the encoding, part by part.
use mathlib.Core.Path.{◌≡◌, sym, ◌∙◌}
use mathlib.Core.Bool.{true}
use mathlib.Core.List.{List, map}
use Prim.Native.Nat.{ℕ, ◌+◌, ◌-◌, ◌*◌, ◌%◌, ◌≤◌, min}
use native.Mathlib.Omega.{arith}
use lib.ListN.{length, length-map}
use lib.Dec.{leb}
use borrow.Author.Tests.{leb-true, leb-false}
use Rattle.fields.specs.Lists.{flat}
use Rattle.fields.specs.Answer.{room_fault}
use Rattle.fields.proofs.Laws.Answer.{room-enough, room-short}
use Rattle.fields.proofs.Laws.Tests.{by-test}
use Rattle.bind_layout.specs.Children.{padded, name_table, ended}
use Rattle.bind_writer.specs.ChildLists.{children}
use Rattle.bind_writer.proofs.Laws.Layout.{lists-passed}
use Rattle.bind_writer.specs.BindWriter.{lists_ok, bind_bytes}
use Rattle.bind_writer.proofs.Laws.Encoding.{names-counted, names-known, length-table, length_front, length-cleaned}
use Rattle.bind_writer.proofs.space_fault.Goals as goal

-- the length that the room is compared with, by the names' length n
encoded : (ts ns ds : List (List ℕ)) {n : ℕ} → lists_ok ts ns ds ≡ true → n ≡ length (flat ended ns)
    → length (bind_bytes ts ns ds) ≡ 4 + 20 * length ts + n + n % 2 + length (flat padded ds)
encoded ts ns ds h e =
    let g = lists-passed ts ns ds h in
    length-cleaned (children ts ns ds) ∙ length_front ts ns ds g.count _ e

-- what stands before the data fits, and r is as much of the data as needs be known
split : (long front behind room r : ℕ) → long ≡ front + behind → front ≤ room → r ≡ min behind (room - front + 1)
    → room_fault r (room - front) ≡ room_fault long room
split long front behind room r e h m =
    by-test (leb behind (room - front))
    (λ t. let k = leb-true behind (room - front) t in room-enough r (room - front) (omega (arith, k)) ∙ sym (room-enough long room (omega (arith, k))))
    (λ t. let k = leb-false behind (room - front) t in room-short r (room - front) (omega (arith, k)) ∙ sym (room-short long room (omega (arith, k))))

pub unwrap-n-requires : goal.unwrap-n-requires
unwrap-n-requires c =
    let a = c.args in
    let ts = map (λ x. x.now) a.types.now in
    let ns = map (λ x. x.now) a.names.now in
    let ds = map (λ x. x.now) a.contents.now in
    let g = lists-passed ts ns ds c.requires in
    let t = leb-true (length (name_table (children ts ns ds))) _ g.table in
    names-known _ _ c.names_len.ensures (omega (arith, t, length-table ts ns ds g.count))

pub returns-then-room-front : goal.returns-then-room-front
returns-then-room-front c =
    let a = c.args in
    let e = encoded (map (λ x. x.now) a.types.now) _ (map (λ x. x.now) a.contents.now) c.requires (names-counted _ _ c.names_len.ensures _ c.unwrap-n.ensures) in
    c.room_fault.ensures ∙ room-short _ _ (omega arith) ∙ sym (room-short _ _ (omega (arith, e, length-map a.types.now (λ x. x.now))))

pub returns : goal.returns
returns c =
    let a = c.args in
    let e = encoded (map (λ x. x.now) a.types.now) _ (map (λ x. x.now) a.contents.now) c.requires (names-counted _ _ c.names_len.ensures _ c.unwrap-n.ensures) in
    c.room_fault-2.ensures ∙ split _ _ _ a.room _ (e ∙ omega (arith, length-map a.types.now (λ x. x.now))) (omega arith) c.data_len.ensures

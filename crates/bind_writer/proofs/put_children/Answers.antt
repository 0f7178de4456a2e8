-- `bind_writer::put_children` meets its contract: the four parts of the encoding are one run of bytes.
use Prim.Native.Nat.{ℕ, ◌+◌, ◌*◌}
use mathlib.Core.Path.{◌≡◌, ap, sym, ◌∙◌}
use mathlib.Core.List.{List, map, ◌++◌}
use native.Mathlib.Omega.{arith}
use lib.ListN.{length, length-map}
use lib.Seq.{sets}
use borrow.Author.Tests.{leb-true}
use Rattle.fields.specs.Numbers.{be_bytes}
use Rattle.fields.specs.Lists.{flat}
use Rattle.bind_layout.specs.Children.{padded, name_table, ended}
use Rattle.bind_writer.specs.ChildLists.{children}
use Rattle.bind_writer.specs.BindWriter.{plain_header, clean_data}
use Rattle.bind_writer.proofs.Laws.Slices.{count_same}
use Rattle.bind_writer.proofs.Laws.Children.{lists_of}
use Rattle.bind_writer.proofs.Laws.Layout.{lists-passed}
use Rattle.bind_writer.proofs.Laws.Encoding.{table-given, length-given, encode-stores}
use Rattle.bind_writer.proofs.put_children.Goals as goal

pub overflow_cast-count : goal.overflow_cast-count
overflow_cast-count c =
    let a = c.args in
    let g = lists-passed (map (λ x. x.now) a.types.now) (map (λ x. x.now) a.names.now) (map (λ x. x.now) a.contents.now) c.requires.0 in
    omega (arith, leb-true (length (map (λ x. x.now) a.types.now)) _ g.few, length-map a.types.now (λ x. x.now))

pub put_headers-requires : goal.put_headers-requires
put_headers-requires c =
    let a = c.args in
    let ts = a.types.now in
    let ns = a.names.now in
    let ds = a.contents.now in
    let g = lists-passed (map (λ x. x.now) ts) (map (λ x. x.now) ns) (map (λ x. x.now) ds) c.requires.0 in
    let e = length-given (map (λ x. x.now) ts) (map (λ x. x.now) ns) (map (λ x. x.now) ds) g.count in
    ((count_same ts ns ds g.count).1, omega (arith, c.requires.1, length-map ts (λ x. x.now)))

pub put_table-end-requires : goal.put_table-end-requires
put_table-end-requires c =
    let a = c.args in
    let ts = map (λ x. x.now) a.types.now in
    let ns = map (λ x. x.now) a.names.now in
    let ds = map (λ x. x.now) a.contents.now in
    let g = lists-passed ts ns ds c.requires.0 in
    let e = length-given ts ns ds g.count in
    (omega (arith, leb-true (length (name_table (children ts ns ds))) _ g.table, ap length (table-given ts ns ds g.count)), omega (arith, c.requires.1, length-map a.types.now (λ x. x.now)))

pub put_contents-requires : goal.put_contents-requires
put_contents-requires c =
    let a = c.args in
    let ts = map (λ x. x.now) a.types.now in
    let ns = map (λ x. x.now) a.names.now in
    let ds = map (λ x. x.now) a.contents.now in
    let g = lists-passed ts ns ds c.requires.0 in
    let e = length-given ts ns ds g.count in
    ((count_same a.types.now a.names.now a.contents.now g.count).1, omega (arith, c.requires.1, c.put_table-end.ensures.place, length-map a.types.now (λ x. x.now)))

pub returns : goal.returns
returns c =
    let a = c.args in
    let ts = map (λ x. x.now) a.types.now in
    let ns = map (λ x. x.now) a.names.now in
    let ds = map (λ x. x.now) a.contents.now in
    let g = lists-passed ts ns ds c.requires.0 in
    let e = length-given ts ns ds g.count in
    let p = lists_of ts ns ds g.count in
    let n = length-map a.types.now (λ x. x.now) in
    let cs = children ts ns ds in
    let heads = c.put_headers.ensures cs p.0 p.2 in
    let table = c.put_table-end in
    let body = c.put_contents.ensures in
    let x = be_bytes 2 (length (padded (flat ended ns))) ++ padded (flat ended ns) in
    let end : table.result ≡ 2 + 20 * length ts + (2 + length (padded (flat ended ns))) = omega (arith, table.ensures.place) in record {
      count = omega (arith, e, body.place, end);
      bytes = body.bytes cs p.0 p.2
          ∙ ap (λ (l : List ℕ). sets l table.result (flat clean_data cs)) (table.ensures.bytes ∙ ap (λ (l : List ℕ). sets l (2 + 20 * length a.types.now) x) (heads ∙ ap (λ (l : List ℕ). sets l 2 (flat plain_header cs)) c.put.ensures))
          ∙ ap (λ (m : ℕ). sets (sets (sets (sets a.out.now 0 (be_bytes 2 m)) 2 (flat plain_header cs)) (2 + 20 * m) x) table.result (flat clean_data cs)) (sym n)
          ∙ encode-stores ts ns ds g.count a.out.now table.result end;
    }

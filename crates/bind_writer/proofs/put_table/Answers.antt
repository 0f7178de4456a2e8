-- `bind_writer::put_table` meets its contract: size, names and pad are one run of bytes.
use Prim.Native.Nat.{ℕ, ◌+◌, ◌%◌}
use mathlib.Core.Path.{◌≡◌, ap, ◌∙◌}
use mathlib.Core.List.{List, map}
use native.Mathlib.Omega.{arith}
use lib.ListN.{length, replicate}
use lib.Seq.{sets}
use Rattle.fields.specs.Lists.{flat}
use Rattle.bind_layout.specs.Children.{ended}
use Rattle.bind_layout.proofs.Laws.Children.{length-padded}
use Rattle.bind_writer.proofs.Laws.Encoding.{names-counted, names-known, table-stores}
use Rattle.bind_writer.proofs.put_table.Goals as goal

pub unwrap-n-requires : goal.unwrap-n-requires
unwrap-n-requires c = names-known _ _ c.names_len.ensures (omega (arith, c.requires.0, length-padded (flat ended (map (λ x. x.now) c.args.names.now))))

pub overflow_cast-n : goal.overflow_cast-n
overflow_cast-n c =
    omega (arith, names-counted _ _ c.names_len.ensures _ c.unwrap-n.ensures, c.requires.0, length-padded (flat ended (map (λ x. x.now) c.args.names.now)))

pub put_names-end-requires : goal.put_names-end-requires
put_names-end-requires c = omega (arith, c.requires.1, length-padded (flat ended (map (λ x. x.now) c.args.names.now)))

pub overflow_add-result : goal.overflow_add-result
overflow_add-result c =
    omega (arith, c.put_names-end.ensures.place, names-counted _ _ c.names_len.ensures _ c.unwrap-n.ensures, c.requires.0, c.requires.1, length-padded (flat ended (map (λ x. x.now) c.args.names.now)))

pub returns : goal.returns
returns c =
    let a = c.args in
    let l = flat ended (map (λ x. x.now) a.names.now) in
    let s = c.unwrap-n in
    let n = c.put_names-end in
    let k : s.result ≡ length l = names-counted _ _ c.names_len.ensures _ s.ensures in
    let end : n.result ≡ a.at + 2 + length l = n.ensures.place in record {
      place = omega (arith, k, length-padded l);
      bytes = c.put_pad.ensures
          ∙ ap (λ (x : List ℕ). sets x n.result (replicate (s.result % 2) 0)) (n.ensures.bytes ∙ ap (λ (x : List ℕ). sets x (a.at + 2) l) c.put.ensures)
          ∙ table-stores l a.out.now a.at s.result n.result k end;
    }

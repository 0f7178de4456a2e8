-- `cleaning::put_front` meets its contract: three runs of bytes are one.
use mathlib.Core.Path.{◌≡◌, ap, ◌∙◌}
use native.Mathlib.Omega.{arith}
use lib.ListN.{length, length-drop}
use Rattle.fields.specs.Numbers.{be_at}
use Rattle.bind_layout.specs.BindLayout.{child_count}
use Rattle.bind_layout.proofs.Laws.Read.{layout-fits}
use Rattle.cleaning.proofs.Laws.CleaningWalk.{front-walk}
use Rattle.cleaning.proofs.put_front.Goals as goal

pub put_headers-requires : goal.put_headers-requires
put_headers-requires c =
    let s = c.args.content.now in
    let l = layout-fits s c.requires.0 in
    let n : c.child_count-n.result ≡ child_count s = c.child_count-n.ensures in
    let h = ap length c.headers.ensures ∙ length-drop 2 s in
    let k = c.put.auto.out in
    (omega (arith, l, n, h), omega (arith, l, n, k, c.requires.1))

pub overflow_mul-n : goal.overflow_mul-n
overflow_mul-n c = omega (arith, layout-fits c.args.content.now c.requires.0, c.child_count-n.ensures, c.requires.1)

pub overflow_add-at-3 : goal.overflow_add-at-3
overflow_add-at-3 c = omega (arith, layout-fits c.args.content.now c.requires.0, c.child_count-n.ensures, c.requires.1)

pub returns : goal.returns
returns c =
    front-walk c.args.content.now c.args.out.now _ _ _ _ _ _ _ c.args.at c.child_count-n.result c.read-table_size.result c.requires.0 c.put.ensures c.first.ensures c.put_headers.ensures c.child_count-n.ensures c.headers.ensures c.put-2.ensures c.first-2.ensures (c.read-table_size.ensures ∙ ap (be_at 2 0) c.after_headers-after.ensures) c.after_headers-after.ensures

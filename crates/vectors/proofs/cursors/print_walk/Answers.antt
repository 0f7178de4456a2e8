use Rattle.std.proofs.Common.{◌≡◌, ◌<◌, arith, ap, subst, sym}
use Rattle.bind_cursor.specs.declared.Cursor.{Cursor}
use Rattle.bind_cursor.proofs.Laws.Cursor.{cursor-theorems}
use Rattle.vectors.proofs.cursors.print_walk.Goals as goal

-- a cursor with a child left is not refused
abbrev Standing : Cursor → Type 0
Standing x = 0 < x.left → x.number ≡ 0

pub loop-cursor-init : goal.loop-cursor-init
loop-cursor-init g c = subst Standing (sym c.first_child-cursor.ensures) (cursor-theorems.begins _)

pub loop-cursor-smaller : goal.loop-cursor-smaller
loop-cursor-smaller g c =
    let l = c.loop-cursor in
    let content = c.args.content.now in
    let some : 0 < l.cursor.left = omega arith in
    omega (arith, some, ap (λ (x : Cursor). x.left) c.next_child-cursor.ensures, (cursor-theorems.counts_down content l.cursor (l.invariant some)).1)

pub loop-cursor-preserved : goal.loop-cursor-preserved
loop-cursor-preserved g c =
    let l = c.loop-cursor in
    let content = c.args.content.now in
    let some : 0 < l.cursor.left = omega arith in
    subst Standing (sym c.next_child-cursor.ensures) (λ _. (cursor-theorems.counts_down content l.cursor (l.invariant some)).0)

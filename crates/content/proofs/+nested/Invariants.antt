-- The check of a content and the check of a BIND, which call each other, meet their contracts. What falls at each call is twice the levels
-- left and twice the bytes left: a BIND's children have one level less and, without its four bytes of counts, fewer bytes.
use Rattle.std.proofs.Common.{◌≡◌, ◌+◌, ◌-◌, ◌≤◌, ◌&&◌, length}
use Rattle.content.specs.ContentCheck.{children_fault, bind_fault, children_clean, bind_clean}
use Rattle.content.proofs.+nested.Given as goal

abbrev pub decreases-nested_bind_check : goal.decreases-nested_bind_check
decreases-nested_bind_check l = l.levels + l.levels + (length l.content.now + length l.content.now)

abbrev pub decreases-nested_check : goal.decreases-nested_check
decreases-nested_check l = l.levels + l.levels + (length l.content.now + length l.content.now) + 1

abbrev pub invariant-nested_bind_check-loop : goal.invariant-nested_bind_check-loop
invariant-nested_bind_check-loop l =
    (bind_fault l.levels l.content ≡ children_fault (bind_fault (l.levels - 1)) (l.end - l.counter) l.left.headers.now l.left.data.now)
    × (length l.left.data.now + 4 ≤ length l.content)
    × (bind_clean l.levels l.content ≡ (l.clean && children_clean (bind_clean (l.levels - 1)) (l.end - l.counter) l.left.headers.now l.left.data.now))

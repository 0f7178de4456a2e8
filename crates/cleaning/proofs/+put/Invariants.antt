-- Writing a content clean and writing a BIND clean, which call on each other, meet their contracts. A call falls in twice the levels and the
-- bytes left, as in content's check. The loop's invariant: all is written once the data left is.
use Rattle.std.proofs.Common.{◌+◌, ◌-◌, ◌≤◌, ◌≡◌, true, length}
use Rattle.std.proofs.lemmas.List.Edits.{sets}
use Rattle.bind_layout.specs.BindLayout.{data_ok}
use Rattle.cleaning.specs.CleanBytes.{clean_blocks, clean_bind}
use Rattle.cleaning.proofs.+put.Given as goal

abbrev pub decreases-put_bind : goal.decreases-put_bind
decreases-put_bind l = l.levels + l.levels + (length l.content.now + length l.content.now)

abbrev pub decreases-put_content : goal.decreases-put_content
decreases-put_content l = l.levels + l.levels + (length l.content.now + length l.content.now) + 1

abbrev pub invariant-put_bind-loop : goal.invariant-put_bind-loop
invariant-put_bind-loop l =
    (sets l.initial.out (l.at + (length l.content - length l.initial.left.data.now)) (clean_blocks (clean_bind (l.levels - 1)) l.end l.initial.left.headers.now l.initial.left.data.now)
    ≡ sets l.out (l.at + (length l.content - length l.left.data.now)) (clean_blocks (clean_bind (l.levels - 1)) (l.end - l.counter) l.left.headers.now l.left.data.now))
    × (length l.out ≡ length l.initial.out)
    × (length l.left.data.now + 4 ≤ length l.content)
    × (data_ok (l.end - l.counter) l.left.headers.now l.left.data.now ≡ true)

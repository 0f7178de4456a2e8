-- `bind_writer::data_len` meets its contract. The loop's invariant: the first `i` contents and `left` make up `most`.
use Prim.Native.Nat.{◌+◌, ◌≤◌}
use mathlib.Core.Path.{◌≡◌}
use mathlib.Core.List.{map}
use lib.ListN.{length, take}
use Rattle.fields.specs.Lists.{flat}
use Rattle.bind_layout.specs.Children.{padded}
use Rattle.bind_writer.proofs.data_len.Given as goal

abbrev pub invariant-loop-content : goal.invariant-loop-content
invariant-loop-content l = (l.content-index ≤ length l.contents) × (length (flat padded (take l.content-index (map (λ x. x.now) l.contents))) + l.left ≡ l.most)

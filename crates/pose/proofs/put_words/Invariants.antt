-- `pose::put_words` meets its contract. The loop's invariant: the first `i` words are written.
use mathlib.Core.Path.{◌≡◌}
use lib.ListN.{take}
use lib.Seq.{sets}
use Rattle.pose.specs.Words.{word_bytes}
use Rattle.pose.proofs.put_words.Given as goal

abbrev pub invariant-loop-i : goal.invariant-loop-i
invariant-loop-i l = l.out ≡ sets l.initial.out 0 (word_bytes (take l.i l.words))

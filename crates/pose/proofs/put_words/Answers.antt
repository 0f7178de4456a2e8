use Prim.Native.Nat.{ℕ, ◌*◌}
use mathlib.Core.Path.{refl, ap, ◌∙◌}
use mathlib.Core.List.{List}
use lib.ListN.{get_or}
use lib.Seq.{sets}
use Rattle.fields.specs.Lists.{flat}
use Rattle.fields.specs.Numbers.{be_bytes}
use Rattle.pose.specs.Words.{word_bytes}
use Rattle.pose.proofs.Laws.{put_word}
use Rattle.pose.proofs.put_words.Goals as goal

pub loop-i-init : goal.loop-i-init
unfolding word_bytes flat
loop-i-init c = refl

pub loop-i-preserved : goal.loop-i-preserved
loop-i-preserved c =
    let a = c.args in
    let l = c.loop-i in
    c.put.ensures
    ∙ ap (λ (r : List ℕ). sets r (4 * l.i) (be_bytes 4 (get_or a.words.now l.i 0))) l.invariant
    ∙ put_word a.out.now a.words.now l.i c.loop-i-test.true

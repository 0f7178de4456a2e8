-- `cleaning::put_clean` meets its contract: with room, and without.
use Prim.Native.Nat.{ℕ}
use mathlib.Core.Path.{sym, ap, ◌∙◌}
use lib.Seq.{sets}
use Rattle.cleaning.specs.CleanBytes.{clean_bytes}
use native.Mathlib.Omega.{arith}
use Rattle.cleaning.proofs.Laws.CleaningWalk.{put-fits, put-short}
use Rattle.cleaning.proofs.put_clean.Goals as goal

pub returns-then-out-at : goal.returns-then-out-at
returns-then-out-at c = let a = c.args in sym (put-short a.levels a.type_text.now a.content.now a.at a.out.now (omega arith))

pub returns-then-out-at-2 : goal.returns-then-out-at-2
returns-then-out-at-2 c = let a = c.args in sym (put-short a.levels a.type_text.now a.content.now a.at a.out.now (omega arith))

pub returns : goal.returns
returns c =
    let a = c.args in
    c.put_content.ensures
    ∙ ap (λ (n : ℕ). sets a.out.now a.at (clean_bytes n a.type_text.now a.content.now)) c.bounded_levels.ensures
    ∙ sym (put-fits a.levels a.type_text.now a.content.now a.at a.out.now (omega arith))

-- `bind_writer::put_content` meets its contract: two runs of bytes are one, and cleaning keeps the length.
use Prim.Native.Nat.{ℕ, ◌+◌, ◌%◌}
use mathlib.Core.Path.{ap, sym, ◌∙◌}
use mathlib.Core.List.{List}
use native.Mathlib.Omega.{arith}
use lib.ListN.{length, replicate}
use lib.Seq.{sets}
use Rattle.fields.proofs.Laws.Stores.{sets-append}
use Rattle.bind_layout.specs.Children.{padded}
use Rattle.bind_layout.proofs.Laws.Children.{length-padded}
use Rattle.cleaning.proofs.Laws.CleaningWalk.{put-left}
use Rattle.bind_writer.specs.BindWriter.{clean_content}
use Rattle.bind_writer.proofs.Laws.Children.{length-content}
use Rattle.bind_writer.proofs.put_content.Goals as goal

pub returns : goal.returns
unfolding padded
returns c =
    let a = c.args in
    let t = a.type_text.now in
    let x = a.content.now in
    let y = clean_content t x in
    let n = length-content t x in
    let p = replicate {A = ℕ} (length x % 2) 0 in
    let l = length-padded x in
    let clean = put-left _ t x a.at _ _ c.put_clean.ensures (omega (arith, l, c.requires)) in record {
      place = omega (arith, l);
      bytes = c.put_pad.ensures
          ∙ ap (λ (r : List ℕ). sets r (a.at + length x) p) clean
          ∙ ap (λ (k : ℕ). sets (sets a.out.now a.at y) (a.at + k) (replicate (k % 2) 0)) (sym n)
          ∙ sym (sets-append a.out.now a.at y (replicate (length y % 2) 0));
    }

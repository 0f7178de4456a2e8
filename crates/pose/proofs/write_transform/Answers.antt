-- `pose::write_transform` meets its contract: the law of a writer that refuses, and that of one that stored its bytes.
use Prim.Native.Nat.{ℕ}
use mathlib.Core.Path.{◌≡◌, sym, ap, ◌∙◌}
use mathlib.Core.List.{List}
use native.Mathlib.Omega.{arith}
use lib.ListN.{length}
use lib.Seq.{sets}
use Rattle.std.proofs.Common.{rules}
use Rattle.fields.specs.Answer.{room_fault}
use Rattle.fields.specs.Fault.{number_of}
use Rattle.fields.proofs.Laws.Writers.{refuses, stored}
use Rattle.pose.specs.Words.{word_bytes}
use Rattle.pose.specs.Transform.{transform_words, transform_bytes}
use Rattle.pose.proofs.Laws.{length-word_bytes}
use Rattle.pose.proofs.write_transform.Goals as goal

pub returns-in_err-room_fault : goal.returns-in_err-room_fault
returns-in_err-room_fault c =
    let a = c.args in
    let e : number_of c.from_residual.result ≡ room_fault 48 (length a.out.now) = search rules in
    refuses 0 (transform_bytes a.transform) a.out.now _ c.from_residual.ensures.0 (e ∙ ap (λ (n : ℕ). room_fault n (length a.out.now)) (omega (arith, length-word_bytes (transform_words a.transform), ap length c.transform_words-words.ensures)))

pub returns : goal.returns
returns c =
    let a = c.args in
    let words = c.transform_words-words.ensures in
    let e : length (transform_bytes a.transform) ≡ 48 = omega (arith, length-word_bytes (transform_words a.transform), ap length words) in
    stored 0 (transform_bytes a.transform) a.out.now _ 48
    (ap (λ (n : ℕ). room_fault n (length a.out.now)) e ∙ sym c.in_ok-room_fault.ensures)
    (sym e) (c.put_words.ensures ∙ ap (λ (r : List ℕ). sets a.out.now 0 (word_bytes r)) words)

-- `fields::text::all_zero` meets its contract: the test of every byte, by the library's word for it.
use Rattle.std.proofs.Common.{rules, ◌≤◌, refl, ℕ, All}
use Rattle.std.specs.Bool.{Decides, one_answer}
use Rattle.std.proofs.lemmas.Bool.Decides.{Decides-by_and}
use Rattle.fields.specs.Lists.{all_of}
use Rattle.fields.specs.Text.{zero_byte, all_zero}
use Rattle.fields.proofs.text.all_zero.Goals as goal

pub returns : goal.returns
unfolding all_zero all_of
returns c =
    let s = c.args.s.now in
    let P : ℕ → Type 0 = λ b. b ≤ 0 in
    let d : Decides c.all.result (All P s) = search rules in
    one_answer c.all.result (all_of zero_byte s) d (Decides-by_and zero_byte P (all_of zero_byte) (λ b. search rules) refl (λ _ _. refl) s)

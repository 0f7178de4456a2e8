-- `fields::text::is_text` meets its contract: the test of every byte, by the library's word for it.
use Rattle.std.proofs.Common.{rules, refl, ℕ, ◌<◌, All}
use Rattle.std.specs.Bool.{Decides, one_answer}
use Rattle.std.proofs.lemmas.Bool.Decides.{Decides-by_and}
use Rattle.fields.specs.Lists.{all_of}
use Rattle.fields.specs.Text.{text_byte, is_text}
use Rattle.fields.proofs.text.is_text.Goals as goal

pub returns : goal.returns
unfolding is_text all_of
returns c =
    let t = c.args.t.now in
    let P : ℕ → Type 0 = λ b. (0 < b) × (b < 128) in
    let d : Decides c.all.result (All P t) = search rules in
    one_answer c.all.result (all_of text_byte t) d (Decides-by_and text_byte P (all_of text_byte) (λ b. search rules) refl (λ _ _. refl) t)

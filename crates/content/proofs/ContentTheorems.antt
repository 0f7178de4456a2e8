-- What is proved of contents.
use Prim.Native.Nat.{ℕ}
use mathlib.Core.Path.{◌≡◌, sym, ap, ◌∙◌}
use mathlib.Core.List.{List}
use Rattle.fields.specs.Formats.{TwoWay}
use Rattle.content.specs.Tree.{encode}
use Rattle.content.specs.ContentCheck.{content_fault}
use Rattle.content.specs.ContentTheorems.{WellOf, ContentTheorems}
use Rattle.content.proofs.Laws.Contents.{content-accepted, content-well, content-unique}
use Rattle.content.proofs.Laws.Cleaned.{cleaned_well, well-fills, any_rests, cleaned_clean, clean_same}
use Rattle.content.proofs.Laws.Marks.{mark-to, mark-from, no_mark}

content-two-way : (levels : ℕ) (t : List ℕ) → TwoWay (WellOf levels t) encode (content_fault levels t) (λ n. n ≡ 0 → ⊥)
content-two-way levels t =
    record {
      accepted = content-accepted levels t;
      well_accepted = λ x w. ap (λ (u : List ℕ). content_fault levels u (encode x)) (sym w.1) ∙ content-well levels x w.0;
      only_one = λ x y v w e. content-unique levels levels x y v.0 w.0 (v.1 ∙ sym w.1) e;
      refused = λ s b n e. n (content-accepted levels t s b e);
    }

pub content-theorems : ContentTheorems
content-theorems =
    record {
      two_way = content-two-way;
      unique = content-unique;
      mark = λ levels x w. (mark-to levels x w, mark-from levels x w);
      no_mark = no_mark;
      cleaned_well = λ levels x w. cleaned_well x levels w;
      fills = λ levels x w. well-fills x levels w;
      any_rests = λ levels x f w. any_rests x levels f w;
      cleaned_clean = cleaned_clean;
      clean_same = clean_same;
    }

-- The mark of a content: it is true exactly when every rest in the tree is zeros.
use mathlib.Core.Path.{◌≡◌, refl, sym, ap, ◌∙◌}
use mathlib.Core.Logic.{◌↔◌}
use mathlib.Core.Bool.{Bool, true, false, ◌&&◌}
use mathlib.Core.List.{List}
use Prim.Native.Nat.{ℕ, zero, suc}
use lib.ListN.{take, drop}
use Rattle.fields.specs.Lists.{all_of, Each}
use Rattle.fields.specs.Text.{past_text}
use Rattle.fields.proofs.Laws.Answer.{checked-mark, checked-false}
use Rattle.fields.proofs.Laws.Checks.{and_both}
use Rattle.bind_layout.specs.Children.{Child, encode_children, WellBundle, CleanChild}
use Rattle.bind_layout.specs.BindLayout.{child_count, headers, table_of, data_of, type_of, size_of, after_block, types_clean}
use Rattle.bind_layout.proofs.Laws.Children.{children_from}
use Rattle.bind_layout.proofs.Laws.Written.{children-written}
use Rattle.bind_layout.proofs.Laws.Marks.{types-clean}
use Rattle.content.specs.declared.Kind.{Kind}
use Rattle.content.specs.declared.Kind.TheVariants.{Transform, Position, Image, Bind, Other}
use Rattle.content.specs.Kinds.{kind_of, bind_text, transform_text, position_text, image_text}
use Rattle.content.specs.Tree.{Content, Children, transform, position, image, bind, other, none, more, type_text, encode, child_list, WellFormed, WellChildren, IsClean, AllClean}
use Rattle.content.specs.ContentCheck.{kind_clean, children_clean, bind_clean, content_fault, content_clean, content_checked}
use Rattle.content.proofs.Laws.Kinds.{kind-transform, kind-position, kind-image, kind-bind, kind-other}
use Rattle.content.proofs.Laws.Contents.{content-well}

-- the mark of one child
abbrev child_clean : ℕ → Child → Bool
child_clean levels c = content_clean levels c.type_text c.content

kind-clean : (levels : ℕ) (t s : List ℕ) (k : Kind) → kind_of t ≡ k → content_clean levels t s ≡ kind_clean (bind_clean levels) k s
unfolding content_clean
kind-clean levels t s k e = ap (λ (x : Kind). kind_clean (bind_clean levels) x s) e

-- the walk over the children is the test of each in the list of them
marks-list : (levels k : ℕ) (h t d : List ℕ) → children_clean (bind_clean levels) k h d ≡ all_of (child_clean levels) (children_from k h t d)
unfolding children_clean children_from content_clean all_of
marks-list levels zero h t d = refl
marks-list levels (suc k) h t d =
    ap (λ (b : Bool). kind_clean (bind_clean levels) (kind_of (type_of h)) (take (size_of h) d) && b)
    (marks-list levels k (drop 20 h) (past_text t) (after_block (size_of h) d))

-- a written BIND
bind-marks : (levels : ℕ) (cs : List Child) → WellBundle cs
    → content_clean (suc levels) bind_text (encode_children cs) ≡ (types_clean (child_count (encode_children cs)) (headers (encode_children cs)) && all_of (child_clean levels) cs)
unfolding bind_clean
bind-marks levels cs w =
    let s = encode_children cs in
    kind-clean (suc levels) bind_text s Bind kind-bind
    ∙ ap (λ (b : Bool). types_clean (child_count s) (headers s) && b) (marks-list levels (child_count s) (headers s) (table_of s) (data_of s) ∙ ap (all_of (child_clean levels)) (children-written cs w))

-- the contents of the children are clean
abbrev InsideClean : Children → Type 0
InsideClean none = Unit {0}
InsideClean (more rest name x cs) = IsClean x × InsideClean cs

-- and the rests of their own CTYPEs
all-clean : (cs : Children) → (Each CleanChild (child_list cs) × InsideClean cs) ↔ AllClean cs
unfolding encode IsClean
all-clean none = ((λ e. tt), (λ e. (tt, tt)))
all-clean (more rest name x cs) = ((λ e. (e.0.0, e.1.0, (all-clean cs).0 (e.0.1, e.1.1))), (λ e. let r = (all-clean cs).1 e.2 in ((e.0, r.0), (e.1, r.1))))

mutual
  unfolding WellFormed encode IsClean all_of

  content-marked : (levels : ℕ) (x : Content) → WellFormed x levels → (content_clean levels (type_text x) (encode x) ≡ true) ↔ IsClean x
  content-marked levels (transform ws) w = ((λ e. tt), (λ h. kind-clean levels transform_text (encode (transform ws)) Transform kind-transform))
  content-marked levels (position ws) w = ((λ e. tt), (λ h. kind-clean levels position_text (encode (position ws)) Position kind-position))
  content-marked levels (image x) w = ((λ e. tt), (λ h. kind-clean levels image_text (encode (image x)) Image kind-image))
  content-marked zero (bind cs) w = absurd w
  content-marked (suc levels) (bind cs) w =
      let k = and_both _ _ (types-clean (child_list cs) w.0) (all-marked levels cs w.1) in
      let e = bind-marks levels (child_list cs) w.0 in
      ((λ h. (all-clean cs).0 (k.0 (sym e ∙ h))), (λ h. e ∙ k.1 ((all-clean cs).1 h)))
  content-marked levels (other t s) w = ((λ e. tt), (λ h. kind-clean levels t s Other (kind-other t w.0)))

  all-marked : (levels : ℕ) (cs : Children) → WellChildren cs levels → (all_of (child_clean levels) (child_list cs) ≡ true) ↔ InsideClean cs
  all-marked levels none w = ((λ e. tt), (λ e. refl))
  all-marked levels (more rest name x cs) w = and_both _ _ (content-marked levels x w.0) (all-marked levels cs w.1)

-- ---- in the answer

module _ (levels : ℕ) (x : Content) (w : WellFormed x levels) where
  pub content-mark : (content_checked levels (type_text x) (encode x)).clean ≡ content_clean levels (type_text x) (encode x)
  unfolding content_checked
  content-mark = checked-mark (content_fault levels (type_text x) (encode x)) (content_clean levels (type_text x) (encode x)) (content-well levels x w)

  pub mark-to : (content_checked levels (type_text x) (encode x)).clean ≡ true → IsClean x
  mark-to e = (content-marked levels x w).0 (sym content-mark ∙ e)

  pub mark-from : IsClean x → (content_checked levels (type_text x) (encode x)).clean ≡ true
  mark-from h = content-mark ∙ (content-marked levels x w).1 h

pub no_mark : (levels : ℕ) (t s : List ℕ) → (content_fault levels t s ≡ 0 → ⊥) → (content_checked levels t s).clean ≡ false
unfolding content_checked
no_mark levels t s h = checked-false (content_fault levels t s) (content_clean levels t s) h

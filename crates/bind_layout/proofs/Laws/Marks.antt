-- The mark of a layout: one step of the walk over the CTYPEs, and what it says of written children.
use Prim.Native.Nat.{ℕ, ◌+◌, ◌-◌, ◌*◌, ◌≤◌, ◌<◌}
use mathlib.Core.Path.{◌≡◌, refl, sym, ap, ap₂, subst, ◌∙◌}
use mathlib.Core.Logic.{◌↔◌}
use mathlib.Core.Bool.{Bool, true, false, cond, ◌&&◌}
use mathlib.Core.List.{List, [], ◌∷◌, ◌++◌}
use native.Mathlib.Omega.{arith}
use lib.Dec.{leb}
use lib.ListN.{length, take, drop}
use Rattle.fields.specs.Lists.{Each, flat}
use Rattle.fields.specs.Text.{text_ok, text_clean, field_ok}
use Rattle.std.specs.Prelude.{Ok, Err}
use Rattle.fields.specs.declared.fault.Fault.{Fault}
use Rattle.fields.specs.Answer.{Checked, checked_of, checked}
use Rattle.fields.proofs.Laws.Answer.{checked-number, checked-mark, checked-false, checked-same, fault_some}
use Rattle.fields.proofs.Laws.Checks.{and_both, cond-pass}
use Rattle.fields.proofs.Laws.Lists.{flat-cons}
use Rattle.fields.proofs.Laws.Tests.{by-test}
use Rattle.fields.proofs.Laws.Walks.{walk_end, walk_step}
use Rattle.bind_layout.specs.Children.{Child, child_header, encode_children, WellChild, WellBundle, CleanChild}
use Rattle.bind_layout.specs.BindLayout.{child_count, headers, table_size, table_of, data_of, types_ok, types_clean, types_checked, table_ok, data_ok, layout_ok, layout_fault, layout_checked}
use Rattle.bind_layout.proofs.Laws.Children.{header-clean, header-rest}
use Rattle.bind_layout.proofs.Laws.Written.{count-written, headers-written, layout-written}

-- ---- one step of the walk

pub types-end : (k : ℕ) (h : List ℕ) → k ≤ 0 → (types_ok k h ≡ true) × (types_clean k h ≡ true)
unfolding types_ok types_clean
types-end k h p = (walk_end (λ n. types_ok n h) k p, walk_end (λ n. types_clean n h) k p)

module _ (k : ℕ) (h : List ℕ) (p : 0 < k) where
  pub types-stop : text_ok (take 12 h) ≡ false → types_ok k h ≡ false
  unfolding types_ok
  types-stop e = walk_step (λ n. types_ok n h) k p ∙ ap (λ (t : Bool). t && types_ok (k - 1) (drop 20 h)) e

  pub types-next : text_ok (take 12 h) ≡ true → types_ok k h ≡ types_ok (k - 1) (drop 20 h)
  unfolding types_ok
  types-next e = walk_step (λ n. types_ok n h) k p ∙ ap (λ (t : Bool). t && types_ok (k - 1) (drop 20 h)) e

  pub clean-next : types_clean k h ≡ (field_ok (take 12 h) && types_clean (k - 1) (drop 20 h))
  unfolding types_clean
  clean-next = walk_step (λ n. types_clean n h) k p

  pub clean-stop : text_ok (take 12 h) ≡ false → types_clean k h ≡ false
  unfolding field_ok
  clean-stop e = clean-next ∙ ap (λ (t : Bool). (t && text_clean (take 12 h)) && types_clean (k - 1) (drop 20 h)) e

-- ---- the answer

-- of the CTYPEs
pub types-answer : (k : ℕ) (h : List ℕ) {n : ℕ} {mark : Bool} → n ≡ cond (types_ok k h) 0 10 → mark ≡ types_clean k h → checked n mark ≡ types_checked k h
unfolding types_checked
types-answer k h e m = ap₂ checked e m

pub types-number : (k : ℕ) (h : List ℕ) → (types_checked k h).number ≡ cond (types_ok k h) 0 10
unfolding types_checked
types-number k h = checked-number (cond (types_ok k h) 0 10) (types_clean k h)

-- what the check of the CTYPEs hands out
pub types-passed : (k : ℕ) (h : List ℕ) (mark : Bool) → checked_of (Ok mark) ≡ types_checked k h → (types_ok k h ≡ true) × (mark ≡ types_clean k h)
unfolding types_checked
types-passed k h mark e =
    let z : cond (types_ok k h) 0 10 ≡ 0 = sym (types-number k h) ∙ sym (ap (λ (c : Checked). c.number) e) in
    ((cond-pass (types_ok k h) 9 0 z).0, ap (λ (c : Checked). c.clean) e ∙ checked-mark (cond (types_ok k h) 0 10) (types_clean k h) z)

pub types-refused : (k : ℕ) (h : List ℕ) (f : Fault) → checked_of (Err f) ≡ types_checked k h → (types_ok k h ≡ false) × (checked_of (Err f) ≡ checked 10 false)
unfolding types_checked
types-refused k h f p =
    let e : (types_checked k h).number ≡ 0 → ⊥ = λ z. fault_some f (ap (λ (c : Checked). c.number) p ∙ z) in
    by-test (types_ok k h)
    (λ t. absurd (e (types-number k h ∙ ap (λ (b : Bool). cond b 0 10) t)))
    (λ t. (t, p ∙ checked-same (cond (types_ok k h) 0 10) 10 (types_clean k h) false (ap (λ (b : Bool). cond b 0 10) t) (λ z. e (types-number k h ∙ z))))

-- of the layout
-- the layout's test, by the parts as the code has them: the headers are cut twice
pub layout-by : (s : List ℕ) {n m : ℕ} {h t g d : List ℕ} → n ≡ child_count s → m ≡ table_size s → h ≡ headers s → t ≡ table_of s → g ≡ headers s → d ≡ data_of s
    → layout_ok s ≡ (leb (4 + 20 * n + m) (length s) && (types_ok n h && (table_ok n t && data_ok n g d)))
unfolding layout_ok
layout-by s n m h t g d =
    sym (λ i. leb (4 + 20 * n i + m i) (length s) && (types_ok (n i) (h i) && (table_ok (n i) (t i) && data_ok (n i) (g i) (d i))))

pub layout-refused : (s : List ℕ) → layout_ok s ≡ false → layout_checked s ≡ checked 10 false
unfolding layout_checked layout_fault
layout-refused s e =
    ap (λ (t : Bool). checked (cond t 0 10) (types_clean (child_count s) (headers s))) e
    ∙ checked-same 10 10 (types_clean (child_count s) (headers s)) false refl (λ z. let n : ◌≡◌ {A = ℕ} 10 0 = z in omega arith)

pub layout-no-mark : (s : List ℕ) → (layout_fault s ≡ 0 → ⊥) → (layout_checked s).clean ≡ false
unfolding layout_checked
layout-no-mark s h = checked-false (layout_fault s) (types_clean (child_count s) (headers s)) h

pub layout-passed : (s : List ℕ) → layout_ok s ≡ true → (mark : Bool) → types_clean (child_count s) (headers s) ≡ mark → layout_checked s ≡ checked 0 mark
unfolding layout_checked layout_fault
layout-passed s e mark m = ap₂ (λ (t b : Bool). checked (cond t 0 10) b) e m

-- ---- written children

types-marked : (cs : List Child) → Each WellChild cs → (r : List ℕ) → (types_clean (length cs) (flat child_header cs ++ r) ≡ true) ↔ Each CleanChild cs
unfolding types_clean
types-marked [] w r = ((λ e. tt), (λ e. refl))
types-marked (c ∷ cs) w r =
    let l = flat child_header cs ++ r in
    let e = ap (λ (h : List ℕ). field_ok (take 12 h) && types_clean (length cs) (drop 20 h)) (flat-cons child_header c cs r)
    ∙ ap (λ (h : List ℕ). field_ok (take 12 (child_header c ++ l)) && types_clean (length cs) h) (header-rest c l) in
    subst (λ (b : Bool). (b ≡ true) ↔ Each CleanChild (c ∷ cs)) (sym e) (and_both _ _ (header-clean c l w.0) (types-marked cs w.1 r))

module _ (cs : List Child) (w : WellBundle cs) where
  pub types-clean : (types_clean (child_count (encode_children cs)) (headers (encode_children cs)) ≡ true) ↔ Each CleanChild cs
  types-clean =
      subst (λ (b : Bool). (b ≡ true) ↔ Each CleanChild cs) (sym (ap₂ types_clean (count-written cs w) (headers-written cs))) (types-marked cs w.each _)

  pub layout-clean : ((layout_checked (encode_children cs)).clean ≡ true) ↔ Each CleanChild cs
  unfolding layout_checked
  layout-clean = subst (λ (b : Bool). (b ≡ true) ↔ Each CleanChild cs) (sym (checked-mark _ _ (layout-written cs w))) types-clean

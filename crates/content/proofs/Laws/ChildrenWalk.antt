-- One step of the check of a content: by its kind; of a BIND, its own faults and the walk over its children.
use mathlib.Core.Path.{◌≡◌, refl, sym, ap, ap₂, ◌∙◌}
use mathlib.Core.Bool.{Bool, true, ◌&&◌}
use mathlib.Core.List.{List}
use Prim.Native.Nat.{ℕ, zero, suc, ◌-◌, ◌≤◌, ◌<◌}
use native.Mathlib.Omega.{arith}
use lib.ListN.{take, drop}
use Rattle.fields.specs.Checks.{or_else}
use Rattle.fields.specs.Answer.{Checked, checked}
use Rattle.fields.proofs.Laws.Answer.{checked-number, checked-mark, checked-same}
use Rattle.fields.proofs.Laws.Checks.{else-first, else-second}
use Rattle.fields.proofs.Laws.Walks.{walk_end, walk_step}
use Rattle.bind_layout.specs.BindLayout.{child_count, headers, data_of, type_of, size_of, after_block, types_clean, layout_fault, layout_checked}
use Rattle.content.specs.declared.Kind.{Kind}
use Rattle.content.specs.declared.Kind.TheVariants.{Bind}
use Rattle.content.specs.Kinds.{kind_of}
use Rattle.content.specs.ContentCheck.{kind_fault, children_fault, bind_fault, content_fault, kind_clean, children_clean, bind_clean, content_clean, bind_checked, content_checked}

-- the number for a content whose type has this kind
pub kind-fault : (levels : ℕ) (t s : List ℕ) (k : Kind) → kind_of t ≡ k → content_fault levels t s ≡ kind_fault (bind_fault levels) k s
unfolding content_fault
kind-fault levels t s k e = ap (λ (x : Kind). kind_fault (bind_fault levels) x s) e

pub bind-none-left : (levels : ℕ) (s : List ℕ) → levels ≡ 0 → bind_fault levels s ≡ 11
unfolding bind_fault
bind-none-left zero s p = refl
bind-none-left (suc levels) s p = absurd (omega arith)

module _ (levels : ℕ) (s : List ℕ) (n : levels ≡ 0 → ⊥) where
  bind-step : bind_fault levels s ≡ or_else (layout_fault s) (children_fault (bind_fault (levels - 1)) (child_count s) (headers s) (data_of s))
  unfolding bind_fault
  bind-step = let e : levels ≡ suc (levels - 1) = omega arith in ap (λ (l : ℕ). bind_fault l s) e

  pub bind-stop : (layout_fault s ≡ 0 → ⊥) → bind_fault levels s ≡ layout_fault s
  bind-stop h = bind-step ∙ else-first (layout_fault s) (children_fault (bind_fault (levels - 1)) (child_count s) (headers s) (data_of s)) h

  pub bind-walk : layout_fault s ≡ 0 → bind_fault levels s ≡ children_fault (bind_fault (levels - 1)) (child_count s) (headers s) (data_of s)
  bind-walk h = bind-step ∙ else-second (layout_fault s) (children_fault (bind_fault (levels - 1)) (child_count s) (headers s) (data_of s)) h

pub children-end : (levels k : ℕ) (h d : List ℕ) → k ≤ 0 → children_fault (bind_fault levels) k h d ≡ 0
unfolding children_fault
children-end levels k h d p = walk_end (λ n. children_fault (bind_fault levels) n h d) k p

-- r is the first child's number
module _ (levels k : ℕ) (h d : List ℕ) (p : 0 < k) (r : ℕ) (e : r ≡ content_fault levels (type_of h) (take (size_of h) d)) where
  abbrev others : ℕ
  others = children_fault (bind_fault levels) (k - 1) (drop 20 h) (after_block (size_of h) d)

  children-step : children_fault (bind_fault levels) k h d ≡ or_else r others
  unfolding children_fault content_fault
  children-step = walk_step (λ n. children_fault (bind_fault levels) n h d) k p ∙ ap (λ (n : ℕ). or_else n others) (sym e)

  pub children-stop : (r ≡ 0 → ⊥) → children_fault (bind_fault levels) k h d ≡ r
  children-stop n = children-step ∙ else-first r others n

  pub children-next : r ≡ 0 → children_fault (bind_fault levels) k h d ≡ others
  children-next z = children-step ∙ else-second r others z

-- ---- the mark

pub kind-checked : (levels : ℕ) (t s : List ℕ) (k : Kind) → kind_of t ≡ k
    → content_checked levels t s ≡ checked (kind_fault (bind_fault levels) k s) (kind_clean (bind_clean levels) k s)
unfolding content_checked content_fault content_clean
kind-checked levels t s k e = ap (λ (x : Kind). checked (kind_fault (bind_fault levels) x s) (kind_clean (bind_clean levels) x s)) e

pub kind-bound : (levels : ℕ) (t s : List ℕ) → kind_of t ≡ Bind → content_checked levels t s ≡ bind_checked levels s
unfolding bind_checked
kind-bound levels t s e = kind-checked levels t s Bind e

pub content-fault : (levels : ℕ) (t s : List ℕ) → (content_checked levels t s).number ≡ content_fault levels t s
unfolding content_checked
content-fault levels t s = checked-number (content_fault levels t s) (content_clean levels t s)

pub bind-fault : (levels : ℕ) (s : List ℕ) → (bind_checked levels s).number ≡ bind_fault levels s
unfolding bind_checked
bind-fault levels s = checked-number (bind_fault levels s) (bind_clean levels s)

-- an answer r whose number is not 0 is that of a BIND with the same number
pub bind-refused : (levels n : ℕ) (s : List ℕ) (b : Bool) → n ≡ bind_fault levels s → (n ≡ 0 → ⊥) → checked n b ≡ bind_checked levels s
unfolding bind_checked
bind-refused levels n s b e k = checked-same n (bind_fault levels s) b (bind_clean levels s) e k

pub bind-passed : (levels : ℕ) (s : List ℕ) (b : Bool) → bind_fault levels s ≡ 0 → bind_clean levels s ≡ b → checked 0 b ≡ bind_checked levels s
unfolding bind_checked
bind-passed levels s b e m = sym (ap₂ checked e m)

module _ (levels : ℕ) (s : List ℕ) (n : levels ≡ 0 → ⊥) where
  pub bind-mark : (b : Bool) → b ≡ (layout_checked s).clean → layout_fault s ≡ 0
      → bind_clean levels s ≡ (b && children_clean (bind_clean (levels - 1)) (child_count s) (headers s) (data_of s))
  unfolding bind_clean layout_checked
  bind-mark b e h =
      let l : levels ≡ suc (levels - 1) = omega arith in
      ap (λ (x : ℕ). bind_clean x s) l
      ∙ ap (λ (x : Bool). x && children_clean (bind_clean (levels - 1)) (child_count s) (headers s) (data_of s)) (sym (e ∙ checked-mark (layout_fault s) (types_clean (child_count s) (headers s)) h))

pub layout-number : (s : List ℕ) → (layout_checked s).number ≡ layout_fault s
unfolding layout_checked
layout-number s = checked-number (layout_fault s) (types_clean (child_count s) (headers s))

-- the answer for a layout that is refused
pub layout-stop : (levels : ℕ) (s : List ℕ) → (levels ≡ 0 → ⊥) → (layout_fault s ≡ 0 → ⊥) → layout_checked s ≡ bind_checked levels s
unfolding layout_checked
layout-stop levels s n h = bind-refused levels (layout_fault s) s (types_clean (child_count s) (headers s)) (sym (bind-stop levels s n h)) h

pub marks-end : (levels k : ℕ) (h d : List ℕ) → k ≤ 0 → children_clean (bind_clean levels) k h d ≡ true
unfolding children_clean
marks-end levels k h d p = walk_end (λ n. children_clean (bind_clean levels) n h d) k p

-- r is the first child's answer
module _ (levels k : ℕ) (h d : List ℕ) (p : 0 < k) (r : Checked) (e : r ≡ content_checked levels (type_of h) (take (size_of h) d)) where
  pub child-fault : r.number ≡ content_fault levels (type_of h) (take (size_of h) d)
  child-fault = ap (λ (c : Checked). c.number) e ∙ content-fault levels (type_of h) (take (size_of h) d)

  pub marks-next : r.number ≡ 0
      → children_clean (bind_clean levels) k h d ≡ (r.clean && children_clean (bind_clean levels) (k - 1) (drop 20 h) (after_block (size_of h) d))
  unfolding children_clean content_clean content_checked
  marks-next z =
      let t = type_of h in
      let x = take (size_of h) d in
      let m = ap (λ (c : Checked). c.clean) e ∙ checked-mark (content_fault levels t x) (content_clean levels t x) (sym child-fault ∙ z) in
      walk_step (λ n. children_clean (bind_clean levels) n h d) k p
      ∙ ap (λ (b : Bool). b && children_clean (bind_clean levels) (k - 1) (drop 20 h) (after_block (size_of h) d)) (sym m)

  -- the answer of the child that is refused is that of the BIND
  pub child-stop : (above : ℕ) (s : List ℕ) → bind_fault above s ≡ r.number → (r.number ≡ 0 → ⊥) → r ≡ bind_checked above s
  unfolding content_checked
  child-stop above s f n =
      let t = type_of h in
      let x = take (size_of h) d in
      let q : content_fault levels t x ≡ bind_fault above s = sym child-fault ∙ sym f in
      e ∙ bind-refused above (content_fault levels t x) s (content_clean levels t x) q (λ z. n (child-fault ∙ z))

-- The faults of a content over a list of children, and the order of them (rule 5.4).
use mathlib.Core.Path.{◌≡◌, refl, sym, ap, ◌∙◌}
use mathlib.Core.List.{List, [], ◌∷◌}
use Prim.Native.Nat.{ℕ, zero, suc, ◌+◌, ◌≤◌, ◌<◌}
use native.Mathlib.Numerals.{add-one}
use lib.ListN.{length, get_or, take, drop, drop_of_length-le}
use lib.Seq.{drop-cons}
use Rattle.fields.specs.Bytes.{Bytes}
use Rattle.fields.specs.Lists.{Each}
use Rattle.fields.specs.Text.{past_text}
use Rattle.fields.specs.Checks.{or_else}
use Rattle.fields.proofs.Laws.Checks.{zero-else, else-zero, else-first, else-second}
use Rattle.bind_layout.specs.Children.{Child, encode_children, WellBundle}
use Rattle.bind_layout.specs.BindLayout.{child_count, headers, table_of, data_of, type_of, size_of, after_block, layout_fault}
use Rattle.bind_layout.specs.BundleTheorems.{IsBundle}
use Rattle.bind_layout.proofs.Laws.Children.{children_from, children_of}
use Rattle.bind_layout.proofs.Laws.Written.{layout-written, children-written}
use Rattle.bind_layout.proofs.Laws.BundleTheorems.{bundle-theorems}
use Rattle.content.specs.declared.Kind.TheVariants.{Transform, Position, Image, Bind, Other}
use Rattle.content.specs.Kinds.{transform_text, position_text, image_text, bind_text, kind_of}
use Rattle.content.specs.ContentCheck.{kind_fault, children_fault, bind_fault, content_fault}
use Rattle.content.specs.ContentTheorems.{first_fault, ContentNumbers}
use Rattle.content.proofs.Laws.ChildrenWalk.{kind-fault, kind-bound, bind-none-left}
use Rattle.content.proofs.Laws.Kinds.{kind-transform, kind-position, kind-image, kind-bind, kind-other}

-- the fault of one child
abbrev pub child_fault : ℕ → Child → ℕ
child_fault levels c = content_fault levels c.type_text c.content

-- the walk over the children is the first fault of the list of them
faults-list : (levels k : ℕ) (h t d : List ℕ) → children_fault (bind_fault levels) k h d ≡ first_fault (child_fault levels) (children_from k h t d)
unfolding children_fault children_from content_fault
faults-list levels zero h t d = refl
faults-list levels (suc k) h t d =
    ap (or_else (kind_fault (bind_fault levels) (kind_of (type_of h)) (take (size_of h) d)))
    (faults-list levels k (drop 20 h) (past_text t) (after_block (size_of h) d))

pub none-faulty : (f : Child → ℕ) (cs : List Child) → first_fault f cs ≡ 0 → Each (λ c. f c ≡ 0) cs
none-faulty f [] e = tt
none-faulty f (c ∷ cs) e = let p = zero-else (f c) (first_fault f cs) e in (p.0, none-faulty f cs p.1)

pub all-faultless : (f : Child → ℕ) (cs : List Child) → Each (λ c. f c ≡ 0) cs → first_fault f cs ≡ 0
all-faultless f [] e = refl
all-faultless f (c ∷ cs) e = else-zero (f c) (first_fault f cs) e.0 (all-faultless f cs e.1)

-- ---- the first fault in a list, as a loop over its places finds it

-- what is read past the end of the children
abbrev pub no_child : Child
no_child = record { type_text = []; rest = []; name = []; content = [] }

-- the first fault, from place i on
module _ (f : Child → ℕ) (cs : List Child) (i : ℕ) where
  pub first-end : length cs ≤ i → first_fault f (drop i cs) ≡ 0
  first-end h = ap (first_fault f) (drop_of_length-le cs h)

  module _ (h : i < length cs) where
    first-at : first_fault f (drop i cs) ≡ or_else (f (get_or cs i no_child)) (first_fault f (drop (i + 1) cs))
    first-at =
        ap (first_fault f) (drop-cons cs i no_child h)
        ∙ ap (λ (n : ℕ). or_else (f (get_or cs i no_child)) (first_fault f (drop n cs))) (sym (add-one i))

    pub first-stop : (f (get_or cs i no_child) ≡ 0 → ⊥) → first_fault f (drop i cs) ≡ f (get_or cs i no_child)
    first-stop n = first-at ∙ else-first (f (get_or cs i no_child)) (first_fault f (drop (i + 1) cs)) n

    pub first_next : f (get_or cs i no_child) ≡ 0 → first_fault f (drop i cs) ≡ first_fault f (drop (i + 1) cs)
    first_next z = first-at ∙ else-second (f (get_or cs i no_child)) (first_fault f (drop (i + 1) cs)) z

-- ---- a BIND

pub bind-content : (levels : ℕ) (s : List ℕ) → content_fault levels bind_text s ≡ bind_fault levels s
bind-content levels s = kind-fault levels bind_text s Bind kind-bind

-- of a BIND that is laid out right, the first fault of its children
pub bind-children : (levels : ℕ) (s : List ℕ) → layout_fault s ≡ 0 → bind_fault (suc levels) s ≡ first_fault (child_fault levels) (children_of s)
unfolding bind_fault
bind-children levels s e =
    else-second (layout_fault s) (children_fault (bind_fault levels) (child_count s) (headers s) (data_of s)) e
    ∙ faults-list levels (child_count s) (headers s) (table_of s) (data_of s)

pub bind-written : (levels : ℕ) (cs : List Child) → WellBundle cs → content_fault (suc levels) bind_text (encode_children cs) ≡ first_fault (child_fault levels) cs
bind-written levels cs w =
    bind-content (suc levels) (encode_children cs)
    ∙ bind-children levels (encode_children cs) (layout-written cs w)
    ∙ ap (first_fault (child_fault levels)) (children-written cs w)

bind-layout : (levels : ℕ) (s : List ℕ) → Bytes s → (IsBundle s → ⊥) → content_fault (suc levels) bind_text s ≡ 10
unfolding bind_fault
bind-layout levels s b n =
    let e = bundle-theorems.two_way.refused s b n in
    bind-content (suc levels) s
    ∙ ap (λ (k : ℕ). or_else k (children_fault (bind_fault levels) (child_count s) (headers s) (data_of s))) e

bind-too-deep : (s : List ℕ) → content_fault 0 bind_text s ≡ 11
bind-too-deep s = bind-content 0 s ∙ bind-none-left 0 s refl

pub content-numbers : ContentNumbers
content-numbers =
    record {
      transform = λ levels s. kind-fault levels transform_text s Transform kind-transform;
      position = λ levels s. kind-fault levels position_text s Position kind-position;
      image = λ levels s. kind-fault levels image_text s Image kind-image;
      opaque = λ levels t s o. kind-fault levels t s Other (kind-other t o);
      too-deep = bind-too-deep;
      layout = bind-layout;
      children = bind-written;
      lent_bind = λ levels s. sym (bind-content levels s);
      lent_mark = λ levels s. sym (kind-bound levels bind_text s kind-bind);
    }

-- A content is accepted exactly when some well formed content of its type is written as it, and only one is.
use mathlib.Core.Path.{◌≡◌, refl, sym, ap, ap₂, subst, ◌∙◌}
use mathlib.Core.List.{List, [], ◌∷◌}
use Prim.Native.Nat.{ℕ, zero, suc, ◌+◌, ◌*◌}
use native.Mathlib.Omega.{arith}
use Rattle.fields.specs.Formats.{IsWritten}
use Rattle.fields.specs.Bytes.{Bytes, same}
use Rattle.fields.specs.Lists.{Each}
use Rattle.fields.proofs.Laws.Bytes.{bytes_drop}
use Rattle.fields.proofs.Laws.Checks.{zero-else}
use Rattle.pose.specs.Words.{word_bytes}
use Rattle.pose.proofs.Laws.{transform-format, position-format}
use Rattle.image.proofs.Laws.{image-format}
use Rattle.bind_layout.specs.Children.{Child, encode_children, WellBundle}
use Rattle.bind_layout.specs.BindLayout.{child_count, headers, after_headers, table_size, table_of, data_of, layout_fault}
use Rattle.bind_layout.proofs.Laws.Children.{children_of, bytes-children}
use Rattle.bind_layout.proofs.Laws.Read.{encode-read, well-children}
use Rattle.bind_layout.proofs.Laws.BundleTheorems.{bundle-unique}
use Rattle.content.specs.declared.Kind.TheVariants.{Transform, Position, Image, Bind}
use Rattle.content.specs.Kinds.{bind_text}
use Rattle.content.specs.Tree.{Content, Children, transform, position, image, bind, other, none, more, type_text, encode, child_list, WellFormed, WellChildren}
use Rattle.content.specs.ContentCheck.{children_fault, bind_fault, content_fault}
use Rattle.content.specs.ContentTheorems.{WellOf}
use Rattle.content.proofs.Laws.Kinds.{View, is_transform, is-position, is-image, is-bind, is-other, view, differ}
use Rattle.content.proofs.Laws.Faults.{child_fault, none-faulty, all-faultless, bind-children, bind-written, content-numbers}
use Rattle.content.proofs.Laws.ChildrenWalk.{kind-fault, bind-none-left}

-- ---- what is well formed is accepted

mutual
  unfolding WellFormed encode

  pub content-well : (levels : ℕ) (x : Content) → WellFormed x levels → content_fault levels (type_text x) (encode x) ≡ 0
  content-well levels (transform ws) w = content-numbers.transform levels (word_bytes ws) ∙ transform-format.well_accepted ws w
  content-well levels (position ws) w = content-numbers.position levels (word_bytes ws) ∙ position-format.well_accepted ws w
  content-well levels (image x) w = content-numbers.image levels _ ∙ image-format.well_accepted x w
  content-well zero (bind cs) w = absurd w
  content-well (suc levels) (bind cs) w =
      bind-written levels (child_list cs) w.0 ∙ all-faultless (child_fault levels) (child_list cs) (children-well levels cs w.1)
  content-well levels (other t s) w = content-numbers.opaque levels t s w.0

  children-well : (levels : ℕ) (cs : Children) → WellChildren cs levels → Each (λ c. child_fault levels c ≡ 0) (child_list cs)
  children-well levels none w = tt
  children-well levels (more rest name x cs) w = (content-well levels x w.0, children-well levels cs w.1)

-- ---- what is accepted is well formed

-- a tree for these children
abbrev ChildrenFor : ℕ → List Child → Type 0
ChildrenFor levels cs = (xs : Children) × (child_list xs ≡ cs) × WellChildren xs levels

-- some well formed content of this type, with so many levels left, is written as these bytes
abbrev pub IsContent : ℕ → List ℕ → List ℕ → Type 0
IsContent levels t s = IsWritten (WellOf levels t) encode s

-- what a judge of contents with so many levels left is to show
abbrev Judges : ℕ → Type 0
Judges levels = (t s : List ℕ) → Bytes s → content_fault levels t s ≡ 0 → IsContent levels t s

trees : (levels : ℕ) → Judges levels → (cs : List Child) → Each (λ c. Bytes c.content) cs → Each (λ c. child_fault levels c ≡ 0) cs → ChildrenFor levels cs
unfolding WellFormed encode
trees levels judge [] b e = (none, refl, tt)
trees levels judge (c ∷ cs) b e =
    let x = judge c.type_text c.content b.0 e.0 in
    let r = trees levels judge cs b.1 e.1 in (
      more c.rest c.name x.0 r.0,
      (λ i. record { type_text = x.1.1 i; rest = c.rest; name = c.name; content = x.2 i } ∷ r.1 i),
      (x.1.0, r.2),
    )

bind-accepted : (levels : ℕ) → Judges levels → (s : List ℕ) → Bytes s → bind_fault (suc levels) s ≡ 0 → IsContent (suc levels) bind_text s
unfolding WellFormed encode bind_fault
bind-accepted levels judge s b e =
    let h = (zero-else (layout_fault s) (children_fault (bind_fault levels) (child_count s) (headers s) (data_of s)) e).0 in
    let d = bytes_drop (2 + table_size s) (after_headers s) (bytes_drop (2 + 20 * child_count s) s b) in
    let f = none-faulty (child_fault levels) (children_of s) (sym (bind-children levels s h) ∙ e) in
    let r = trees levels judge (children_of s) (bytes-children (child_count s) (headers s) (table_of s) (data_of s) d) f in (
      bind r.0,
      ((subst WellBundle (sym r.1) (well-children s h b), r.2), refl),
      ap encode_children r.1 ∙ encode-read s h b,
    )

-- by the kind of the type, where the BIND is judged by `below`
by_kind : (levels : ℕ) (t s : List ℕ) → Bytes s → (bind_fault levels s ≡ 0 → IsContent levels bind_text s) → content_fault levels t s ≡ 0 → View t
    → IsContent levels t s
unfolding WellFormed encode
by_kind levels t s b below e (is_transform p k) =
    let r = transform-format.accepted s b (sym (kind-fault levels t s Transform k) ∙ e) in
    (transform r.0, (r.1, sym p), r.2)
by_kind levels t s b below e (is-position p k) =
    let r = position-format.accepted s b (sym (kind-fault levels t s Position k) ∙ e) in
    (position r.0, (r.1, sym p), r.2)
by_kind levels t s b below e (is-image p k) =
    let r = image-format.accepted s b (sym (kind-fault levels t s Image k) ∙ e) in
    (image r.0, (r.1, sym p), r.2)
by_kind levels t s b below e (is-bind p k) = subst (λ (u : List ℕ). IsContent levels u s) (sym p) (below (sym (kind-fault levels t s Bind k) ∙ e))
by_kind levels t s b below e (is-other o k) = (other t s, ((o, b), refl), refl)

pub content-accepted : (levels : ℕ) → Judges levels
content-accepted zero t s b e = by_kind 0 t s b (λ z. absurd (let n : ◌≡◌ {A = ℕ} 11 0 = sym (bind-none-left 0 s refl) ∙ z in omega arith)) e (view t)
content-accepted (suc levels) t s b e = by_kind (suc levels) t s b (bind-accepted levels (content-accepted levels) s b) e (view t)

-- ---- only one content of a type is written as given bytes

child-cons : {c d : Child} {cs ds : List Child} → ◌≡◌ {A = List Child} (c ∷ cs) (d ∷ ds) → (c ≡ d) × (cs ≡ ds)
child-cons e = (cc, cc)

child-nil : {c : Child} {cs : List Child} → ◌≡◌ {A = List Child} [] (c ∷ cs) → ⊥
child-nil e = let z : ◌≡◌ {A = ℕ} 0 1 = cc in omega arith

mutual
  unfolding WellFormed encode same

  pub content-unique : (l m : ℕ) (x y : Content) → WellFormed x l → WellFormed y m → type_text x ≡ type_text y → encode x ≡ encode y → x ≡ y
  content-unique l m (transform ws) (transform vs) v w t e = ap transform (transform-format.only_one ws vs v w e)
  content-unique l m (position ws) (position vs) v w t e = ap position (position-format.only_one ws vs v w e)
  content-unique l m (image x) (image y) v w t e = ap image (image-format.only_one x y v w e)
  content-unique zero m (bind xs) (bind ys) v w t e = absurd v
  content-unique (suc l) zero (bind xs) (bind ys) v w t e = absurd w
  content-unique (suc l) (suc m) (bind xs) (bind ys) v w t e =
      ap bind (children-unique l m xs ys v.1 w.1 (bundle-unique (child_list xs) (child_list ys) v.0 w.0 e))
  content-unique l m (other t s) (other u r) v w p e = ap₂ other p e
  content-unique l m (transform ws) (position vs) v w t e = absurd (differ refl t)
  content-unique l m (transform ws) (image y) v w t e = absurd (differ refl t)
  content-unique l m (transform ws) (bind ys) v w t e = absurd (differ refl t)
  content-unique l m (transform ws) (other u r) v w t e = absurd (w.0.no-transform (sym t))
  content-unique l m (position ws) (transform vs) v w t e = absurd (differ refl t)
  content-unique l m (position ws) (image y) v w t e = absurd (differ refl t)
  content-unique l m (position ws) (bind ys) v w t e = absurd (differ refl t)
  content-unique l m (position ws) (other u r) v w t e = absurd (w.0.no-position (sym t))
  content-unique l m (image x) (transform vs) v w t e = absurd (differ refl t)
  content-unique l m (image x) (position vs) v w t e = absurd (differ refl t)
  content-unique l m (image x) (bind ys) v w t e = absurd (differ refl t)
  content-unique l m (image x) (other u r) v w t e = absurd (w.0.no-image (sym t))
  content-unique l m (bind xs) (transform vs) v w t e = absurd (differ refl t)
  content-unique l m (bind xs) (position vs) v w t e = absurd (differ refl t)
  content-unique l m (bind xs) (image y) v w t e = absurd (differ refl t)
  content-unique l m (bind xs) (other u r) v w t e = absurd (w.0.no-bind (sym t))
  content-unique l m (other t s) (transform vs) v w p e = absurd (v.0.no-transform p)
  content-unique l m (other t s) (position vs) v w p e = absurd (v.0.no-position p)
  content-unique l m (other t s) (image y) v w p e = absurd (v.0.no-image p)
  content-unique l m (other t s) (bind ys) v w p e = absurd (v.0.no-bind p)

  children-unique : (l m : ℕ) (xs ys : Children) → WellChildren xs l → WellChildren ys m → child_list xs ≡ child_list ys → xs ≡ ys
  children-unique l m none none v w e = refl
  children-unique l m none (more rest name y ys) v w e = absurd (child-nil e)
  children-unique l m (more rest name x xs) none v w e = absurd (child-nil (sym e))
  children-unique l m (more rest name x xs) (more past title y ys) v w e =
      let p = child-cons e in
      let n = ap (λ (c : Child). c.name) p.0 in
      let o = ap (λ (c : Child). c.rest) p.0 in
      let a = content-unique l m x y v.0 w.0 (ap (λ (c : Child). c.type_text) p.0) (ap (λ (c : Child). c.content) p.0) in
      let r = children-unique l m xs ys v.1 w.1 p.1 in
      λ i. more (o i) (n i) (a i) (r i)

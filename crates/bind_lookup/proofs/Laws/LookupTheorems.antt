-- Look-ups in an accepted content give its children: those of the tree that is written as it.
use Prim.Native.Nat.{ℕ, ◌+◌, ◌-◌, ◌*◌, ◌%◌, ◌≤◌, ◌<◌}
use mathlib.Core.Path.{◌≡◌, refl, sym, ap, ap₂, subst, ◌∙◌}
use mathlib.Core.Bool.{Bool, true, false}
use mathlib.Core.List.{List, [], ◌∷◌, ◌++◌}
use native.Mathlib.Omega.{arith}
use lib.Dec.{eqb}
use lib.ListN.{length, take, drop, replicate, length-append}
use borrow.Author.Tests.{eq-eqb, ne_eqb, eqb-true, eqb-false, lt-ltb, le-ltb}
use Rattle.fields.specs.Bytes.{Bytes, same}
use Rattle.fields.specs.Lists.{Each, flat}
use Rattle.fields.specs.Numbers.{be_bytes}
use Rattle.fields.specs.Text.{text_of}
use Rattle.fields.proofs.Laws.Checks.{else-second}
use Rattle.fields.proofs.Laws.Tests.{by-test}
use Rattle.fields.proofs.Laws.Lists.{flat-cons, flat_append, each-middle}
use Rattle.bind_layout.specs.Children.{Child, padded, child_header, child_name, child_data, name_table, encode_children, WellChild, WellBundle}
use Rattle.bind_layout.specs.BindLayout.{child_count, headers, table_of, data_of, type_of, size_of}
use Rattle.bind_layout.proofs.Laws.Children.{header-type, header-size, name_text, block-data}
use Rattle.bind_layout.proofs.Laws.Written.{length-encode, headers-written, count-written, table-written, data-of-written, data-front}
use Rattle.content.specs.Kinds.{bind_text}
use Rattle.content.specs.Tree.{Content, transform, position, image, bind, other, type_text, encode, child_list, WellFormed, IsClean}
use Rattle.content.specs.ContentCheck.{bind_fault, content_fault, deepest}
use Rattle.content.proofs.Laws.Kinds.{differ}
use Rattle.content.proofs.Laws.Faults.{bind-content}
use Rattle.fields.specs.Answer.{Checked}
use Rattle.fields.proofs.Laws.Answer.{checked_refused}
use Rattle.content.specs.ContentCheck.{bind_clean, bind_checked, content_checked}
use Rattle.content.proofs.Laws.Contents.{content-accepted, content-well}
use Rattle.content.proofs.Laws.Kinds.{kind-bind}
use Rattle.content.proofs.Laws.Marks.{mark-to, mark-from}
use Rattle.content.proofs.Laws.ChildrenWalk.{kind-bound}
use Rattle.bind_lookup.specs.ChildLookup.{Place, ChildCount, mark_of, headers_from, names_from, data_from, index_of, index_in, count_of, index_fault, placed, place_in, place_of, part_at, type_at, name_at}
use Rattle.bind_lookup.specs.LookupTheorems.{HasChildren, AtIndex, NoneNamed, FirstNamed, Marks, place_among, LookupTheorems}
use Rattle.bind_lookup.proofs.Laws.Cases.{index_or_none, named_or_none}
use Rattle.bind_lookup.proofs.Laws.Lookup.{left-place, number-fault}
use Rattle.bind_lookup.proofs.Laws.Past.{headers-past, names-past, data-past, index-first, index-none}

-- ---- an accepted content and its children

module _ (s : List ℕ) (cs : List Child) (h : HasChildren s cs) where
  well : WellBundle cs
  unfolding WellFormed
  well = subst WellBundle h.children h.well.0

  written : encode_children cs ≡ s
  unfolding encode
  written = ap encode_children (sym h.children) ∙ h.bytes

  pub accepted : bind_fault deepest s ≡ 0
  accepted =
      sym (bind-content deepest s)
      ∙ ap (content_fault deepest bind_text) (sym h.bytes)
      ∙ content-well deepest (bind h.tree) h.well

  pub count-of : child_count s ≡ length cs
  count-of = ap (λ (l : List ℕ). child_count l) (sym written) ∙ count-written cs well

  -- the table's last 0, if any
  abbrev pub pad : List ℕ
  pad = replicate (length (flat child_name cs) % 2) 0

  pub table-of : table_of s ≡ flat child_name cs ++ pad
  unfolding name_table padded
  table-of = ap (λ (l : List ℕ). table_of l) (sym written) ∙ table-written cs well

-- ---- the mark

mark-refused : (s : List ℕ) → (bind_fault deepest s ≡ 0 → ⊥) → mark_of s ≡ false
unfolding bind_checked
mark-refused s h = ap (λ (x : Checked). x.clean) (checked_refused (bind_fault deepest s) (bind_clean deepest s) h)

module _ (s : List ℕ) (cs : List Child) (h : HasChildren s cs) where
  mark-is : (content_checked deepest bind_text (encode (bind h.tree))).clean ≡ mark_of s
  mark-is =
      ap (λ (x : Checked). x.clean) (kind-bound deepest bind_text (encode (bind h.tree)) kind-bind) ∙ ap mark_of h.bytes

  mark-clean : mark_of s ≡ true → IsClean (bind h.tree)
  mark-clean e = mark-to deepest (bind h.tree) h.well (mark-is ∙ e)

  clean-mark : IsClean (bind h.tree) → mark_of s ≡ true
  clean-mark e = sym mark-is ∙ mark-from deepest (bind h.tree) h.well e

-- a mark that is the content's
pub marks : (s : List ℕ) (b : Bool) → b ≡ mark_of s → Marks b s
marks s b e cs h = (λ t. mark-clean s cs h (sym e ∙ t), λ c. e ∙ clean-mark s cs h c)

-- ---- the answers, by cases

module _ (s : List ℕ) where
  count-accepted : bind_fault deepest s ≡ 0 → count_of s ≡ record { number = 0; count = child_count s; clean = mark_of s }
  unfolding count_of
  count-accepted h = simp (eq-eqb (bind_fault deepest s) 0 h) (ap (λ (n : ℕ). record { number = n; count = child_count s; clean = mark_of s }) h)

  count-refused : (bind_fault deepest s ≡ 0 → ⊥) → count_of s ≡ record { number = bind_fault deepest s; count = 0; clean = false }
  unfolding count_of
  count-refused h =
      simp (ne_eqb (bind_fault deepest s) 0 h) (ap {B = ChildCount} (λ (b : Bool). record { number = bind_fault deepest s; count = 0; clean = b }) (mark-refused s h))

  count-marked : (count_of s).clean ≡ mark_of s
  unfolding count_of
  count-marked = refl

module _ (number : ℕ) (mark : Bool) (s : List ℕ) (j : ℕ) where
  placed-accepted : number ≡ 0
      → placed number mark s j ≡ record { number = 0; at = length s - length (data_from j (headers s) (data_of s)); len = size_of (headers_from j s); clean = mark }
  unfolding placed
  placed-accepted h = simp (eq-eqb number 0 h)

  placed-refused : (number ≡ 0 → ⊥) → placed number mark s j ≡ record { number = number; at = 0; len = 0; clean = false }
  unfolding placed
  placed-refused h = simp (ne_eqb number 0 h)

  pub placed-marked : (placed number mark s j).number ≡ 0 → (placed number mark s j).clean ≡ mark
  placed-marked z =
      by-test (eqb number 0)
      (λ e. ap (λ (p : Place). p.clean) (placed-accepted (eqb-true number 0 e)))
      (λ e. let n = eqb-false number 0 e in absurd (n (sym (ap (λ (p : Place). p.number) (placed-refused n)) ∙ z)))

module _ (fault : ℕ) (s : List ℕ) (j : ℕ) (e : fault ≡ 0) where
  pub number-found : j < child_count s → index_fault fault s j ≡ 0
  unfolding index_fault
  number-found h = else-second fault _ e ∙ simp (lt-ltb j (child_count s) h)

  number-none : child_count s ≤ j → index_fault fault s j ≡ 19
  unfolding index_fault
  number-none h = else-second fault _ e ∙ simp (le-ltb j (child_count s) h)

  pub place_none : (mark : Bool) → child_count s ≤ j → place_in fault mark s j ≡ record { number = 19; at = 0; len = 0; clean = false }
  place_none mark h = ap (λ (n : ℕ). placed n mark s j) (number-none h) ∙ placed-refused 19 mark s j (λ z. omega arith)

-- c is child n
module _ (s : List ℕ) (cs : List Child) (n : ℕ) (c : Child) (h : HasChildren s cs) (k : AtIndex n c cs) where
  abbrev after : List Child
  after = k.after

  abbrev rest : List ℕ
  rest = be_bytes 2 (length (name_table cs)) ++ (name_table cs ++ flat child_data cs)

  each : Each WellChild (k.before ++ (c ∷ after))
  each = subst (Each WellChild) (sym k.list) (well s cs h).each

  well-child : WellChild c
  well-child = each-middle WellChild k.before c after each

  pub inside : n < child_count s
  inside =
      let e = ap length k.list in
      omega (arith, e, k.index, count-of s cs h, length-append k.before (c ∷ after))

  headers-at : headers_from n s ≡ child_header c ++ (flat child_header after ++ rest)
  headers-at =
      ap (λ (l : List ℕ). headers_from n l) (sym (written s cs h))
      ∙ ap (drop (20 * n)) (headers-written cs)
      ∙ ap₂ (λ (m : ℕ) (l : List Child). drop (20 * m) (flat child_header l ++ rest)) (sym k.index) (sym k.list)
      ∙ headers-past (c ∷ after) rest k.before
      ∙ flat-cons child_header c after rest

  data-at : data_from n (headers s) (data_of s) ≡ flat child_data (c ∷ after)
  data-at =
      ap (λ (l : List ℕ). data_from n (headers l) (data_of l)) (sym (written s cs h))
      ∙ ap₂ (data_from n) (headers-written cs) (data-of-written cs (well s cs h))
      ∙ ap₂ (λ (m : ℕ) (l : List Child). data_from m (flat child_header l ++ rest) (flat child_data l)) (sym k.index) (sym k.list)
      ∙ data-past (c ∷ after) rest k.before each

  -- the name, in a list that begins with the names
  pub name-from : (t r : List ℕ) → t ≡ flat child_name cs ++ r → text_of (names_from n t) ≡ c.name
  name-from t r e =
      ap (λ (l : List ℕ). text_of (names_from n l)) e
      ∙ ap₂ (λ (m : ℕ) (l : List Child). text_of (names_from m (flat child_name l ++ r))) (sym k.index) (sym k.list)
      ∙ ap text_of (names-past (c ∷ after) r k.before each ∙ flat-cons child_name c after r)
      ∙ name_text c well-child (flat child_name after ++ r)

  pub type-at : type_of (headers_from n s) ≡ c.type_text
  type-at = ap type_of headers-at ∙ header-type c (flat child_header after ++ rest) well-child

  len-at : size_of (headers_from n s) ≡ length c.content
  len-at = ap size_of headers-at ∙ header-size c (flat child_header after ++ rest) well-child

  at_at : length s - length (data_from n (headers s) (data_of s)) ≡ 4 + 20 * length cs + length (name_table cs) + length (flat child_data k.before)
  at_at =
      let a = ap length data-at in
      let b = ap length (sym (written s cs h)) ∙ length-encode cs in
      let d = ap (λ (l : List Child). length (flat child_data l)) (sym k.list) ∙ ap length (flat_append child_data k.before (c ∷ after)) in
      omega (arith, a, b, d, length-append (flat child_data k.before) (flat child_data (c ∷ after)))

  pub place_at : place_of s n ≡ record { number = 0; at = length s - length (data_from n (headers s) (data_of s)); len = size_of (headers_from n s); clean = mark_of s }
  place_at = placed-accepted (index_fault (bind_fault deepest s) s n) (mark_of s) s n (number-found (bind_fault deepest s) s n (accepted s cs h) inside)

  number_at : (place_of s n).number ≡ 0
  number_at = ap (λ (p : Place). p.number) place_at

  pub child-place : place_of s n ≡ place_among (mark_of s) cs k.before c
  child-place = place_at ∙ (λ i. record { number = 0; at = at_at i; len = len-at i; clean = mark_of s })

  pub child-content : part_at (place_of s n) s ≡ c.content
  child-content =
      ap (λ (p : Place). part_at p s) place_at
      ∙ ap₂ take len-at (left-place s n ∙ data-at ∙ data-front c after)
      ∙ block-data c.content (flat child_data after)

  child-type : type_at s n ≡ c.type_text
  unfolding type_at
  child-type = simp (eq-eqb _ 0 number_at) type-at

  child-name : name_at s n ≡ c.name
  unfolding name_at
  child-name = simp (eq-eqb _ 0 number_at) (name-from (table_of s) (pad s cs h) (table-of s cs h))

module _ (s : List ℕ) (cs : List Child) (h : HasChildren s cs) where
  place-past : (n : ℕ) → length cs ≤ n → place_of s n ≡ record { number = 19; at = 0; len = 0; clean = false }
  place-past n l = place_none (bind_fault deepest s) s n (accepted s cs h) (mark_of s) (omega (arith, l, count-of s cs h))

  index-of : (x : List ℕ) → index_of s x ≡ index_in (length cs) (flat child_name cs ++ pad s cs h) x
  index-of x = ap₂ (λ (m : ℕ) (t : List ℕ). index_in m t x) (count-of s cs h) (table-of s cs h)

  -- the first child of a name
  pub index-named : (x : List ℕ) (n : ℕ) (c : Child) → FirstNamed x n c cs → index_of s x ≡ n
  index-named x n c f =
      let k = f.at_index in
      index-of x
      ∙ ap (λ (l : List Child). index_in (length l) (flat child_name l ++ pad s cs h) x) (sym k.list)
      ∙ index-first x k.before c k.after (pad s cs h) (subst (Each WellChild) (sym k.list) (well s cs h).each) f.named f.first
      ∙ k.index

  pub index-unnamed : (x : List ℕ) → NoneNamed x cs → index_of s x ≡ length cs
  index-unnamed x f = index-of x ∙ index-none x cs (pad s cs h) (well s cs h).each f

-- an accepted content is a BIND's
children-of : (s : List ℕ) (x : Content) → type_text x ≡ bind_text → WellFormed x deepest → encode x ≡ s → (cs : List Child) × HasChildren s cs
unfolding WellFormed same
children-of s (transform ws) t w e = absurd (differ refl t)
children-of s (position ws) t w e = absurd (differ refl t)
children-of s (image x) t w e = absurd (differ refl t)
children-of s (bind tree) t w e = (child_list tree, record { tree = tree; well = w; bytes = e; children = refl })
children-of s (other u r) t w e = absurd (w.0.no-bind t)

has-children : (s : List ℕ) → Bytes s → bind_fault deepest s ≡ 0 → (cs : List Child) × HasChildren s cs
has-children s b e = let x = content-accepted deepest bind_text s b (bind-content deepest s ∙ e) in children-of s x.0 x.1.1 x.1.0 x.2

-- ---- a refused look-up

pub place-refused : (fault : ℕ) (mark : Bool) (s : List ℕ) (j : ℕ) → (fault ≡ 0 → ⊥) → place_in fault mark s j ≡ record { number = fault; at = 0; len = 0; clean = false }
place-refused fault mark s j h = ap (λ (n : ℕ). placed n mark s j) (number-fault fault s j h) ∙ placed-refused fault mark s j h

empty-parts : (s : List ℕ) (n : ℕ) → ((place_of s n).number ≡ 0 → ⊥) → (part_at (place_of s n) s ≡ []) × (type_at s n ≡ []) × (name_at s n ≡ [])
unfolding type_at name_at
empty-parts s n h =
    let k = index_fault (bind_fault deepest s) s n in
    let z : k ≡ 0 → ⊥ = λ e. h (ap (λ (p : Place). p.number) (placed-accepted k (mark_of s) s n e)) in
    (ap (λ (p : Place). part_at p s) (placed-refused k (mark_of s) s n z), simp (ne_eqb _ 0 h), simp (ne_eqb _ 0 h))

pub lookup-theorems : LookupTheorems
lookup-theorems =
    record {
      some = has-children;
      count = λ s cs h. count-accepted s (accepted s cs h) ∙ ap (λ (m : ℕ). record { number = 0; count = m; clean = mark_of s }) (count-of s cs h);
      place = child-place;
      content = child-content;
      type = child-type;
      name = child-name;
      none = λ s cs n h l. place-past s cs h n l;
      index_or_none = index_or_none;
      named = λ s cs x n c h f. ap (place_of s) (index-named s cs h x n c f);
      unnamed = λ s cs x h f. ap (place_of s) (index-unnamed s cs h x f) ∙ place-past s cs h (length cs) (omega arith);
      named_or_none = named_or_none;
      mark = λ s n z. marks s _ (placed-marked _ (mark_of s) s n z);
      mark_named = λ s x z. marks s _ (placed-marked _ (mark_of s) s (index_of s x) z);
      mark_count = λ s z. marks s _ (count-marked s);
      refused = λ s n h. place-refused (bind_fault deepest s) (mark_of s) s n h;
      refused_named = λ s x h. place-refused (bind_fault deepest s) (mark_of s) s (index_of s x) h;
      refused_count = count-refused;
      empty = empty-parts;
      empty_named = λ s x h. (empty-parts s (index_of s x) h).0;
    }

-- One child: its header, its name and its data, each in front of further bytes. A child that passes the walks is what it is written from, and a well
-- formed one passes them and is read back.
use mathlib.Core.Path.{◌≡◌, refl, sym, ap, ap₂, subst, ◌∙◌}
use mathlib.Core.Logic.{◌↔◌}
use mathlib.Core.Bool.{true}
use mathlib.Core.List.{List, [], ◌∷◌, ◌++◌, append_assoc}
use Prim.Native.Nat.{ℕ, zero, suc, ◌+◌, ◌%◌, ◌^◌, ◌≤◌, ◌<◌}
use native.Mathlib.Omega.{arith}
use lib.Dec.{ltb, leb}
use lib.ListN.{length, take, drop, replicate, length-append, length-replicate, take-append-drop}
use lib.Seq.{take_at, drop_at, drop-drop, length-take-le}
use borrow.Author.Tests.{leb-true, ltb-true, le-leb, lt-ltb}
use Rattle.fields.specs.Bytes.{Bytes}
use Rattle.fields.specs.Lists.{Each}
use Rattle.fields.specs.Numbers.{be_val, be_bytes}
use Rattle.fields.specs.Text.{text_of, past_text, all_zero, is_text, text_ok, field_ok}
use Rattle.fields.specs.Received.{rest_of, field_bytes}
use Rattle.fields.proofs.Laws.Bytes.{bytes_take, bytes_drop}
use Rattle.fields.proofs.Laws.Checks.{and_split, and-join}
use Rattle.fields.proofs.Laws.Numbers.{length-be_bytes, be_val-be_bytes, be_at-lt, be_bytes-be_at}
use Rattle.fields.proofs.Laws.Tables.{Items, items_from, ItemLaws}
use Rattle.fields.proofs.Laws.Text.{text-is, text-ok, text-ended, text-split, all-zeros, zeros-all}
use Rattle.fields.proofs.Laws.Received.{length-field_bytes, text_ok-field, text_of-field, rest_of-field, field_ok-to, field_ok-from, fills-part, field_bytes-part}
use Rattle.bind_layout.specs.Children.{Child, padded, child_header, child_name, child_data, WellChild, CleanChild}
use Rattle.bind_layout.specs.BindLayout.{child_count, headers, table_of, data_of, type_of, size_of, after_block, types_ok, name_ok, names_ok, pad_ok, block_ok, data_ok}

pub length-child_header : (c : Child) → length (child_header c) ≡ 20
unfolding child_header
length-child_header c =
    length-append (field_bytes 12 c.type_text c.rest) (be_bytes 8 (length c.content))
    ∙ ap₂ (λ (m n : ℕ). m + n) (length-field_bytes 12 c.type_text c.rest) (length-be_bytes 8 (length c.content))

-- a header, and further bytes r
module _ (c : Child) (r : List ℕ) where
  header-front : child_header c ++ r ≡ field_bytes 12 c.type_text c.rest ++ (be_bytes 8 (length c.content) ++ r)
  unfolding child_header
  header-front = append_assoc (field_bytes 12 c.type_text c.rest) (be_bytes 8 (length c.content)) r

  header-field : take 12 (child_header c ++ r) ≡ field_bytes 12 c.type_text c.rest
  header-field =
      ap (take 12) header-front
      ∙ take_at (field_bytes 12 c.type_text c.rest) (be_bytes 8 (length c.content) ++ r) 12 (length-field_bytes 12 c.type_text c.rest)

  header-after : drop 12 (child_header c ++ r) ≡ be_bytes 8 (length c.content) ++ r
  header-after =
      ap (drop 12) header-front
      ∙ drop_at (field_bytes 12 c.type_text c.rest) (be_bytes 8 (length c.content) ++ r) 12 (length-field_bytes 12 c.type_text c.rest)

  pub header-bytes : take 8 (drop 12 (child_header c ++ r)) ≡ be_bytes 8 (length c.content)
  header-bytes = ap (take 8) header-after ∙ take_at (be_bytes 8 (length c.content)) r 8 (length-be_bytes 8 (length c.content))

  pub header-rest : drop 20 (child_header c ++ r) ≡ r
  header-rest = drop_at (child_header c) r 20 (length-child_header c)

  module _ (w : WellChild c) where
    pub header_ok : text_ok (take 12 (child_header c ++ r)) ≡ true
    header_ok = ap text_ok header-field ∙ text_ok-field 12 c.type_text c.rest w.type_fills

    pub header-type : type_of (child_header c ++ r) ≡ c.type_text
    header-type = ap text_of header-field ∙ text_of-field 12 c.type_text c.rest w.type_fills

    pub header-mark : rest_of (take 12 (child_header c ++ r)) ≡ c.rest
    header-mark = ap rest_of header-field ∙ rest_of-field 12 c.type_text c.rest w.type_fills

    pub header-clean : (field_ok (take 12 (child_header c ++ r)) ≡ true) ↔ CleanChild c
    header-clean =
        subst (λ (l : List ℕ). (field_ok l ≡ true) ↔ CleanChild c) (sym header-field)
        (field_ok-to 12 c.type_text c.rest w.type_fills, field_ok-from 12 c.type_text c.rest w.type_fills)

    pub header-size : size_of (child_header c ++ r) ≡ length c.content
    header-size =
        ap (λ (l : List ℕ). be_val (take 8 l)) header-after
        ∙ ap be_val (take_at (be_bytes 8 (length c.content)) r 8 (length-be_bytes 8 (length c.content)))
        ∙ be_val-be_bytes 8 (length c.content) w.size_fits

-- a name, and further bytes r
name-front : (c : Child) (r : List ℕ) → child_name c ++ r ≡ c.name ++ (0 ∷ r)
unfolding child_name
name-front c r = append_assoc c.name (0 ∷ []) r

module _ (c : Child) (w : WellChild c) (r : List ℕ) where
  pub name_text : text_of (child_name c ++ r) ≡ c.name
  name_text = ap text_of (name-front c r) ∙ (text-ended c.name r w.name_text).0

  pub name-rest : past_text (child_name c ++ r) ≡ r
  name-rest = ap past_text (name-front c r) ∙ (text-ended c.name r w.name_text).1

  name-ok : name_ok (child_name c ++ r) ≡ true
  unfolding name_ok text_ok
  name-ok =
      let q = ap length name_text in
      let f = ap length (name-front c r) in
      let h : length (text_of (child_name c ++ r)) < length (child_name c ++ r) = omega (arith, q, f, length-append c.name (0 ∷ r)) in
      and-join _ _ (lt-ltb _ _ h) (ap (λ (x : List ℕ). is_text x) name_text ∙ text-is c.name w.name_text)

pub length-padded : (x : List ℕ) → length (padded x) ≡ length x + length x % 2
unfolding padded
length-padded x = length-append x (replicate (length x % 2) 0) ∙ ap (λ (n : ℕ). length x + n) (length-replicate {A = ℕ} (length x % 2) 0)

-- data and their pad, and further bytes r
module _ (x r : List ℕ) where
  block-front : padded x ++ r ≡ x ++ (replicate (length x % 2) 0 ++ r)
  unfolding padded
  block-front = append_assoc x (replicate (length x % 2) 0) r

  block-after : drop (length x) (padded x ++ r) ≡ replicate (length x % 2) 0 ++ r
  block-after = ap (drop (length x)) block-front ∙ drop_at x (replicate (length x % 2) 0 ++ r) (length x) refl

  pub block-data : take (length x) (padded x ++ r) ≡ x
  block-data = ap (take (length x)) block-front ∙ take_at x (replicate (length x % 2) 0 ++ r) (length x) refl

  pub block-pad : take (length x % 2) (drop (length x) (padded x ++ r)) ≡ replicate (length x % 2) 0
  block-pad =
      ap (take (length x % 2)) block-after ∙ take_at (replicate (length x % 2) 0) r (length x % 2) (length-replicate (length x % 2) 0)

  pub block-rest : after_block (length x) (padded x ++ r) ≡ r
  block-rest =
      ap (drop (length x % 2)) block-after
      ∙ drop_at (replicate (length x % 2) 0) r (length x % 2) (length-replicate (length x % 2) 0)

  pad-ok : pad_ok (length x % 2) (replicate (length x % 2) 0 ++ r) ≡ true
  unfolding pad_ok
  pad-ok =
      let p = length x % 2 in
      let a = length-append (replicate {A = ℕ} p 0) r in
      let b = length-replicate {A = ℕ} p 0 in
      let h : p ≤ length (replicate p 0 ++ r) = omega arith in
      and-join _ _ (le-leb p (length (replicate p 0 ++ r)) h) (ap all_zero (take_at (replicate p 0) r p b) ∙ all-zeros p)

  pub block-ok : block_ok (length x) (padded x ++ r) ≡ true
  unfolding block_ok
  block-ok =
      let a = ap length block-front ∙ length-append x (replicate (length x % 2) 0 ++ r) in
      let h : length x ≤ length (padded x ++ r) = omega arith in
      and-join _ _ (le-leb (length x) (length (padded x ++ r)) h) (ap (pad_ok (length x % 2)) block-after ∙ pad-ok)

-- ---- a child that passes

-- the data of a child of n bytes, and what is left after it
module _ (n : ℕ) (d : List ℕ) (h : block_ok n d ≡ true) where
  pub block-fits : n ≤ length d
  unfolding block_ok
  block-fits = leb-true _ _ (and_split (leb n (length d)) _ h).0

  block-length : length (take n d) ≡ n
  block-length = length-take-le n d block-fits

  pub pad-passes : pad_ok (n % 2) (drop n d) ≡ true
  unfolding block_ok
  pad-passes = (and_split (leb n (length d)) _ h).1

  pad-zeros : take (n % 2) (drop n d) ≡ replicate (n % 2) 0
  unfolding pad_ok
  pad-zeros =
      let k = and_split (leb (n % 2) (length (drop n d))) (all_zero (take (n % 2) (drop n d))) pad-passes in
      zeros-all (take (n % 2) (drop n d)) k.1 ∙ ap (λ (m : ℕ). replicate m 0) (length-take-le (n % 2) (drop n d) (leb-true _ _ k.0))

  block_back : padded (take n d) ++ after_block n d ≡ d
  unfolding padded
  block_back =
      append_assoc (take n d) (replicate (length (take n d) % 2) 0) (after_block n d)
      ∙ ap (λ (m : ℕ). take n d ++ (replicate (m % 2) 0 ++ after_block n d)) block-length
      ∙ ap (λ (x : List ℕ). take n d ++ (x ++ after_block n d)) (sym pad-zeros)
      ∙ ap (λ (x : List ℕ). take n d ++ x) (take-append-drop (n % 2) (drop n d))
      ∙ take-append-drop n d

-- a child's header, where its data has the size that it gives
header_back : (h x : List ℕ) → Bytes h → 20 ≤ length h → length x ≡ size_of h
    → field_bytes 12 (type_of h) (rest_of (take 12 h)) ++ (be_bytes 8 (length x) ++ drop 20 h) ≡ h
header_back h x b l e =
    ap₂ (λ (y : List ℕ) (n : ℕ). y ++ (be_bytes 8 n ++ drop 20 h)) (field_bytes-part 12 0 h (omega arith)) e
    ∙ ap (λ (y : List ℕ). take 12 h ++ (y ++ drop 20 h)) (be_bytes-be_at 8 12 h b (omega arith))
    ∙ ap (λ (y : List ℕ). take 12 h ++ (take 8 (drop 12 h) ++ y)) (sym (drop-drop 8 12 h))
    ∙ ap (λ (y : List ℕ). take 12 h ++ y) (take-append-drop 8 (drop 12 h))
    ∙ take-append-drop 12 h

name-halves : (t : List ℕ) → name_ok t ≡ true → (length (text_of t) < length t) × (text_ok t ≡ true)
unfolding name_ok
name-halves t h = let k = and_split (ltb (length (text_of t)) (length t)) (text_ok t) h in (ltb-true _ _ k.0, k.1)

-- ---- the table of children: their names and their data

abbrev pub child_at : List ℕ → List ℕ × List ℕ → Child
child_at h d = record { type_text = type_of h; rest = rest_of (take 12 h); name = text_of d.0; content = take (size_of h) d.1 }

abbrev pub child_items : Items (List ℕ × List ℕ) Child
child_items =
    record {
      width = 20;
      item = child_at;
      after = λ h d. (past_text d.0, after_block (size_of h) d.1);
      header = child_header;
      put = λ c d. (child_name c ++ d.0, child_data c ++ d.1);
    }

-- the three walks over k children pass
abbrev pub WalksPass : ℕ → List ℕ → List ℕ × List ℕ → Type 0
WalksPass k h d = (types_ok k h ≡ true) × (names_ok k d.0 ≡ true) × (data_ok k h d.1 ≡ true)

-- the data behind a well formed child
left : (c : Child) → WellChild c → (h d : List ℕ) → after_block (size_of (child_header c ++ h)) (padded c.content ++ d) ≡ d
left c w h d = ap (λ (n : ℕ). after_block n (padded c.content ++ d)) (header-size c h w) ∙ block-rest c.content d

pub child-laws : ItemLaws child_items WellChild WalksPass (λ d. Unit {0})
unfolding types_ok names_ok data_ok child_data
child-laws =
    record {
      wide = length-child_header;
      read = λ k h d b l f p.
          let e = and_split (text_ok (take 12 h)) (types_ok k (drop 20 h)) p.0 in
          let n = and_split (name_ok d.0) (names_ok k (past_text d.0)) p.1 in
          let q = and_split (block_ok (size_of h) d.1) (data_ok k (drop 20 h) (after_block (size_of h) d.1)) p.2 in
          let z = block-length (size_of h) d.1 q.0 in
          let t = name-halves d.0 n.0 in
          let x = name-front (child_at h d) (past_text d.0) ∙ text-split d.0 t.0 in
          let y = block_back (size_of h) d.1 q.0 in (
            header-front (child_at h d) (drop 20 h) ∙ header_back h (take (size_of h) d.1) b l z,
            (λ i. (x i, y i)),
            record {
              type_fills = fills-part 12 0 h b (omega arith) e.0;
              name_text = text-ok d.0 t.1;
              size_fits = subst (λ (m : ℕ). m < 256 ^ 8) (sym z) (be_at-lt 8 12 h b);
            },
            tt,
            (e.1, n.1, q.1),
          );
      back = λ c w h d.
          let x = ap (λ (n : ℕ). take n (padded c.content ++ d.1)) (header-size c h w) ∙ block-data c.content d.1 in (
            (λ i. record { type_text = header-type c h w i; rest = header-mark c h w i; name = name_text c w d.0 i; content = x i }),
            (λ i. (name-rest c w d.0 i, left c w h d.1 i)),
          );
      passes = λ c w k h d o. (
        and-join _ _ (header_ok c h w) (ap (types_ok k) (header-rest c h) ∙ o.0),
        and-join _ _ (name-ok c w d.0) (ap (names_ok k) (name-rest c w d.0) ∙ o.1),
        and-join _ _ (ap (λ (n : ℕ). block_ok n (padded c.content ++ d.1)) (header-size c h w) ∙ block-ok c.content d.1)
            (ap₂ (data_ok k) (header-rest c h) (left c w h d.1) ∙ o.2),
      );
    }

-- ---- the children of a content

unfoldable pub children_from : ℕ → List ℕ → List ℕ → List ℕ → List Child
children_from k h t d = items_from child_items k h (t, d)

abbrev pub children_of : List ℕ → List Child
children_of s = children_from (child_count s) (headers s) (table_of s) (data_of s)

pub bytes-children : (k : ℕ) (h t d : List ℕ) → Bytes d → Each (λ c. Bytes c.content) (children_from k h t d)
unfolding children_from
bytes-children zero h t d b = tt
bytes-children (suc k) h t d b =
    let n = size_of h in
    (bytes_take n d b, bytes-children k (drop 20 h) (past_text t) (after_block n d) (bytes_drop (n % 2) (drop n d) (bytes_drop n d b)))

-- What passes the walks is what its children are written as.
use mathlib.Core.Path.{◌≡◌, refl, sym, ap, ap₂, subst, ◌∙◌}
use mathlib.Core.Bool.{true}
use mathlib.Core.List.{List, ◌++◌}
use Prim.Native.Nat.{ℕ, suc, ◌+◌, ◌-◌, ◌*◌, ◌%◌, ◌^◌, ◌≤◌, ◌<◌}
use native.Mathlib.Omega.{arith}
use lib.Dec.{eqb, leb}
use lib.ListN.{length, take, drop, replicate, length-append, length-drop, take-append-drop}
use lib.Seq.{drop-drop}
use borrow.Author.Tests.{eqb-true, leb-true}
use Rattle.fields.specs.Bytes.{Bytes}
use Rattle.fields.specs.Lists.{flat}
use Rattle.fields.specs.Numbers.{be_bytes}
use Rattle.fields.specs.Tables.{counted}
use Rattle.fields.specs.Text.{all_zero}
use Rattle.fields.proofs.Laws.Bytes.{length_part, bytes_drop}
use Rattle.fields.proofs.Laws.Checks.{and_split, cond-pass}
use Rattle.fields.proofs.Laws.Numbers.{be_at-lt, be_bytes-be_at}
use Rattle.fields.proofs.Laws.Tables.{puts-run, none_left, counted-read}
use Rattle.fields.proofs.Laws.Text.{zeros-all}
use Rattle.fields.proofs.Laws.Walks.{walk_step}
use Rattle.bind_layout.specs.Children.{padded, child_header, child_name, child_data, name_table, encode_children, WellBundle}
use Rattle.bind_layout.specs.BindLayout.{child_count, headers, after_headers, table_size, table_of, data_of, size_of, after_block, types_ok, names_ok, table_ok, pad_ok, block_ok, data_ok, layout_ok, layout_fault}
use Rattle.bind_layout.proofs.Laws.Children.{block-fits, pad-passes, child_items, child-laws, children_from, children_of}
use Rattle.bind_layout.proofs.Laws.Written.{encode-front}

-- ---- one step down the data

pub data-end : (h d : List ℕ) → data_ok 0 h d ≡ true → length d ≡ 0
unfolding data_ok
data-end h d e = eqb-true (length d) 0 e

pub data-step : (k : ℕ) (h d : List ℕ) → data_ok (suc k) h d ≡ true
    → (size_of h ≤ length d) × (size_of h % 2 ≤ length (drop (size_of h) d)) × (data_ok k (drop 20 h) (after_block (size_of h) d) ≡ true)
unfolding data_ok pad_ok
data-step k h d e =
    let n = size_of h in
    let q = and_split (block_ok n d) (data_ok k (drop 20 h) (after_block n d)) e in
    let p = and_split (leb (n % 2) (length (drop n d))) (all_zero (take (n % 2) (drop n d))) (pad-passes n d q.0) in
    (block-fits n d q.0, leb-true (n % 2) (length (drop n d)) p.0, q.1)

pub data-next : (k : ℕ) (h d : List ℕ) → 0 < k → data_ok k h d ≡ true
    → (size_of h ≤ length d) × (size_of h % 2 ≤ length (drop (size_of h) d)) × (data_ok (k - 1) (drop 20 h) (after_block (size_of h) d) ≡ true)
data-next k h d p e = data-step (k - 1) h d (sym (walk_step (λ n. data_ok n h d) k p) ∙ e)

-- the names and what is left of the table: its pad
names-back : (f r t : List ℕ) → names_ok 0 r ≡ true → length t % 2 ≡ 0 → f ++ r ≡ t → padded f ≡ t
unfolding names_ok padded
names-back f r t e z p =
    let k = and_split (leb (length r) _) (all_zero r) e in
    let n : length f % 2 ≡ length r = omega (arith, ap length p, leb-true (length r) _ k.0, z, length-append f r) in
    ap (λ (m : ℕ). f ++ replicate m 0) n ∙ ap (λ (x : List ℕ). f ++ x) (sym (zeros-all r k.1)) ∙ p

-- ---- a content that is laid out right

module _ (s : List ℕ) (h : layout_fault s ≡ 0) where
  parts-ok : (leb (4 + 20 * child_count s + table_size s) (length s) ≡ true)
      × (types_ok (child_count s) (headers s) ≡ true)
      × (table_ok (child_count s) (table_of s) ≡ true)
      × (data_ok (child_count s) (headers s) (data_of s) ≡ true)
  unfolding layout_fault layout_ok
  parts-ok =
      let a = (cond-pass (layout_ok s) _ 0 h).0 in
      let p = and_split (leb (4 + 20 * child_count s + table_size s) (length s)) _ a in
      let q = and_split (types_ok (child_count s) (headers s)) _ p.1 in
      let r = and_split (table_ok (child_count s) (table_of s)) _ q.1 in
      (p.0, q.0, r.0, r.1)

  pub layout-fits : 4 + 20 * child_count s + table_size s ≤ length s
  layout-fits = leb-true (4 + 20 * child_count s + table_size s) (length s) parts-ok.0

  pub layout-data : data_ok (child_count s) (headers s) (data_of s) ≡ true
  layout-data = parts-ok.3

  table-halves : (length (table_of s) % 2 ≡ 0) × (names_ok (child_count s) (table_of s) ≡ true)
  unfolding table_ok
  table-halves =
      let k = and_split (eqb (length (table_of s) % 2) 0) (names_ok (child_count s) (table_of s)) parts-ok.2 in
      (eqb-true (length (table_of s) % 2) 0 k.0, k.1)

  table-length : length (table_of s) ≡ table_size s
  table-length =
      length_part (table_size s) 2 (after_headers s) (omega (arith, length-drop (2 + 20 * child_count s) s, layout-fits))

  -- the data is shorter than the content
  pub data-shorter : length (data_of s) + 4 ≤ length s
  data-shorter = omega (arith, layout-fits, length-drop (2 + table_size s) (after_headers s), length-drop (2 + 20 * child_count s) s)

  module _ (b : Bytes s) where
    after-back : be_bytes 2 (table_size s) ++ (table_of s ++ data_of s) ≡ after_headers s
    after-back =
        ap₂ (λ (x y : List ℕ). x ++ (table_of s ++ y)) (be_bytes-be_at 2 0 (after_headers s) (bytes_drop (2 + 20 * child_count s) s b) (omega (arith, length-drop (2 + 20 * child_count s) s, layout-fits)))
        (sym (drop-drop (table_size s) 2 (after_headers s)))
        ∙ ap (λ (x : List ℕ). take 2 (after_headers s) ++ x) (take-append-drop (table_size s) (drop 2 (after_headers s)))
        ∙ take-append-drop 2 (after_headers s)

    -- what is accepted is what its children are written as, and they are well formed
    read_back : WellBundle (children_of s) × (encode_children (children_of s) ≡ s)
    unfolding children_from data_ok name_table
    read_back =
        let cs = children_of s in
        let r = counted-read child-laws s b (omega (arith, layout-fits)) (table_of s, data_of s) tt (parts-ok.1, table-halves.1, parts-ok.3) in
        let e = r.3.1 in
        let t = sym (puts-run child_items child_name (λ d. d.0) (λ c d. refl) cs e) ∙ ap (λ (d : List ℕ × List ℕ). d.0) r.3.2 in
        let d = sym (puts-run child_items child_data (λ d. d.1) (λ c d. refl) cs e) ∙ ap (λ (d : List ℕ × List ℕ). d.1) r.3.2 in
        let names : name_table cs ≡ table_of s = names-back (flat child_name cs) e.0 (table_of s) r.3.3.1 table-halves.0 t in
        let n : length (name_table cs) ≡ table_size s = ap length names ∙ table-length in
        let x = none_left (flat child_data cs) e.1 (data_of s) r.3.3.2 d in (
          record {
            count_fits = r.1;
            table_fits = subst (λ (m : ℕ). m < 256 ^ 2) (sym n) (be_at-lt 2 0 (after_headers s) (bytes_drop (2 + 20 * child_count s) s b));
            each = r.2;
          },
          encode-front cs
              ∙ (λ i. counted child_header cs (be_bytes 2 (n i) ++ (names i ++ x i)))
              ∙ ap (counted child_header cs) after-back
              ∙ r.0,
        )

    pub encode-read : encode_children (children_of s) ≡ s
    encode-read = read_back.1

    pub well-children : WellBundle (children_of s)
    well-children = read_back.0

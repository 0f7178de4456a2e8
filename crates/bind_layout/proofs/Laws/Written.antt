-- What is written from children: its parts are those of the children, its layout is accepted, and it is read back as them.
use mathlib.Core.Path.{◌≡◌, refl, sym, ap, ap₂, subst, ◌∙◌}
use mathlib.Core.Bool.{Bool, true, cond}
use mathlib.Core.List.{List, [], ◌∷◌, ◌++◌, append-nil, append_assoc}
use Prim.Native.Nat.{ℕ, ◌+◌, ◌*◌, ◌%◌, ◌≤◌}
use native.Mathlib.Omega.{arith}
use lib.ListN.{length, take, drop, replicate, length-append, length-replicate}
use lib.Seq.{take_at, drop_at, drop-drop}
use borrow.Author.Tests.{eq-eqb, le-leb}
use Rattle.fields.specs.Lists.{flat}
use Rattle.fields.specs.Numbers.{be_val, be_bytes}
use Rattle.fields.proofs.Laws.Checks.{and-join}
use Rattle.fields.proofs.Laws.Lists.{length-flat}
use Rattle.fields.proofs.Laws.Numbers.{length-be_bytes, be_val-be_bytes}
use Rattle.fields.proofs.Laws.Tables.{items_from, puts, puts-run, counted-count, counted-headers, length-counted, counted-number, counted-after, counted-written}
use Rattle.fields.proofs.Laws.Text.{all-zeros}
use Rattle.bind_layout.specs.Children.{Child, padded, child_header, child_name, child_data, name_table, encode_children, WellBundle}
use Rattle.bind_layout.specs.BindLayout.{child_count, headers, after_headers, table_size, table_of, data_of, types_ok, names_ok, table_ok, data_ok, layout_ok, layout_fault}
use Rattle.bind_layout.proofs.Laws.Children.{length-child_header, length-padded, child_items, WalksPass, child-laws, children_from, children_of}

pub length-headers : (cs : List Child) → length (flat child_header cs) ≡ 20 * length cs
length-headers cs = length-flat child_header 20 length-child_header cs

-- the first child's data in front of the others'
pub data-front : (c : Child) (cs : List Child) → flat child_data (c ∷ cs) ≡ padded c.content ++ flat child_data cs
unfolding flat child_data
data-front c cs = refl

-- ---- the parts of what is written

module _ (cs : List Child) where
  abbrev after_count : List ℕ
  after_count = flat child_header cs ++ (be_bytes 2 (length (name_table cs)) ++ (name_table cs ++ flat child_data cs))

  abbrev after_types : List ℕ
  after_types = be_bytes 2 (length (name_table cs)) ++ (name_table cs ++ flat child_data cs)

  table-even : length (name_table cs) % 2 ≡ 0
  unfolding name_table
  table-even = omega (arith, length-padded (flat child_name cs))

  pub encode-front : encode_children cs ≡ be_bytes 2 (length cs) ++ after_count
  unfolding encode_children
  encode-front =
      ap (λ (x : List ℕ). be_bytes 2 (length cs) ++ (flat child_header cs ++ (be_bytes 2 (length (name_table cs)) ++ (name_table cs ++ x)))) (append-nil (flat child_data cs))

  pub length-encode : length (encode_children cs) ≡ 4 + 20 * length cs + length (name_table cs) + length (flat child_data cs)
  length-encode =
      omega (
        arith,
        ap length encode-front,
        length-counted child-laws cs after_types,
        length-append (be_bytes 2 (length (name_table cs))) (name_table cs ++ flat child_data cs),
        length-append (name_table cs) (flat child_data cs),
        length-be_bytes 2 (length (name_table cs)),
      )

  pub count-bytes : take 2 (encode_children cs) ≡ be_bytes 2 (length cs)
  count-bytes = ap (take 2) encode-front ∙ counted-count child-laws cs after_types

  pub headers-written : headers (encode_children cs) ≡ after_count
  headers-written = ap (drop 2) encode-front ∙ counted-headers child-laws cs after_types

  module _ (w : WellBundle cs) where
    pub count-written : child_count (encode_children cs) ≡ length cs
    count-written = ap (λ (l : List ℕ). child_count l) encode-front ∙ counted-number child-laws cs after_types w.count_fits

    after-written : after_headers (encode_children cs) ≡ after_types
    after-written = ap (λ (l : List ℕ). after_headers l) encode-front ∙ counted-after child-laws cs after_types w.count_fits

    table_size-written : table_size (encode_children cs) ≡ length (name_table cs)
    table_size-written =
        ap (λ (l : List ℕ). be_val (take 2 l)) after-written
        ∙ ap be_val (take_at (be_bytes 2 (length (name_table cs))) (name_table cs ++ flat child_data cs) 2 (length-be_bytes 2 (length (name_table cs))))
        ∙ be_val-be_bytes 2 (length (name_table cs)) w.table_fits

    rest_written : drop 2 (after_headers (encode_children cs)) ≡ name_table cs ++ flat child_data cs
    rest_written =
        ap (drop 2) after-written
        ∙ drop_at (be_bytes 2 (length (name_table cs))) (name_table cs ++ flat child_data cs) 2 (length-be_bytes 2 (length (name_table cs)))

    -- the table and its size
    pub table-bytes : take (2 + table_size (encode_children cs)) (after_headers (encode_children cs)) ≡ be_bytes 2 (length (name_table cs)) ++ name_table cs
    table-bytes =
        let b = be_bytes 2 (length (name_table cs)) in
        let n : length (b ++ name_table cs) ≡ 2 + length (name_table cs) =
        length-append b (name_table cs) ∙ ap (λ (m : ℕ). m + length (name_table cs)) (length-be_bytes 2 (length (name_table cs))) in
        ap₂ (λ (m : ℕ) (l : List ℕ). take (2 + m) l) table_size-written (after-written ∙ sym (append_assoc b (name_table cs) (flat child_data cs)))
        ∙ take_at (b ++ name_table cs) (flat child_data cs) (2 + length (name_table cs)) n

    pub table-written : table_of (encode_children cs) ≡ name_table cs
    table-written = ap₂ take table_size-written rest_written ∙ take_at (name_table cs) (flat child_data cs) (length (name_table cs)) refl

    pub data-of-written : data_of (encode_children cs) ≡ flat child_data cs
    data-of-written =
        sym (drop-drop (table_size (encode_children cs)) 2 (after_headers (encode_children cs)))
        ∙ ap₂ drop table_size-written rest_written
        ∙ drop_at (name_table cs) (flat child_data cs) (length (name_table cs)) refl

    fits-written : 4 + 20 * child_count (encode_children cs) + table_size (encode_children cs) ≤ length (encode_children cs)
    fits-written = omega (arith, length-encode, count-written, table_size-written)

    -- the names and the data, put in front of the table's pad and of nothing
    abbrev ends : List ℕ × List ℕ
    ends = (replicate (length (flat child_name cs) % 2) 0, [])

    ends-pass : WalksPass 0 after_types ends
    unfolding types_ok names_ok data_ok
    ends-pass =
        let n = length (flat child_name cs) % 2 in
        let h : length (replicate {A = ℕ} n 0) ≤ 1 = omega (arith, length-replicate {A = ℕ} n 0) in
        (refl, and-join _ _ (le-leb (length (replicate n 0)) _ h) (all-zeros n), refl)

    runs-written : ◌≡◌ {A = List ℕ × List ℕ} (puts child_items cs ends) (table_of (encode_children cs), data_of (encode_children cs))
    unfolding name_table padded
    runs-written =
        let t = puts-run child_items child_name (λ d. d.0) (λ c d. refl) cs ends ∙ sym table-written in
        let d = puts-run child_items child_data (λ d. d.1) (λ c d. refl) cs ends ∙ append-nil (flat child_data cs) ∙ sym data-of-written in
        λ i. (t i, d i)

    walks-written : WalksPass (child_count (encode_children cs)) (headers (encode_children cs)) (table_of (encode_children cs), data_of (encode_children cs))
        × (children_of (encode_children cs) ≡ cs)
    unfolding children_from
    walks-written =
        let P : List ℕ → List ℕ × List ℕ → Type 0 = λ s d. WalksPass (child_count s) (headers s) d × (items_from child_items (child_count s) (headers s) d ≡ cs) in
        subst (P (encode_children cs)) runs-written
        (subst (λ (s : List ℕ). P s (puts child_items cs ends)) (sym encode-front) (counted-written child-laws cs after_types w.count_fits w.each ends ends-pass))

    layout-ok : layout_ok (encode_children cs) ≡ true
    unfolding layout_ok table_ok
    layout-ok =
        let p = walks-written.0 in
        let even : length (table_of (encode_children cs)) % 2 ≡ 0 = ap (λ (t : List ℕ). length t % 2) table-written ∙ table-even in
        and-join _ _ (le-leb _ _ fits-written) (and-join _ _ p.0 (and-join _ _ (and-join _ _ (eq-eqb _ 0 even) p.1) p.2))

    -- a written bundle is laid out right
    pub layout-written : layout_fault (encode_children cs) ≡ 0
    unfolding layout_fault
    layout-written = ap (λ (t : Bool). cond t 0 10) layout-ok

    -- and is read back as itself
    pub children-written : children_of (encode_children cs) ≡ cs
    children-written = walks-written.1

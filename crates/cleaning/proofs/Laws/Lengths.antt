-- Cleaning keeps lengths.
use Prim.Native.Nat.{ℕ, zero, suc, ◌+◌, ◌*◌, ◌%◌, ◌≤◌}
use mathlib.Core.Path.{◌≡◌, refl, sym, ap, ◌∙◌}
use mathlib.Core.Bool.{Bool, true, cond}
use mathlib.Core.List.{List, ◌++◌}
use native.Mathlib.Omega.{arith}
use lib.Dec.{eqb}
use lib.ListN.{length, take, drop, length-append, length-drop}
use lib.Seq.{length-take-le}
use borrow.Author.Tests.{eqb-true}
use Rattle.fields.specs.Bytes.{part, same}
use Rattle.fields.specs.Text.{text_bytes}
use Rattle.fields.proofs.Laws.Bytes.{length_part}
use Rattle.fields.proofs.Laws.Tests.{by-test}
use Rattle.fields.proofs.Laws.Text.{length-text_bytes}
use Rattle.bind_layout.specs.BindLayout.{child_count, headers, after_headers, table_size, data_of, type_of, size_of, after_block, data_ok, layout_fault}
use Rattle.bind_layout.proofs.Laws.Read.{data-end, data-step, layout-fits, layout-data}
use Rattle.content.specs.Kinds.{bind_text}
use Rattle.cleaning.specs.CleanBytes.{clean_headers, clean_front, clean_as, clean_blocks, clean_bind, clean_bytes}

-- f keeps the length of any bytes
abbrev pub Keeps : (List ℕ → List ℕ) → Type 0
Keeps f = (s : List ℕ) → length (f s) ≡ length s

pub length-headers : (k : ℕ) (h : List ℕ) → 20 * k ≤ length h → length (clean_headers k h) ≡ 20 * k
unfolding clean_headers
length-headers zero h l = refl
length-headers (suc k) h l =
    let t = text_bytes 12 (type_of h) in
    let p = part 8 12 h in
    let r = clean_headers k (drop 20 h) in
    let n : 20 * k ≤ length (drop 20 h) = omega (arith, length-drop 20 h) in
    omega (
      arith,
      length-append t (p ++ r),
      length-append p r,
      length-text_bytes 12 (type_of h),
      length_part 8 12 h (omega arith),
      length-headers k (drop 20 h) n,
    )

pub length-as : (f : List ℕ → List ℕ) → Keeps f → (t s : List ℕ) → length (clean_as f t s) ≡ length s
length-as f k t s =
    by-test (same t bind_text)
    (λ e. ap (λ (b : Bool). length (cond b (f s) s)) e ∙ k s)
    (λ e. ap (λ (b : Bool). length (cond b (f s) s)) e)

pub length-datas : (f : List ℕ → List ℕ) → Keeps f → (k : ℕ) (h d : List ℕ) → data_ok k h d ≡ true → length (clean_blocks f k h d) ≡ length d
unfolding clean_blocks
length-datas f p zero h d e = sym (data-end h d e)
length-datas f p (suc k) h d e =
    let n = size_of h in
    let x = clean_as f (type_of h) (take n d) in
    let y = part (n % 2) n d in
    let z = clean_blocks f k (drop 20 h) (after_block n d) in
    let q = data-step k h d e in
    omega (
      arith,
      length-append x (y ++ z),
      length-append y z,
      length-as f p (type_of h) (take n d) ∙ length-take-le n d q.0,
      length-take-le (n % 2) (drop n d) q.1,
      length-drop n d,
      length-drop (n % 2) (drop n d),
      length-datas f p k (drop 20 h) (after_block n d) q.2,
      q.0,
      q.1,
    )

module _ (s : List ℕ) (h : layout_fault s ≡ 0) where
  -- what is left after the front is the data
  pub length_front : length (clean_front s) + length (data_of s) ≡ length s
  unfolding clean_front
  length_front =
      let a = take 2 s in
      let b = clean_headers (child_count s) (headers s) in
      let c = take (2 + table_size s) (after_headers s) in
      let l = layout-fits s h in
      let m : 20 * child_count s ≤ length (headers s) = omega (arith, length-drop 2 s) in
      let n : 2 + table_size s ≤ length (after_headers s) = omega (arith, length-drop (2 + 20 * child_count s) s) in
      omega (
        arith,
        l,
        length-append a (b ++ c),
        length-append b c,
        length-take-le 2 s (omega arith),
        length-headers (child_count s) (headers s) m,
        length-take-le (2 + table_size s) (after_headers s) n,
        length-drop (2 + table_size s) (after_headers s),
        length-drop (2 + 20 * child_count s) s,
      )

pub length-bind : (levels : ℕ) → Keeps (clean_bind levels)
unfolding clean_bind
length-bind zero s = refl
length-bind (suc levels) s =
    let f = clean_front s in
    let d = clean_blocks (clean_bind levels) (child_count s) (headers s) (data_of s) in
    by-test (eqb (layout_fault s) 0)
    (λ e.
    let h = eqb-true (layout_fault s) 0 e in
    let n = length-datas (clean_bind levels) (length-bind levels) (child_count s) (headers s) (data_of s) (layout-data s h) in
    ap (λ (b : Bool). length (cond b (f ++ d) s)) e ∙ length-append f d ∙ ap (λ (m : ℕ). length f + m) n ∙ length_front s h)
    (λ e. ap (λ (b : Bool). length (cond b (f ++ d) s)) e)

pub length-clean : (levels : ℕ) (t s : List ℕ) → length (clean_bytes levels t s) ≡ length s
unfolding clean_bytes
length-clean levels t s = length-as (clean_bind levels) (length-bind levels) t s

-- The walks of a look-up: one step of the search for a name, and where the data that is left stands. And the number.
use Prim.Native.Nat.{ℕ, zero, suc, ◌+◌, ◌-◌, ◌*◌, ◌%◌, ◌≤◌, ◌<◌}
use mathlib.Core.Path.{◌≡◌, refl, sym, ap, ◌∙◌}
use mathlib.Core.Bool.{false}
use mathlib.Core.List.{List, [], ◌∷◌}
use native.Mathlib.Omega.{arith}
use native.Mathlib.Nat.{sub_self}
use lib.ListN.{length, drop, length-drop}
use lib.Seq.{drop-nil, drop-drop}
use Rattle.fields.specs.Bytes.{same}
use Rattle.fields.specs.Text.{text_of, past_text}
use Rattle.fields.proofs.Laws.Checks.{else-first}
use Rattle.bind_layout.specs.BindLayout.{child_count, headers, after_headers, table_size, data_of, size_of, after_block}
use Rattle.bind_lookup.specs.ChildLookup.{data_from, index_in, index_fault}

-- ---- the walks

pub index-next : (n i : ℕ) (t x : List ℕ) → i < n → same (text_of t) x ≡ false → i + index_in (n - i) t x ≡ i + 1 + index_in (n - (i + 1)) (past_text t) x
unfolding index_in
index-next n i t x h e =
    let p : n - i ≡ suc (n - (i + 1)) = omega arith in
    let q : index_in (n - i) t x ≡ suc (index_in (n - (i + 1)) (past_text t) x) =
    ap (λ (m : ℕ). index_in m t x) p ∙ simp e in
    omega arith

-- the end of a list stands where its length says
pub end-place : (k : ℕ) (s : List ℕ) → drop (length s - length (drop k s)) s ≡ drop k s
end-place zero s = ap (λ (n : ℕ). drop n s) (sub_self (length s))
end-place (suc k) [] = drop-nil (0 - 0)
end-place (suc k) (x ∷ s) =
    let e : suc (length s) - length (drop k s) ≡ suc (length s - length (drop k s)) = omega (arith, length-drop k s) in
    ap (λ (n : ℕ). drop n (x ∷ s)) e ∙ end-place k s

-- what is left of the data is the end of it
data-end : (j : ℕ) (h d : List ℕ) → (k : ℕ) × (data_from j h d ≡ drop k d)
unfolding data_from
data-end zero h d = (0, refl)
data-end (suc j) h d =
    let n = size_of h in
    let r = data-end j _ (after_block n d) in
    (n + (n % 2 + r.0), r.1 ∙ drop-drop r.0 (n % 2) (drop n d) ∙ drop-drop (n % 2 + r.0) n d)

-- and of the content
module _ (s : List ℕ) (j : ℕ) where
  abbrev left : List ℕ
  left = data_from j (headers s) (data_of s)

  left_end : (k : ℕ) × (left ≡ drop k s)
  left_end =
      let r = data-end j (headers s) (data_of s) in
      let a = 2 + 20 * child_count s in
      let b = 2 + table_size s in
      (a + (b + r.0), r.1 ∙ drop-drop r.0 b (after_headers s) ∙ drop-drop (b + r.0) a s)

  pub left-inside : {d : List ℕ} → d ≡ left → length d ≤ length s
  left-inside e = omega (arith, ap length (e ∙ left_end.1), length-drop left_end.0 s)

  -- it stands where the place says
  pub left-place : drop (length s - length left) s ≡ left
  left-place =
      ap (λ (l : List ℕ). drop (length s - length l) s) left_end.1 ∙ end-place left_end.0 s ∙ sym left_end.1

-- ---- the number

module _ (fault : ℕ) (s : List ℕ) (j : ℕ) where
  pub number-fault : (fault ≡ 0 → ⊥) → index_fault fault s j ≡ fault
  unfolding index_fault
  number-fault h = else-first fault _ h

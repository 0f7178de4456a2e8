-- The ends of a content that a walk comes to: the next one is had from the one before, and each stands where its length says.
use Prim.Native.Nat.{ℕ, zero, suc, ◌+◌, ◌-◌, ◌*◌}
use mathlib.Core.Path.{◌≡◌, refl, sym, ap, ap₂, ◌∙◌}
use mathlib.Core.List.{List, ◌++◌, append_assoc}
use native.Mathlib.Omega.{arith}
use lib.ListN.{length, take, drop, take-append-drop, length-take}
use lib.Seq.{take-take, drop-drop}
use Rattle.fields.specs.Lists.{flat}
use Rattle.fields.specs.Text.{text_of, past_text}
use Rattle.fields.proofs.Laws.Text.{text-take, past-drop, length-text_of}
use Rattle.bind_layout.specs.Children.{Child, child_name}
use Rattle.bind_layout.specs.BindLayout.{child_count, headers, after_headers, table_size, data_of, type_of, size_of, after_block}
use Rattle.bind_lookup.specs.ChildLookup.{headers_from, names_from, data_from}
use Rattle.bind_lookup.specs.LookupTheorems.{HasChildren}
use Rattle.bind_lookup.proofs.Laws.Lookup.{end-place}
use Rattle.bind_lookup.proofs.Laws.LookupTheorems.{pad, table-of}
use Rattle.bind_cursor.specs.Cursor.{names_of}

-- ---- the next end

twenty-more : (n : ℕ) (h : List ℕ) → drop 20 (drop (20 * n) h) ≡ drop (20 * suc n) h
twenty-more n h =
    let e : 20 * n + 20 ≡ 20 * suc n = omega arith in
    drop-drop 20 (20 * n) h ∙ ap (λ (m : ℕ). drop m h) e

pub headers-next : (s : List ℕ) (n : ℕ) → drop 20 (headers_from n s) ≡ headers_from (suc n) s
headers-next s n = twenty-more n (headers s)

pub names-next : (n : ℕ) (t : List ℕ) → past_text (names_from n t) ≡ names_from (suc n) t
unfolding names_from
names-next zero t = refl
names-next (suc n) t = names-next n (past_text t)

pub data-next : (n : ℕ) (h d : List ℕ) → after_block (size_of (drop (20 * n) h)) (data_from n h d) ≡ data_from (suc n) h d
unfolding data_from
data-next zero h d = refl
data-next (suc n) h d =
    let e : 20 * suc n ≡ 20 + 20 * n = omega arith in
    let b = after_block (size_of h) d in
    ap (λ (l : List ℕ). after_block (size_of l) (data_from n (drop 20 h) b)) (ap (λ (m : ℕ). drop m h) e ∙ sym (drop-drop (20 * n) 20 h))
    ∙ data-next n (drop 20 h) b

-- past a text and its 0
pub past_two : (t : List ℕ) → drop 1 (drop (length (text_of t)) t) ≡ past_text t
past_two t = drop-drop 1 (length (text_of t)) t ∙ sym (past-drop t)

-- ---- where an end stands

pub headers-place : (s : List ℕ) (n : ℕ) → drop (length s - length (headers_from n s)) s ≡ headers_from n s
headers-place s n =
    let e = drop-drop (20 * n) 2 s in
    ap (λ (l : List ℕ). drop (length s - length l) s) e ∙ end-place (2 + 20 * n) s ∙ sym e

names-end : (n : ℕ) (t : List ℕ) → (k : ℕ) × (names_from n t ≡ drop k t)
unfolding names_from
names-end zero t = (0, refl)
names-end (suc n) t =
    let r = names-end n (past_text t) in
    let m = length (text_of t) + 1 in
    (m + r.0, r.1 ∙ ap (drop r.0) (past-drop t) ∙ drop-drop r.0 m t)

pub names-place : (s : List ℕ) (n : ℕ) → drop (length s - length (names_from n (names_of s))) s ≡ names_from n (names_of s)
names-place s n =
    let r = names-end n (names_of s) in
    let a = 2 + 20 * child_count s in
    let e = r.1 ∙ drop-drop r.0 2 (after_headers s) ∙ drop-drop (2 + r.0) a s in
    ap (λ (l : List ℕ). drop (length s - length l) s) e ∙ end-place (a + (2 + r.0)) s ∙ sym e

-- ---- what stands in front of an end

-- the text of a type is what stands there
pub type-front : (h : List ℕ) → take (length (type_of h)) h ≡ type_of h
type-front h =
    sym (take-take (length (type_of h)) 12 h (omega (arith, length-text_of (take 12 h), length-take 12 h))) ∙ sym (text-take (take 12 h))

-- the names begin with those of the children
pub names-of : (s : List ℕ) (cs : List Child) (h : HasChildren s cs) → names_of s ≡ flat child_name cs ++ (pad s cs h ++ data_of s)
names-of s cs h =
    sym (take-append-drop (table_size s) (names_of s))
    ∙ ap₂ (λ (x y : List ℕ). x ++ y) (table-of s cs h) (drop-drop (table_size s) 2 (after_headers s))
    ∙ append_assoc (flat child_name cs) (pad s cs h) (data_of s)

-- One step of writing clean: the headers, the front, the children's data. What is left to write is written where the part before it ends.
use Prim.Native.Nat.{ℕ, zero, suc, ◌+◌, ◌-◌, ◌*◌, ◌%◌, ◌≤◌, ◌<◌}
use mathlib.Core.Path.{◌≡◌, refl, sym, ap, ap₂, ◌∙◌}
use mathlib.Core.Bool.{Bool, true, false, cond}
use mathlib.Core.List.{List, [], ◌++◌}
use native.Mathlib.Omega.{arith}
use lib.Dec.{eqb}
use lib.ListN.{length, take, drop, length-drop}
use lib.Seq.{sets, length-take-le}
use borrow.Author.Tests.{eq-eqb, ne_eqb, le-leb, lt-leb}
use Rattle.fields.specs.Bytes.{part, same}
use Rattle.fields.specs.Text.{text_bytes}
use Rattle.fields.proofs.Laws.Bytes.{length_part}
use Rattle.fields.proofs.Laws.Stores.{sets-append}
use Rattle.fields.proofs.Laws.Text.{length-text_bytes}
use Rattle.fields.proofs.Laws.Walks.{walk_end, walk_step}
use Rattle.bind_layout.specs.BindLayout.{child_count, headers, after_headers, table_size, data_of, type_of, size_of, after_block, data_ok, layout_fault}
use Rattle.bind_layout.proofs.Laws.Read.{data-next, layout-fits}
use Rattle.content.specs.Kinds.{bind_text}
use Rattle.cleaning.specs.CleanBytes.{clean_headers, clean_front, clean_as, clean_blocks, clean_bind, clean_bytes, bounded_levels, clean_put}
use Rattle.cleaning.proofs.Laws.Lengths.{Keeps, length-headers, length-as, length_front, length-bind}

-- three runs, each where the one before it ends, are one
pub sets-three : (out : List ℕ) (at a b : ℕ) (x y z : List ℕ) → length x ≡ a → length y ≡ b
    → sets out at (x ++ (y ++ z)) ≡ sets (sets (sets out at x) (at + a) y) (at + a + b) z
sets-three out at a b x y z p q =
    sets-append out at x (y ++ z)
    ∙ sets-append (sets out at x) (at + length x) y z
    ∙ ap₂ (λ (m n : ℕ). sets (sets (sets out at x) (at + m) y) (at + m + n) z) p q

-- ---- headers

pub headers-end : (k : ℕ) (h : List ℕ) → k ≤ 0 → clean_headers k h ≡ []
unfolding clean_headers
headers-end k h p = walk_end (λ n. clean_headers n h) k p

-- one header more, stored in two runs
pub headers-next : (out : List ℕ) (to k : ℕ) (h : List ℕ) → 0 < k → 20 ≤ length h
    → sets out to (clean_headers k h) ≡ sets (sets (sets out to (text_bytes 12 (type_of h))) (to + 12) (part 8 12 h)) (to + 20) (clean_headers (k - 1) (drop 20 h))
unfolding clean_headers
headers-next out to k h p l =
    let e : to + 12 + 8 ≡ to + 20 = omega arith in
    let o = sets (sets out to (text_bytes 12 (type_of h))) (to + 12) (part 8 12 h) in
    ap (sets out to) (walk_step (λ n. clean_headers n h) k p)
    ∙ sets-three out to 12 8 (text_bytes 12 (type_of h)) (part 8 12 h) (clean_headers (k - 1) (drop 20 h)) (length-text_bytes 12 (type_of h)) (length_part 8 12 h (omega arith))
    ∙ ap (λ (n : ℕ). sets o n (clean_headers (k - 1) (drop 20 h))) e

-- the same as the loop meets it
pub headers-walk : (whole out o q h t p x : List ℕ) (to k : ℕ) → whole ≡ sets out to (clean_headers k h) → 0 < k → 20 * k ≤ length h
    → o ≡ sets out to (text_bytes 12 t) → t ≡ type_of h → q ≡ sets o (to + 12) p → p ≡ part 8 12 h → x ≡ drop 20 h
    → whole ≡ sets q (to + 20) (clean_headers (k - 1) x)
headers-walk whole out o q h t p x to k w z l a b c d e =
    let first : o ≡ sets out to (text_bytes 12 (type_of h)) = a ∙ ap (λ (y : List ℕ). sets out to (text_bytes 12 y)) b in
    let second : q ≡ sets (sets out to (text_bytes 12 (type_of h))) (to + 12) (part 8 12 h) = c ∙ ap₂ (λ (y v : List ℕ). sets y (to + 12) v) first d in
    w ∙ headers-next out to k h z (omega arith) ∙ ap₂ (λ (y v : List ℕ). sets y (to + 20) (clean_headers (k - 1) v)) (sym second) (sym e)

-- ---- the front

pub front-next : (out s : List ℕ) (at : ℕ) → layout_fault s ≡ 0
    → sets (sets (sets out at (take 2 s)) (at + 2) (clean_headers (child_count s) (headers s))) (at + 2 + 20 * child_count s) (take (2 + table_size s) (after_headers s))
    ≡ sets out at (clean_front s)
unfolding clean_front
front-next out s at h =
    let l = layout-fits s h in
    sym
    (sets-three out at 2 (20 * child_count s) (take 2 s) (clean_headers (child_count s) (headers s)) (take (2 + table_size s) (after_headers s)) (length-take-le 2 s (omega arith)) (length-headers (child_count s) (headers s) (omega (arith, length-drop 2 s))))

-- the same as the code meets it
pub front-walk : (s out o q r x hs y a : List ℕ) (at n m : ℕ) → layout_fault s ≡ 0 → o ≡ sets out at x → x ≡ take 2 s
    → q ≡ sets o (at + 2) (clean_headers n hs) → n ≡ child_count s → hs ≡ headers s → r ≡ sets q (at + 2 + 20 * n) y → y ≡ take (2 + m) a → m ≡ table_size s
    → a ≡ after_headers s → r ≡ sets out at (clean_front s)
front-walk s out o q r x hs y a at n m l e₁ e₂ e₃ e₄ e₅ e₆ e₇ e₈ e₉ =
    let first : o ≡ sets out at (take 2 s) = e₁ ∙ ap (sets out at) e₂ in
    let second : q ≡ sets (sets out at (take 2 s)) (at + 2) (clean_headers (child_count s) (headers s)) =
    e₃ ∙ ap₂ (λ (u : List ℕ) (k : ℕ). sets u (at + 2) (clean_headers k hs)) first e₄ ∙ ap (λ (u : List ℕ). sets (sets out at (take 2 s)) (at + 2) (clean_headers (child_count s) u)) e₅ in
    let third : y ≡ take (2 + table_size s) (after_headers s) = e₇ ∙ ap₂ (λ (k : ℕ) (u : List ℕ). take (2 + k) u) e₈ e₉ in
    e₆ ∙ ap₂ (λ (u : List ℕ) (k : ℕ). sets u (at + 2 + 20 * k) y) second e₄ ∙ ap (sets _ (at + 2 + 20 * child_count s)) third ∙ front-next out s at l

-- ---- a BIND

pub bind-deep : (levels : ℕ) (s : List ℕ) → levels ≡ 0 → clean_bind levels s ≡ s
unfolding clean_bind
bind-deep zero s e = refl
bind-deep (suc levels) s e = absurd (omega arith)

module _ (levels : ℕ) (s : List ℕ) (n : levels ≡ 0 → ⊥) where
  bind-step : clean_bind levels s ≡ cond (eqb (layout_fault s) 0) (clean_front s ++ clean_blocks (clean_bind (levels - 1)) (child_count s) (headers s) (data_of s)) s
  unfolding clean_bind
  bind-step = let e : levels ≡ suc (levels - 1) = omega arith in ap (λ (l : ℕ). clean_bind l s) e

  pub bind-unlaid : (layout_fault s ≡ 0 → ⊥) → clean_bind levels s ≡ s
  bind-unlaid h =
      bind-step
      ∙ ap (λ (b : Bool). cond b (clean_front s ++ clean_blocks (clean_bind (levels - 1)) (child_count s) (headers s) (data_of s)) s) (ne_eqb (layout_fault s) 0 h)

  -- the front is written, the data is left
  pub bind-laid : (out : List ℕ) (at : ℕ) → layout_fault s ≡ 0
      → sets out at (clean_bind levels s)
      ≡ sets (sets out at (clean_front s)) (at + (length s - length (data_of s))) (clean_blocks (clean_bind (levels - 1)) (child_count s) (headers s) (data_of s))
  bind-laid out at h =
      let ds = clean_blocks (clean_bind (levels - 1)) (child_count s) (headers s) (data_of s) in
      let e : length (clean_front s) ≡ length s - length (data_of s) = omega (arith, length_front s h) in
      ap (sets out at)
      (bind-step ∙ ap (λ (b : Bool). cond b (clean_front s ++ ds) s) (eq-eqb (layout_fault s) 0 h))
      ∙ sets-append out at (clean_front s) ds
      ∙ ap (λ (m : ℕ). sets (sets out at (clean_front s)) (at + m) ds) e

pub datas-end : (levels k : ℕ) (h d : List ℕ) → k ≤ 0 → clean_blocks (clean_bind levels) k h d ≡ []
unfolding clean_blocks
datas-end levels k h d p = walk_end (λ n. clean_blocks (clean_bind levels) n h d) k p

-- one child more, stored in two runs
pub datas-next : (f : List ℕ → List ℕ) → Keeps f → (out : List ℕ) (to k : ℕ) (h d : List ℕ) → 0 < k → size_of h ≤ length d
    → size_of h % 2 ≤ length (drop (size_of h) d)
    → sets out to (clean_blocks f k h d)
    ≡ sets (sets (sets out to (clean_as f (type_of h) (take (size_of h) d))) (to + size_of h) (part (size_of h % 2) (size_of h) d)) (to + size_of h + size_of h % 2) (clean_blocks f (k - 1) (drop 20 h) (after_block (size_of h) d))
unfolding clean_blocks
datas-next f keeps out to k h d p fits pad =
    let n = size_of h in
    ap (sets out to) (walk_step (λ m. clean_blocks f m h d) k p)
    ∙ sets-three out to n (n % 2) (clean_as f (type_of h) (take n d)) (part (n % 2) n d) (clean_blocks f (k - 1) (drop 20 h) (after_block n d)) (length-as f keeps (type_of h) (take n d) ∙ length-take-le n d fits) (length-take-le (n % 2) (drop n d) pad)

-- the same two as the loop meets them
pub bind-start : (levels : ℕ) (s out o hs ds : List ℕ) (at k : ℕ) → (levels ≡ 0 → ⊥) → layout_fault s ≡ 0 → o ≡ sets out at (clean_front s)
    → hs ≡ headers s → ds ≡ data_of s → k ≡ child_count s
    → sets out at (clean_bind levels s) ≡ sets o (at + (length s - length ds)) (clean_blocks (clean_bind (levels - 1)) k hs ds)
bind-start levels s out o hs ds at k n h e₁ e₂ e₃ e₄ =
    let f = clean_bind (levels - 1) in
    bind-laid levels s n out at h
    ∙ ap₂ (λ (u v : List ℕ). sets u (at + (length s - length v)) (clean_blocks f (child_count s) (headers s) v)) (sym e₁) (sym e₃)
    ∙ ap₂ (λ (j : ℕ) (u : List ℕ). sets o (at + (length s - length ds)) (clean_blocks f j u ds)) (sym e₄) (sym e₂)

module _ (l : ℕ) (whole out o q h d t x p hs ds : List ℕ) (at L k n : ℕ) (z : 0 < k) (ok : data_ok k h d ≡ true) (fits : length d ≤ L) (size : n ≡ size_of h) (child : x ≡ take n d) where
  datas-place : ds ≡ after_block n d → at + (L - length d) + size_of h + size_of h % 2 ≡ at + (L - length ds)
  datas-place e =
      let b = data-next k h d z ok in
      omega (
        arith,
        ap length (e ∙ ap (λ (m : ℕ). after_block m d) size),
        length-drop (size_of h % 2) (drop (size_of h) d),
        length-drop (size_of h) d,
        b.0,
        b.1,
        fits,
      )

  child-length : length x ≡ size_of h
  child-length = ap length (child ∙ ap (λ (m : ℕ). take m d) size) ∙ length-take-le (size_of h) d (data-next k h d z ok).0

  pub datas-walk : whole ≡ sets out (at + (L - length d)) (clean_blocks (clean_bind l) k h d) → o ≡ sets out (at + (L - length d)) (clean_bytes l t x) → t ≡ type_of h
      → q ≡ sets o (at + (L - length d) + length x) p → p ≡ part (n % 2) n d → hs ≡ drop 20 h → ds ≡ after_block n d
      → whole ≡ sets q (at + (L - length ds)) (clean_blocks (clean_bind l) (k - 1) hs ds)
  unfolding clean_bytes
  datas-walk w e₁ e₂ e₃ e₄ e₅ e₆ =
      let to = at + (L - length d) in
      let f = clean_bind l in
      let b = data-next k h d z ok in
      let m = size_of h in
      let first : o ≡ sets out to (clean_as f (type_of h) (take m d)) =
      e₁ ∙ ap₂ (λ (u v : List ℕ). sets out to (clean_as f u v)) e₂ (child ∙ ap (λ (j : ℕ). take j d) size) in
      let second : q ≡ sets (sets out to (clean_as f (type_of h) (take m d))) (to + m) (part (m % 2) m d) =
      e₃ ∙ ap₂ (λ (u : List ℕ) (j : ℕ). sets u (to + j) p) first child-length ∙ ap (sets _ (to + m)) (e₄ ∙ ap (λ (j : ℕ). part (j % 2) j d) size) in
      w
      ∙ datas-next f (length-bind l) out to k h d z b.0 b.1
      ∙ ap₂ (λ (u : List ℕ) (j : ℕ). sets u j (clean_blocks f (k - 1) (drop 20 h) (after_block m d))) (sym second) (datas-place e₆)
      ∙ ap₂ (λ (u v : List ℕ). sets q (at + (L - length ds)) (clean_blocks f (k - 1) u v)) (sym e₅) (sym (e₆ ∙ ap (λ (j : ℕ). after_block j d) size))

  -- what is left is as it should be, and is shorter
  pub left-ok : hs ≡ drop 20 h → ds ≡ after_block n d → data_ok (k - 1) hs ds ≡ true
  left-ok e₁ e₂ = ap₂ (data_ok (k - 1)) e₁ (e₂ ∙ ap (λ (j : ℕ). after_block j d) size) ∙ (data-next k h d z ok).2

  pub left-shorter : ds ≡ after_block n d → length ds ≤ length d
  left-shorter e = omega (arith, ap length e, length-drop (n % 2) (drop n d), length-drop n d)

  -- the child fits where it is written
  pub child_fits : length x ≤ length d
  child_fits = omega (arith, child-length, (data-next k h d z ok).0)

-- ---- by the type

pub as-bind : (levels : ℕ) (t s : List ℕ) → same t bind_text ≡ true → clean_bytes levels t s ≡ clean_bind levels s
unfolding clean_bytes
as-bind levels t s e = ap (λ (b : Bool). cond b (clean_bind levels s) s) e

pub as-other : (levels : ℕ) (t s : List ℕ) → same t bind_text ≡ false → clean_bytes levels t s ≡ s
unfolding clean_bytes
as-other levels t s e = ap (λ (b : Bool). cond b (clean_bind levels s) s) e

-- ---- with room, and without

pub put-fits : (levels : ℕ) (t s : List ℕ) (at : ℕ) (out : List ℕ) → at + length s ≤ length out → clean_put levels t s at out ≡ sets out at (clean_bytes (bounded_levels levels) t s)
unfolding clean_put
put-fits levels t s at out h = ap (λ (b : Bool). cond b (sets out at (clean_bytes (bounded_levels levels) t s)) out) (le-leb (at + length s) (length out) h)

pub put-short : (levels : ℕ) (t s : List ℕ) (at : ℕ) (out : List ℕ) → length out < at + length s → clean_put levels t s at out ≡ out
unfolding clean_put
put-short levels t s at out h = ap (λ (b : Bool). cond b (sets out at (clean_bytes (bounded_levels levels) t s)) out) (lt-leb (at + length s) (length out) h)

-- as a caller with room meets it
pub put-left : (levels : ℕ) (t s : List ℕ) (at : ℕ) (out left : List ℕ) → left ≡ clean_put levels t s at out → at + length s ≤ length out → left ≡ sets out at (clean_bytes (bounded_levels levels) t s)
put-left levels t s at out left e h = e ∙ put-fits levels t s at out h

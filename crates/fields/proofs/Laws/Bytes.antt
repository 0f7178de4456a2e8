-- Bytes, parts of a list, equal lists, lists brought to a length.
use Prim.Native.Nat.{ℕ, zero, suc, ◌+◌, ◌-◌, ◌<◌, ◌≤◌}
use mathlib.Core.Path.{◌≡◌, refl, sym, ap, ap₂, ◌∙◌, subst⁻¹}
use mathlib.Core.Bool.{Bool, true, false, ◌&&◌, false≢true, and-false}
use mathlib.Core.List.{List, [], ◌∷◌, ◌++◌}
use native.Mathlib.Omega.{arith}
use native.Mathlib.Nat.{zero-add, sub-zero, zero-sub, suc-sub-suc}
use native.Mathlib.Numerals.{add-one}
use lib.Dec.{eqb}
use lib.ListN.{length, get_or, take, drop, replicate, length-append, length-drop, length-take, length-replicate, drop_of_length-le}
use lib.Seq.{take-nil, take-take, take_all, drop-drop, drop-cons, get_or-drop, length-take-le}
use borrow.Author.Tests.{eqb-true, eq-eqb}
use Rattle.fields.specs.Bytes.{Bytes, part, same, sized}
use Rattle.fields.proofs.Laws.Checks.{and_split}
use Rattle.fields.proofs.Laws.Tests.{is_false}

-- ---- bytes

pub bytes-nil : Bytes []
bytes-nil i = omega arith

pub bytes-cons : (b : ℕ) (s : List ℕ) → b < 256 → Bytes s → Bytes (b ∷ s)
bytes-cons b s h hs zero = h
bytes-cons b s h hs (suc i) = hs i

pub bytes-tail : (b : ℕ) (s : List ℕ) → Bytes (b ∷ s) → Bytes s
bytes-tail b s h i = h (suc i)

pub bytes_drop : (n : ℕ) (s : List ℕ) → Bytes s → Bytes (drop n s)
bytes_drop n s h i = subst⁻¹ (λ (x : ℕ). x < 256) (get_or-drop n s i 0) (h (n + i))

pub bytes_take : (n : ℕ) (s : List ℕ) → Bytes s → Bytes (take n s)
bytes_take zero s h = bytes-nil
bytes_take (suc n) [] h = bytes-nil
bytes_take (suc n) (b ∷ s) h = bytes-cons b (take n s) (h 0) (bytes_take n s (bytes-tail b s h))

-- ---- parts

pub length_part : (n at : ℕ) (s : List ℕ) → at + n ≤ length s → length (part n at s) ≡ n
length_part n at s h = length-take-le n (drop at s) (omega (arith, length-drop at s))

pub bytes-part : (n at : ℕ) (s : List ℕ) → Bytes s → Bytes (part n at s)
bytes-part n at s h = bytes_take n (drop at s) (bytes_drop at s h)

drop-take : (a m : ℕ) (l : List ℕ) → drop a (take m l) ≡ take (m - a) (drop a l)
drop-take zero m l = ap (λ (j : ℕ). take j l) (sym (sub-zero m))
drop-take (suc a) zero l = ap {B = List ℕ} (λ (j : ℕ). take j (drop (suc a) l)) (sym (zero-sub (suc a)))
drop-take (suc a) (suc m) [] = sym (take-nil (suc m - suc a))
drop-take (suc a) (suc m) (x ∷ l) = drop-take a m l ∙ ap (λ (j : ℕ). take j (drop a l)) (sym (suc-sub-suc m a))

-- a part of a part
pub part-part : (k at n off : ℕ) (s : List ℕ) → at + k ≤ n → part k at (part n off s) ≡ part k (off + at) s
part-part k at n off s h =
    ap (take k) (drop-take at n (drop off s)) ∙ take-take k (n - at) (drop at (drop off s)) (omega arith) ∙ ap (take k) (drop-drop at off s)

-- what lies within the first bytes, of two streams that have them in common
pub front-part : (k n at : ℕ) (s t : List ℕ) → at + n ≤ k → take k s ≡ take k t → part n at s ≡ part n at t
front-part k n at s t h e = sym (cut s) ∙ ap (part n at) e ∙ cut t
  where
    cut : (l : List ℕ) → part n at (take k l) ≡ part n at l
    cut l = part-part n at k 0 l h ∙ ap (λ (j : ℕ). part n j l) (zero-add at)

-- the part from n on, as a slice of the code states it
pub rest_part : (n : ℕ) (s : List ℕ) → take (length s - n) (drop n s) ≡ drop n s
rest_part n s = take_all (length s - n) (drop n s) (omega (arith, length-drop n s))

-- ---- equal lists

pub same_at : (a b : List ℕ) (i : ℕ) → i < length a → i < length b
    → same (drop i a) (drop i b) ≡ (eqb (get_or a i 0) (get_or b i 0) && same (drop (i + 1) a) (drop (i + 1) b))
unfolding same
same_at a b i ha hb =
    ap₂ same (drop-cons a i 0 ha) (drop-cons b i 0 hb)
    ∙ ap (λ (n : ℕ). eqb (get_or a i 0) (get_or b i 0) && same (drop n a) (drop n b)) (sym (add-one i))

pub same_end : (a b : List ℕ) (i : ℕ) → length a ≤ i → length b ≤ i → same (drop i a) (drop i b) ≡ true
unfolding same
same_end a b i ha hb = ap₂ same (drop_of_length-le a ha) (drop_of_length-le b hb)

pub same-lengths : (a b : List ℕ) → (length a ≡ length b → ⊥) → same a b ≡ false
unfolding same
same-lengths [] [] h = absurd (h refl)
same-lengths [] (y ∷ ys) h = refl
same-lengths (x ∷ xs) [] h = refl
same-lengths (x ∷ xs) (y ∷ ys) h = ap (λ (t : Bool). eqb x y && t) (same-lengths xs ys (λ e. h (ap suc e))) ∙ and-false (eqb x y)

pub same-eq : (a b : List ℕ) → same a b ≡ true → a ≡ b
unfolding same
same-eq [] [] h = refl
same-eq [] (y ∷ ys) h = absurd (false≢true h)
same-eq (x ∷ xs) [] h = absurd (false≢true h)
same-eq (x ∷ xs) (y ∷ ys) h =
    let k = and_split (eqb x y) (same xs ys) h in
    ap₂ {C = List ℕ} (λ p q. p ∷ q) (eqb-true x y k.0) (same-eq xs ys k.1)

pub same_refl : (a : List ℕ) → same a a ≡ true
unfolding same
same_refl [] = refl
same_refl (x ∷ xs) = ap (λ (t : Bool). t && same xs xs) (eq-eqb x x refl) ∙ same_refl xs

pub same-differ : (a b : List ℕ) → same a b ≡ false → a ≡ b → ⊥
same-differ a b h e = false≢true (sym h ∙ ap (same a) (sym e) ∙ same_refl a)

pub not_same : (a b : List ℕ) → (a ≡ b → ⊥) → same a b ≡ false
not_same a b h = is_false (same a b) (λ e. h (same-eq a b e))

-- ---- lists brought to a length

pub length-sized : (w : ℕ) (s : List ℕ) → length (sized w s) ≡ w
unfolding sized
length-sized w s = simp (length-append, length-take, length-replicate) (omega arith)

pub sized-cons : (w b : ℕ) (s : List ℕ) → sized (suc w) (b ∷ s) ≡ b ∷ sized w s
unfolding sized
sized-cons w b s = ap (λ (n : ℕ). b ∷ (take w s ++ replicate n 0)) (suc-sub-suc w (length s))

pub sized-zero : (s : List ℕ) → sized 0 s ≡ []
unfolding sized
sized-zero s = ap (λ (n : ℕ). replicate n 0) (zero-sub (length s))

pub sized-nil : (w : ℕ) → sized w [] ≡ replicate w 0
unfolding sized
sized-nil w = ap₂ (λ (x y : List ℕ). x ++ y) (take-nil w) (ap (λ (n : ℕ). replicate n 0) (sub-zero w))

-- what fits stays whole
pub sized-fits : (w : ℕ) (s : List ℕ) → length s ≤ w → sized w s ≡ s ++ replicate (w - length s) 0
unfolding sized
sized-fits w s h = ap (λ (x : List ℕ). x ++ replicate (w - length s) 0) (take_all w s h)

-- Runs of bytes stored into a list (`sets` of lib.Seq). A store past the end changes nothing.
use Prim.Native.Nat.{ℕ, zero, suc, ◌+◌, ◌-◌, ◌≤◌, ◌<◌}
use mathlib.Core.Path.{◌≡◌, refl, sym, ap, ◌∙◌}
use mathlib.Core.List.{List, [], ◌∷◌, ◌++◌}
use native.Mathlib.Omega.{arith}
use native.Mathlib.Nat.{add-suc, suc-add, add-zero, zero-add, le_of_lt}
use native.Mathlib.Numerals.{add-one}
use native.Mathlib.Decide.{dec_le}
use lib.ListN.{replicate, length, get_or, take, drop, set, take-append-drop, drop_of_length-le}
use lib.Seq.{sets, length-sets, sets-eq, set_out, set_comm, set-set, get_or-set_other, take-suc, take-set-le, length-take-le}
use Rattle.fields.specs.Bytes.{sized}
use Rattle.fields.specs.Lists.{flat}
use Rattle.fields.specs.Layout.{join, Widths, stores, LayoutTheorems}
use Rattle.fields.proofs.Laws.Layout.{join-cut, cut-join}
use Rattle.fields.proofs.Laws.Lists.{flat-next}
use Rattle.fields.proofs.Laws.Bytes.{sized-zero, sized-cons, sized-nil}

-- a second run where the first ended
pub sets-append : (l : List ℕ) (i : ℕ) (xs ys : List ℕ) → sets l i (xs ++ ys) ≡ sets (sets l i xs) (i + length xs) ys
sets-append l i [] ys = ap (λ (k : ℕ). sets l k ys) (sym (add-zero i))
sets-append l i (x ∷ xs) ys =
    sets-append (set l i x) (suc i) xs ys
    ∙ ap (λ (k : ℕ). sets (sets (set l i x) (suc i) xs) k ys) (suc-add i (length xs) ∙ sym (add-suc i (length xs)))

pub sets-past : (l : List ℕ) (i : ℕ) (xs : List ℕ) → length l ≤ i → sets l i xs ≡ l
sets-past l i [] h = refl
sets-past l i (x ∷ xs) h =
    ap (λ (r : List ℕ). sets r (suc i) xs) (set_out l i x h) ∙ sets-past l (suc i) xs (omega arith)

-- a run from the front that fits: the bytes, and what stood behind them
pub sets-front : (l xs : List ℕ) → length xs ≤ length l → sets l 0 xs ≡ xs ++ drop (length xs) l
sets-front l xs h =
    let k : 0 + length xs ≤ length l = omega arith in
    sets-eq xs l 0 k ∙ ap (λ (n : ℕ). xs ++ drop n l) (zero-add (length xs))

-- fields, each stored where the one before it ends, are one run
pub stores-join : (out : List ℕ) (at : ℕ) (xs : List (List ℕ)) (ws : List ℕ) → Widths xs ws → stores out at xs ws ≡ sets out at (join xs)
stores-join out at [] ws h = refl
stores-join out at (x ∷ xs) [] h = absurd h
stores-join out at (x ∷ xs) (w ∷ ws) h =
    stores-join (sets out at x) (at + w) xs ws h.1
    ∙ ap (λ (n : ℕ). sets (sets out at x) (at + n) (join xs)) (sym h.0)
    ∙ sym (sets-append out at x (join xs))

-- the laws of layouts, as they are stated
pub layout-theorems : LayoutTheorems
layout-theorems =
    record {
      read_back = λ before fields widths after h. cut-join before fields widths after (length before) refl h;
      written_back = join-cut;
      stored = stores-join;
    }

-- ---- the loop that writes elements one after the other: one more

module _ {A : Type 0} (f : A → List ℕ) where
  pub sets-flat-next : (out : List ℕ) (at : ℕ) (xs : List A) (i : ℕ) (d : A) → i < length xs
      → sets (sets out at (flat f (take i xs))) (at + length (flat f (take i xs))) (f (get_or xs i d)) ≡ sets out at (flat f (take (i + 1) xs))
  sets-flat-next out at xs i d h =
      sym (sets-append out at (flat f (take i xs)) (f (get_or xs i d))) ∙ ap (sets out at) (sym (flat-next f xs i d h))

-- ---- the loop that copies

pub put_next : (l src : List ℕ) (at i : ℕ) → i < length src → set (sets l at (take i src)) (at + i) (get_or src i 0) ≡ sets l at (take (i + 1) src)
put_next l src at i h =
    sym (ap (λ (n : ℕ). sets l at (take n src)) (add-one i)
    ∙ ap (λ (r : List ℕ). sets l at r) (take-suc src i 0 h)
    ∙ sets-append l at (take i src) (get_or src i 0 ∷ [])
    ∙ ap (λ (n : ℕ). set (sets l at (take i src)) (at + n) (get_or src i 0)) (length-take-le i src (le_of_lt h)))

-- what lies past the end is left out
pub sets-take : (l src : List ℕ) (at : ℕ) → at ≤ length l → sets l at (take (length l - at) src) ≡ sets l at src
sets-take l src at h =
    sym (past (dec_le (length src) (length l - at)))
    ∙ sym (sets-append l at (take (length l - at) src) (drop (length l - at) src))
    ∙ ap (sets l at) (take-append-drop (length l - at) src)
  where
    past : Dec (length src ≤ length l - at) → sets (sets l at (take (length l - at) src)) (at + length (take (length l - at) src)) (drop (length l - at) src) ≡ sets l at (take (length l - at) src)
    past (yes p) =
        ap (sets (sets l at (take (length l - at) src)) (at + length (take (length l - at) src))) (drop_of_length-le src p)
    past (no p) =
        let n : length (take (length l - at) src) ≡ length l - at = length-take-le (length l - at) src (omega arith) in
        sets-past (sets l at (take (length l - at) src)) (at + length (take (length l - at) src)) (drop (length l - at) src) (rw length-sets (omega arith))

-- ---- a copy into an array of zeros

sets-cons : (x : ℕ) (l : List ℕ) (i : ℕ) (xs : List ℕ) → sets (x ∷ l) (suc i) xs ≡ x ∷ sets l i xs
sets-cons x l i [] = refl
sets-cons x l i (y ∷ ys) = sets-cons x (set l i y) (suc i) ys

pub sets-zeros : (w : ℕ) (s : List ℕ) → sets (replicate w 0) 0 s ≡ sized w s
sets-zeros zero s = sets-past [] 0 s (omega arith) ∙ sym (sized-zero s)
sets-zeros (suc w) [] = sym (sized-nil (suc w))
sets-zeros (suc w) (x ∷ s) =
    sets-cons x (replicate w 0) 0 s ∙ ap {B = List ℕ} (λ l. x ∷ l) (sets-zeros w s) ∙ sym (sized-cons w x s)

-- ---- places that a store leaves alone

pub sets-before : (l : List ℕ) (i : ℕ) (xs : List ℕ) (j : ℕ) → j < i → get_or (sets l i xs) j 0 ≡ get_or l j 0
sets-before l i [] j h = refl
sets-before l i (x ∷ xs) j h =
    sets-before (set l i x) (suc i) xs j (omega arith) ∙ get_or-set_other l i j x 0 (λ e. omega (arith, h, e))

pub sets-beyond : (l : List ℕ) (i : ℕ) (xs : List ℕ) (j : ℕ) → i + length xs ≤ j → get_or (sets l i xs) j 0 ≡ get_or l j 0
sets-beyond l i [] j h = refl
sets-beyond l i (x ∷ xs) j h =
    sets-beyond (set l i x) (suc i) xs j (omega (arith, h)) ∙ get_or-set_other l i j x 0 (λ e. omega (arith, h, e))

pub take-sets : (n : ℕ) (l : List ℕ) (i : ℕ) (xs : List ℕ) → n ≤ i → take n (sets l i xs) ≡ take n l
take-sets n l i [] h = refl
take-sets n l i (x ∷ xs) h = take-sets n (set l i x) (suc i) xs (omega arith) ∙ take-set-le n l i x h

-- ---- a store over a shorter one

set-sets : (l : List ℕ) (i : ℕ) (x : ℕ) (j : ℕ) (xs : List ℕ) → i < j → set (sets l j xs) i x ≡ sets (set l i x) j xs
set-sets l i x j [] h = refl
set-sets l i x j (y ∷ xs) h =
    set-sets (set l j y) i x (suc j) xs (omega arith) ∙ ap (λ (r : List ℕ). sets r (suc j) xs) (set_comm l j i y x (λ e. omega (arith, h, e)))

pub sets_over : (l : List ℕ) (i m n : ℕ) (s : List ℕ) → m ≤ n → sets (sets l i (take m s)) i (take n s) ≡ sets l i (take n s)
sets_over l i zero n s h = refl
sets_over l i (suc m) zero s h = absurd (let z : suc m ≤ 0 = h in omega arith)
sets_over l i (suc m) (suc n) [] h = refl
sets_over l i (suc m) (suc n) (x ∷ s) h =
    ap (λ (r : List ℕ). sets r (suc i) (take n s))
    (set-sets (set l i x) i x (suc i) (take m s) (omega arith) ∙ ap (λ (r : List ℕ). sets r (suc i) (take m s)) (set-set l i x x))
    ∙ sets_over (set l i x) (suc i) m n s (omega arith)

-- Layouts, for any number of fields.
use Prim.Native.Nat.{ℕ, suc, ◌+◌, ◌≤◌}
use mathlib.Core.Path.{◌≡◌, refl, sym, ap, ap₂, ◌∙◌}
use mathlib.Core.List.{List, [], ◌∷◌, ◌++◌, map, append_assoc}
use native.Mathlib.Omega.{arith}
use native.Mathlib.Nat.{add-zero}
use lib.ListN.{length, take, drop, length-append}
use lib.Seq.{take-add, drop-drop, take_at, drop_at}
use Rattle.fields.specs.Bytes.{Bytes, part}
use Rattle.fields.specs.Numbers.{be_val, be_at}
use Rattle.fields.specs.Layout.{total, join, cut, Widths, numbers_at, number_fields, NumbersFit}
use Rattle.fields.proofs.Laws.Numbers.{length-be_bytes, be_val-be_bytes, be_bytes-be_at}

pub length-join : (xs : List (List ℕ)) (ws : List ℕ) → Widths xs ws → length (join xs) ≡ total ws
length-join [] [] h = refl
length-join [] (w ∷ ws) h = absurd h
length-join (x ∷ xs) [] h = absurd h
length-join (x ∷ xs) (w ∷ ws) h = length-append x (join xs) ∙ omega (arith, h.0, length-join xs ws h.1)

-- the cut fields joined are the bytes that were cut
pub join-cut : (at : ℕ) (ws s : List ℕ) → join (cut at ws s) ≡ part (total ws) at s
join-cut at [] s = refl
join-cut at (w ∷ ws) s =
    ap (λ (r : List ℕ). part w at s ++ r) (join-cut (at + w) ws s ∙ ap (λ (r : List ℕ). take (total ws) r) (sym (drop-drop w at s)))
    ∙ sym (take-add w (total ws) (drop at s))

-- joined fields are cut into themselves
pub cut-join : (pre : List ℕ) (xs : List (List ℕ)) (ws rest : List ℕ) (at : ℕ) → length pre ≡ at → Widths xs ws → cut at ws (pre ++ (join xs ++ rest)) ≡ xs
cut-join pre [] [] rest at e h = refl
cut-join pre [] (w ∷ ws) rest at e h = absurd h
cut-join pre (x ∷ xs) [] rest at e h = absurd h
cut-join pre (x ∷ xs) (w ∷ ws) rest at e h =
    let head : part w at (pre ++ (join (x ∷ xs) ++ rest)) ≡ x =
    ap (λ (r : List ℕ). take w r) (drop_at pre (join (x ∷ xs) ++ rest) at e)
    ∙ ap (λ (r : List ℕ). take w r) (append_assoc x (join xs) rest)
    ∙ take_at x (join xs ++ rest) w h.0 in
    let same : pre ++ (join (x ∷ xs) ++ rest) ≡ (pre ++ x) ++ (join xs ++ rest) =
    ap (λ (r : List ℕ). pre ++ r) (append_assoc x (join xs) rest) ∙ sym (append_assoc pre x (join xs ++ rest)) in
    let tail : cut (at + w) ws (pre ++ (join (x ∷ xs) ++ rest)) ≡ xs =
    ap (λ (r : List ℕ). cut (at + w) ws r) same
    ∙ cut-join (pre ++ x) xs ws rest (at + w) (length-append pre x ∙ cc) h.1 in
    cc

-- the fields of what is left from a place on
pub cut-rest : (at off : ℕ) (ws s : List ℕ) → cut off ws (drop at s) ≡ cut (at + off) ws s
cut-rest at off [] s = refl
cut-rest at off (w ∷ ws) s =
    ap₂ {C = List (List ℕ)} (λ x xs. x ∷ xs) (ap (take w) (drop-drop off at s))
    (cut-rest at (off + w) ws s ∙ ap (λ (k : ℕ). cut k ws s) (let e : at + (off + w) ≡ at + off + w = omega arith in e))

-- ---- layouts of numbers alone

-- three numbers of n bytes, read in what is left from a place on
pub three-read : (n at : ℕ) (s : List ℕ) {t : List ℕ} {x y z : ℕ} → t ≡ drop at s → x ≡ be_at n 0 t → y ≡ be_at n (0 + n) t → z ≡ be_at n (0 + n + n) t
    → x ∷ y ∷ z ∷ [] ≡ numbers_at at (n ∷ n ∷ n ∷ []) s
three-read n at s e p q r =
    (λ i. p i ∷ q i ∷ r i ∷ [])
    ∙ ap (numbers_at 0 (n ∷ n ∷ n ∷ [])) e
    ∙ ap (map be_val) (cut-rest at 0 (n ∷ n ∷ n ∷ []) s ∙ ap (λ (k : ℕ). cut k (n ∷ n ∷ n ∷ []) s) (add-zero at))

-- as many numbers as widths
pub widths-numbers : (ws vs : List ℕ) → length ws ≡ length vs → Widths (number_fields ws vs) ws
widths-numbers [] vs h = tt
widths-numbers (w ∷ ws) [] h = absurd (let z : ◌≡◌ {A = ℕ} (suc (length ws)) 0 = h in omega arith)
widths-numbers (w ∷ ws) (v ∷ vs) h =
    let k : length ws ≡ length vs = let z : ◌≡◌ {A = ℕ} (suc (length ws)) (suc (length vs)) = h in omega arith in
    (length-be_bytes w v, widths-numbers ws vs k)

-- the numbers read, as fields, are the fields read
pub numbers-back : (at : ℕ) (ws s : List ℕ) → Bytes s → at + total ws ≤ length s → number_fields ws (numbers_at at ws s) ≡ cut at ws s
numbers-back at [] s b h = refl
numbers-back at (w ∷ ws) s b h =
    ap₂ {C = List (List ℕ)} (λ x xs. x ∷ xs) (be_bytes-be_at w at s b (omega arith)) (numbers-back (at + w) ws s b (omega arith))

-- the numbers read from numbers' fields are those numbers
pub numbers-front : (ws vs : List ℕ) → NumbersFit ws vs → map be_val (number_fields ws vs) ≡ vs
numbers-front [] [] h = refl
numbers-front [] (v ∷ vs) h = absurd h
numbers-front (w ∷ ws) [] h = absurd h
numbers-front (w ∷ ws) (v ∷ vs) h = ap₂ {C = List ℕ} (λ x xs. x ∷ xs) (be_val-be_bytes w v h.0) (numbers-front ws vs h.1)

-- Bytes stored behind those that are kept at a list's front.
use Prim.Native.Nat.{ℕ, zero, suc, ◌+◌, ◌-◌, ◌≤◌}
use mathlib.Core.Path.{◌≡◌, refl, sym, ap, ◌∙◌}
use mathlib.Core.List.{List, [], ◌∷◌, ◌++◌, append_assoc}
use native.Mathlib.Omega.{arith}
use lib.ListN.{length, take, drop, length-append, length-take, take-append-drop}
use lib.Seq.{sets, sets-eq, take-append-le, take-append-add, length-take-le}

-- ---- the front, after a store behind the k bytes kept there

pub take-kept : (k : ℕ) (l : List ℕ) → take (length (take k l)) l ≡ take k l
take-kept zero l = refl
take-kept (suc k) [] = refl
take-kept (suc k) (x ∷ l) = ap {B = List ℕ} (λ r. x ∷ r) (take-kept k l)

pub front-stored : (k : ℕ) (buf s : List ℕ) (to n : ℕ) → to ≤ length buf → n ≤ to → n ≤ length (take k buf ++ s)
    → take n (sets buf (length (take k buf)) (take (to - length (take k buf)) s)) ≡ take n (take k buf ++ s)
front-stored k buf s to n h l m =
    let t : List ℕ = take k buf in
    let xs : List ℕ = take (to - length t) s in
    let lt = length-take k buf in
    let lx = length-take (to - length t) s in
    let fits : length t + length xs ≤ length buf = omega (arith, lt, lx, h) in
    let enough : n ≤ length (t ++ xs) = omega (arith, length-append t xs, length-append t s, lx, l, m) in
    ap (take n) (sets-eq xs buf (length t) fits)
    ∙ ap (λ (r : List ℕ). take n ((r ++ xs) ++ drop (length t + length xs) buf)) (take-kept k buf)
    ∙ take-append-le n (t ++ xs) (drop (length t + length xs) buf) enough
    ∙ sym (take-append-le n (t ++ xs) (drop (to - length t) s) enough)
    ∙ ap (take n) (append_assoc t xs (drop (to - length t) s) ∙ ap (λ (r : List ℕ). t ++ r) (take-append-drop (to - length t) s))

-- the same, where k is within the list
pub front-put : (k : ℕ) (buf s : List ℕ) (to n : ℕ) → k ≤ length buf → to ≤ length buf → n ≤ to → n ≤ length (take k buf ++ s)
    → take n (sets buf k (take (to - k) s)) ≡ take n (take k buf ++ s)
front-put k buf s to n e h l m =
    ap (λ (j : ℕ). take n (sets buf j (take (to - j) s))) (sym (length-take-le k buf e)) ∙ front-stored k buf s to n h l m

-- ---- what a push takes, behind those kept

pub take_behind : (t s : List ℕ) (n : ℕ) → length t ≤ n → t ++ take (n - length t) s ≡ take n (t ++ s)
take_behind t s n h =
    let e : length t + (n - length t) ≡ n = omega arith in
    sym (ap (λ (k : ℕ). take k (t ++ s)) (sym e) ∙ take-append-add t s (n - length t))

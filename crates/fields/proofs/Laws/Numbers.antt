-- Big-endian numbers, once over the width.
use Prim.Native.Nat.{ℕ, zero, suc, ◌+◌, ◌-◌, ◌*◌, ◌/◌, ◌%◌, ◌^◌, ◌<◌, ◌≤◌}
use mathlib.Core.Path.{◌≡◌, refl, sym, ap, ◌∙◌}
use mathlib.Core.List.{List, [], ◌∷◌, ◌++◌}
use native.Mathlib.Omega.{arith}
use native.Mathlib.Nat.{pow-succ', one-le-pow, mod-eq_of_lt, mul_assoc, mul-add-div_right, add-mul-mod_self_right, add_comm, mod-one, mul_comm, pow-suc, lt_of_lt_of_le, pow-le-pow_right, zero-add, suc-add}
use native.Mathlib.Numerals.{add-one}
use lib.Arith.{digits_lt, digits_div, mod-mul}
use lib.Dec.{lit<}
use lib.ListN.{length, take, drop, get_or, length-append, length-take, drop_of_length-le}
use lib.Seq.{take-suc, take-nil, take_all}
use Rattle.fields.specs.Bytes.{Bytes, part}
use Rattle.fields.specs.Numbers.{be_val, be_bytes, be_at, BigEndian}
use Rattle.fields.proofs.Laws.Bytes.{bytes-tail, bytes-part, length_part}

pow_pos : (n : ℕ) → 0 < 256 ^ n
pow_pos n = one-le-pow n 256 (lit< tt)

pub more_lt : {a : ℕ} (i n : ℕ) → a < 256 ^ i → i ≤ n → a < 256 ^ n
more_lt i n h k = lt_of_lt_of_le h (pow-le-pow_right (lit< tt) {i = i} {j = n} k)

pub length-be_bytes : (n v : ℕ) → length (be_bytes n v) ≡ n
unfolding be_bytes
length-be_bytes zero v = refl
length-be_bytes (suc n) v = ap suc (length-be_bytes n v)

-- the last n of more digits
drop-be_bytes : (k n v : ℕ) → drop k (be_bytes (k + n) v) ≡ be_bytes n v
unfolding be_bytes
drop-be_bytes zero n v = ap (λ (m : ℕ). be_bytes m v) (zero-add n)
drop-be_bytes (suc k) n v = ap (λ (m : ℕ). drop (suc k) (be_bytes m v)) (suc-add k n) ∙ drop-be_bytes k n v

-- and as a part of an array of m bytes
pub last-be_bytes : (m n v : ℕ) → n ≤ m → take (m - (m - n)) (drop (m - n) (be_bytes m v)) ≡ be_bytes n v
last-be_bytes m n v h =
    let e : m ≡ m - n + n = omega arith in
    let k : length (be_bytes n v) ≤ m - (m - n) = omega (arith, length-be_bytes n v) in
    ap (λ (x : ℕ). take (m - (m - n)) (drop (m - n) (be_bytes x v))) e
    ∙ ap (take (m - (m - n))) (drop-be_bytes (m - n) n v)
    ∙ take_all (m - (m - n)) (be_bytes n v) k

be_val-lt : (l : List ℕ) → Bytes l → be_val l < 256 ^ length l
unfolding be_val
be_val-lt [] h = lit< tt
be_val-lt (b ∷ bs) h = rw pow-succ' (digits_lt (h 0) (be_val-lt bs (bytes-tail b bs h)))

-- ---- a number and its bytes, both ways

-- the last n digits do not depend on what stands above them
be_bytes-above : (n q v : ℕ) → be_bytes n (q * 256 ^ n + v) ≡ be_bytes n v
unfolding be_bytes
be_bytes-above zero q v = refl
be_bytes-above (suc n) q v =
    let e : q * 256 ^ suc n ≡ q * 256 * 256 ^ n = ap (λ (x : ℕ). q * x) (pow-succ' 256 n) ∙ sym (mul_assoc q 256 (256 ^ n)) in
    let d : (q * 256 ^ suc n + v) / 256 ^ n % 256 ≡ v / 256 ^ n % 256 =
    ap (λ (x : ℕ). (x + v) / 256 ^ n % 256) e
    ∙ ap (λ (x : ℕ). x % 256) (mul-add-div_right (pow_pos n) (q * 256) v ∙ add_comm (q * 256) (v / 256 ^ n))
    ∙ add-mul-mod_self_right (v / 256 ^ n) q 256 in
    let r : be_bytes n (q * 256 ^ suc n + v) ≡ be_bytes n v = ap (λ (x : ℕ). be_bytes n (x + v)) e ∙ be_bytes-above n (q * 256) v in
    cc

-- the bytes of the number that bytes spell are those bytes
be_bytes-be_val : (l : List ℕ) → Bytes l → be_bytes (length l) (be_val l) ≡ l
unfolding be_bytes be_val
be_bytes-be_val [] h = refl
be_bytes-be_val (b ∷ bs) h =
    let lt : be_val bs < 256 ^ length bs = be_val-lt bs (bytes-tail b bs h) in
    let d : (b * 256 ^ length bs + be_val bs) / 256 ^ length bs % 256 ≡ b =
    ap (λ (x : ℕ). x % 256) (digits_div b lt) ∙ mod-eq_of_lt (h 0) in
    let r : be_bytes (length bs) (b * 256 ^ length bs + be_val bs) ≡ bs =
    be_bytes-above (length bs) b (be_val bs) ∙ be_bytes-be_val bs (bytes-tail b bs h) in
    cc

be_val-mod : (n v : ℕ) → be_val (be_bytes n v) ≡ v % 256 ^ n
unfolding be_bytes be_val
be_val-mod zero v = sym (mod-one v)
be_val-mod (suc n) v =
    ap (λ (k : ℕ). (v / 256 ^ n % 256) * 256 ^ k + be_val (be_bytes n v)) (length-be_bytes n v)
    ∙ ap (λ (k : ℕ). (v / 256 ^ n % 256) * 256 ^ n + k) (be_val-mod n v)
    ∙ sym (mod-mul v (lit< tt) (pow_pos n))
    ∙ ap (λ (k : ℕ). v % k) (sym (pow-succ' 256 n))

-- the number that a number's bytes spell is that number, where it fits
pub be_val-be_bytes : (n v : ℕ) → v < 256 ^ n → be_val (be_bytes n v) ≡ v
be_val-be_bytes n v h = be_val-mod n v ∙ mod-eq_of_lt h

pub big_endian : BigEndian
big_endian = record { width = length-be_bytes; read_back = be_val-be_bytes; written_back = be_bytes-be_val }

-- ---- a number at a place

pub be_at-lt : (n at : ℕ) (s : List ℕ) → Bytes s → be_at n at s < 256 ^ n
be_at-lt n at s h =
    more_lt (length (part n at s)) n (be_val-lt (part n at s) (bytes-part n at s h)) (omega (arith, length-take n (drop at s)))

pub be_bytes-be_at : (n at : ℕ) (s : List ℕ) → Bytes s → at + n ≤ length s → be_bytes n (be_at n at s) ≡ part n at s
be_bytes-be_at n at s h k =
    ap (λ (m : ℕ). be_bytes m (be_at n at s)) (sym (length_part n at s k)) ∙ be_bytes-be_val (part n at s) (bytes-part n at s h)

-- nothing stands past the end
pub be_at-past : (n at : ℕ) (s : List ℕ) → length s ≤ at → be_at n at s ≡ 0
unfolding be_val
be_at-past n at s h = ap be_val (ap (take n) (drop_of_length-le s h) ∙ take-nil n)

-- ---- the loop that reads: one byte more at the end

be_val-snoc : (l : List ℕ) (b : ℕ) → be_val (l ++ (b ∷ [])) ≡ be_val l * 256 + b
unfolding be_val
be_val-snoc [] b = omega arith
be_val-snoc (x ∷ l) b =
    let n : length (l ++ (b ∷ [])) ≡ suc (length l) = length-append l (b ∷ []) ∙ add-one (length l) in
    let p : x * 256 ^ length (l ++ (b ∷ [])) ≡ x * 256 ^ length l * 256 =
    ap (λ (k : ℕ). x * 256 ^ k) n
    ∙ ap (λ (k : ℕ). x * k) (pow-succ' 256 (length l) ∙ mul_comm 256 (256 ^ length l))
    ∙ sym (mul_assoc x (256 ^ length l) 256) in
    omega (arith, be_val-snoc l b)

pub be_val-next : (t : List ℕ) (i : ℕ) → i < length t → be_val (take (i + 1) t) ≡ be_val (take i t) * 256 + get_or t i 0
be_val-next t i h =
    ap (λ (n : ℕ). be_val (take n t)) (add-one i) ∙ ap be_val (take-suc t i 0 h) ∙ be_val-snoc (take i t) (get_or t i 0)

pub next-lt : {a b : ℕ} (i : ℕ) → a < 256 ^ i → b < 256 → a * 256 + b < 256 ^ (i + 1)
next-lt i ha hb = rw (add-one, pow-suc) (digits_lt ha hb)

-- eight bytes fit 64 bits
pub next_fits : (a b i : ℕ) → i < 8 → a < 256 ^ i → b < 256 → a * 256 + b < 2 ^ 64
next_fits a b i h ha hb = more_lt (i + 1) 8 (next-lt i ha hb) (omega arith)

-- Laws of the CRC's definitions, for the proofs of this crate and of those that cite the CRC. In them r is a register, b a bit,
-- x a byte, u, v and bs lists of bits, and s and t bodies.
use Prim.Native.Nat.{ℕ, zero, suc, ◌+◌, ◌*◌, ◌/◌, ◌%◌, ◌^◌, ◌<◌}
use mathlib.Core.Path.{◌≡◌, refl, sym, ap, ◌∙◌}
use mathlib.Core.Bool.{Bool, true, false, cond}
use mathlib.Core.List.{List, [], ◌∷◌, ◌++◌, append_assoc}
use native.Mathlib.Nat.{mod-lt}
use native.Mathlib.Numerals.{add-one}
use native.Mathlib.Omega.{arith}
use lib.Bits.{bit_xor, xor_lt}
use lib.Dec.{eqb, lit<}
use lib.ListN.{length, take, get_or}
use lib.Pow.{pow_pos}
use lib.Seq.{take-suc}
use borrow.Author.Tests.{eq-eqb, ne_eqb}
use Rattle.crc64.specs.Crc.{polynomial, initial, bit_step, run, bit_at, bits_of, bits, byte_step, crc_of}

-- ---- one bit

pub step_same : (r b : ℕ) → r / 2 ^ 63 ≡ b → bit_step r b ≡ r * 2 % 2 ^ 64
unfolding bit_step
step_same r b e = rw (eq-eqb (r / 2 ^ 63) b e)

pub step_other : (r b : ℕ) → (r / 2 ^ 63 ≡ b → ⊥) → bit_step r b ≡ bit_xor (r * 2 % 2 ^ 64) polynomial
unfolding bit_step
step_other r b n = rw (ne_eqb (r / 2 ^ 63) b n)

-- ---- bounds: the register keeps to 64 bits

cond-lt : (t : Bool) {a b n : ℕ} → a < n → b < n → cond t a b < n
cond-lt true ha hb = ha
cond-lt false ha hb = hb

step-lt : (r b : ℕ) → bit_step r b < 2 ^ 64
unfolding bit_step
step-lt r b =
    let h : r * 2 % 2 ^ 64 < 2 ^ 64 = mod-lt (r * 2) (pow_pos 64) in
    cond-lt (eqb (r / 2 ^ 63) b) h (xor_lt 64 (r * 2 % 2 ^ 64) polynomial h (lit< tt))

run-lt : (bs : List ℕ) (r : ℕ) → r < 2 ^ 64 → run r bs < 2 ^ 64
unfolding run
run-lt [] r h = h
run-lt (b ∷ bs) r h = run-lt bs (bit_step r b) (step-lt r b)

pub crc-lt : (s : List ℕ) → crc_of s < 2 ^ 64
unfolding crc_of
crc-lt s = run-lt (bits s) initial (lit< tt)

-- ---- two parts, one after the other

run-append : (u v : List ℕ) (r : ℕ) → run r (u ++ v) ≡ run (run r u) v
unfolding run
run-append [] v r = refl
run-append (b ∷ u) v r = run-append u v (bit_step r b)

bits-append : (s t : List ℕ) → bits (s ++ t) ≡ bits s ++ bits t
unfolding bits
bits-append [] t = refl
bits-append (x ∷ s) t = ap (λ (l : List ℕ). bits_of x ++ l) (bits-append s t) ∙ sym (append_assoc (bits_of x) (bits s) (bits t))

crc-append : (s t : List ℕ) → crc_of (s ++ t) ≡ run (crc_of s) (bits t)
unfolding crc_of
crc-append s t = ap (run initial) (bits-append s t) ∙ run-append (bits s) (bits t) initial

-- ---- one byte more

crc-snoc : (s : List ℕ) (x : ℕ) → crc_of (s ++ (x ∷ [])) ≡ byte_step (crc_of s) x
unfolding byte_step bits bits_of
crc-snoc s x = crc-append s (x ∷ [])

pub crc-take-suc : (s : List ℕ) (i : ℕ) → i < length s → crc_of (take (i + 1) s) ≡ byte_step (crc_of (take i s)) (get_or s i 0)
crc-take-suc s i h = rw (add-one, take-suc s i 0) (crc-snoc (take i s) (get_or s i 0))

-- ---- one bit of a byte more

run-take-suc : (r : ℕ) (bs : List ℕ) (i : ℕ) → i < length bs → run r (take (i + 1) bs) ≡ bit_step (run r (take i bs)) (get_or bs i 0)
unfolding run
run-take-suc r bs i h = rw (add-one, take-suc bs i 0) (run-append (take i bs) (get_or bs i 0 ∷ []) r)

bit-at : (x i : ℕ) → i < 8 → get_or (bits_of x) i 0 ≡ bit_at x i
unfolding bits_of
bit-at x zero h = refl
bit-at x (suc zero) h = refl
bit-at x (suc (suc zero)) h = refl
bit-at x (suc (suc (suc zero))) h = refl
bit-at x (suc (suc (suc (suc zero)))) h = refl
bit-at x (suc (suc (suc (suc (suc zero))))) h = refl
bit-at x (suc (suc (suc (suc (suc (suc zero)))))) h = refl
bit-at x (suc (suc (suc (suc (suc (suc (suc zero))))))) h = refl
bit-at x (suc (suc (suc (suc (suc (suc (suc (suc i)))))))) h = omega arith

pub byte-take-suc : (r x i : ℕ) → i < 8 → run r (take (i + 1) (bits_of x)) ≡ bit_step (run r (take i (bits_of x))) (bit_at x i)
byte-take-suc r x i h = run-take-suc r (bits_of x) i (unfold bits_of in h) ∙ ap (bit_step (run r (take i (bits_of x)))) (bit-at x i h)

pub byte-take-all : (r x i : ℕ) → i ≡ 8 → run r (take i (bits_of x)) ≡ byte_step r x
unfolding byte_step bits_of
byte-take-all r x i e = rw e

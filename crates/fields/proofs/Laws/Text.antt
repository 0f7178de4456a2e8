-- Texts and text fields. Callers cite these laws and never open what a field's zeros are.
use Prim.Native.Nat.{ℕ, zero, suc, ◌+◌, ◌<◌, ◌≤◌}
use mathlib.Core.Path.{◌≡◌, refl, sym, ap, ap₂, ◌∙◌}
use mathlib.Core.Bool.{Bool, true, false, cond, ◌&&◌, and-false}
use mathlib.Core.List.{List, [], ◌∷◌, ◌++◌}
use native.Mathlib.Omega.{arith}
use native.Mathlib.Numerals.{add-one}
use lib.Dec.{eqb, ltb}
use lib.ListN.{length, get_or, take, drop, replicate, drop_of_length-le, length-take}
use lib.Seq.{drop-cons, take_all}
use borrow.Author.Tests.{eqb-true, eqb-false, leb-true, ltb-true, lt-ltb, le-ltb, ne_eqb, eq-eqb}
use Rattle.fields.specs.Bytes.{part, sized}
use Rattle.fields.specs.Lists.{all_of, Each}
use Rattle.fields.specs.Text.{text_limit, text_byte, is_text, Text, text_of, past_text, zero_byte, all_zero, text_ok, text_clean, field_ok, text_bytes, TextFields}
use Rattle.fields.proofs.Laws.Bytes.{length_part, length-sized, sized-zero, sized-cons, sized-nil}
use Rattle.fields.proofs.Laws.Checks.{and_split, and-join}
use Rattle.fields.proofs.Laws.Lists.{all-each, each_all}
use Rattle.fields.proofs.Laws.Tests.{by-test}

-- ---- texts

byte-text : (b : ℕ) → text_byte b ≡ true → (0 < b) × (b < 128)
byte-text b h = let k = and_split (ltb 0 b) (ltb b text_limit) h in (ltb-true 0 b k.0, ltb-true b text_limit k.1)

pub text-byte : (b : ℕ) → (0 < b) × (b < text_limit) → text_byte b ≡ true
text-byte b h = and-join (ltb 0 b) (ltb b text_limit) (lt-ltb 0 b h.0) (lt-ltb b text_limit h.1)

pub text-byte-low : (b : ℕ) → b ≡ 0 → text_byte b ≡ false
text-byte-low b h = ap (λ (x : Bool). x && ltb b text_limit) (le-ltb 0 b (omega arith))

pub text-byte-high : (b : ℕ) → text_limit ≤ b → text_byte b ≡ false
text-byte-high b h = ap (λ (x : Bool). ltb 0 b && x) (le-ltb b text_limit h) ∙ and-false (ltb 0 b)

pub is-text : (t : List ℕ) → is_text t ≡ true → Text t
unfolding is_text
is-text t h = all-each text_byte (λ b. (0 < b) × (b < 128)) byte-text t h

pub text-is : (t : List ℕ) → Text t → is_text t ≡ true
unfolding is_text
text-is t h = each_all text_byte (λ b. (0 < b) × (b < 128)) text-byte t h

-- ---- zeros

zero-byte : (b : ℕ) → zero_byte b ≡ true → b ≡ 0
zero-byte b h = omega (arith, leb-true b _ h)

zeros-each : (s : List ℕ) → Each (λ b. b ≡ 0) s → s ≡ replicate (length s) 0
zeros-each [] h = refl
zeros-each (b ∷ s) h = ap₂ {C = List ℕ} (λ x xs. x ∷ xs) h.0 (zeros-each s h.1)

pub zeros-all : (s : List ℕ) → all_zero s ≡ true → s ≡ replicate (length s) 0
unfolding all_zero
zeros-all s h = zeros-each s (all-each zero_byte (λ b. b ≡ 0) zero-byte s h)

pub all-zeros : (n : ℕ) → all_zero (replicate n 0) ≡ true
unfolding all_zero all_of
all-zeros zero = refl
all-zeros (suc n) = all-zeros n

-- ---- the text of bytes, and what stands past it

pub text-zero : (b : ℕ) (bs : List ℕ) → b ≡ 0 → (text_of (b ∷ bs) ≡ []) × (past_text (b ∷ bs) ≡ bs)
unfolding text_of past_text
text-zero b bs h = (simp (eq-eqb b 0 h), simp (eq-eqb b 0 h))

pub text-more : (b : ℕ) (bs : List ℕ) → (b ≡ 0 → ⊥) → (text_of (b ∷ bs) ≡ b ∷ text_of bs) × (past_text (b ∷ bs) ≡ past_text bs)
unfolding text_of past_text
text-more b bs h = (simp (ne_eqb b 0 h), simp (ne_eqb b 0 h))

-- they are a part of the bytes
pub text-take : (s : List ℕ) → text_of s ≡ take (length (text_of s)) s
unfolding text_of
text-take [] = refl
text-take (b ∷ bs) = go (eqb b 0) (text-take bs)
  where
    go : (t : Bool) → text_of bs ≡ take (length (text_of bs)) bs → cond t [] (b ∷ text_of bs) ≡ take (length (cond t [] (b ∷ text_of bs))) (b ∷ bs)
    go true e = refl
    go false e = ap (λ (l : List ℕ). b ∷ l) e

past-suc : (s : List ℕ) → past_text s ≡ drop (suc (length (text_of s))) s
unfolding text_of past_text
past-suc [] = refl
past-suc (b ∷ bs) = go (eqb b 0) (past-suc bs)
  where
    go : (t : Bool) → past_text bs ≡ drop (suc (length (text_of bs))) bs → cond t bs (past_text bs) ≡ drop (length (cond t [] (b ∷ text_of bs))) bs
    go true e = refl
    go false e = e

pub past-drop : (s : List ℕ) → past_text s ≡ drop (length (text_of s) + 1) s
past-drop s = past-suc s ∙ ap (λ (n : ℕ). drop n s) (sym (add-one (length (text_of s))))

pub length-text_of : (s : List ℕ) → length (text_of s) ≤ length s
length-text_of s = omega (arith, ap length (text-take s), length-take (length (text_of s)) s)

-- bytes with a 0 among them are a text, a 0 and the rest
pub text-split : (s : List ℕ) → length (text_of s) < length s → text_of s ++ (0 ∷ past_text s) ≡ s
text-split [] h = absurd (omega arith)
text-split (b ∷ bs) h =
    by-test (eqb b 0)
    (λ e.
    let z : b ≡ 0 = eqb-true b 0 e in
    let k = text-zero b bs z in
    ap₂ (λ (x y : List ℕ). x ++ (0 ∷ y)) k.0 k.1 ∙ ap (λ (x : ℕ). x ∷ bs) (sym z))
    (λ e.
    let k = text-more b bs (eqb-false b 0 e) in
    let l : length (text_of (b ∷ bs)) ≡ suc (length (text_of bs)) = ap length k.0 in
    ap₂ (λ (x y : List ℕ). x ++ (0 ∷ y)) k.0 k.1 ∙ ap {B = List ℕ} (λ r. b ∷ r) (text-split bs (omega arith)))

-- and a text, a 0 and a rest are read as that text and that rest
pub text-ended : (t rest : List ℕ) → Text t → (text_of (t ++ (0 ∷ rest)) ≡ t) × (past_text (t ++ (0 ∷ rest)) ≡ rest)
text-ended [] rest h = text-zero 0 rest refl
text-ended (b ∷ t) rest h =
    let k = text-more b (t ++ (0 ∷ rest)) (λ e. omega (arith, e, h.0.0)) in
    let ih = text-ended t rest h.1 in
    (k.0 ∙ ap {B = List ℕ} (λ r. b ∷ r) ih.0, k.1 ∙ ih.1)

-- the loop that looks for the first 0: how many bytes of text follow from place i on
pub text-end : (s : List ℕ) (i : ℕ) → length s ≤ i → length (text_of (drop i s)) ≡ 0
unfolding text_of
text-end s i h = ap (λ (l : List ℕ). length (text_of l)) (drop_of_length-le s h)

pub text-stop : (s : List ℕ) (i : ℕ) → i < length s → get_or s i 0 ≡ 0 → length (text_of (drop i s)) ≡ 0
text-stop s i h e =
    ap (λ (l : List ℕ). length (text_of l)) (drop-cons s i 0 h) ∙ ap length (text-zero (get_or s i 0) (drop (suc i) s) e).0

pub text-step : (s : List ℕ) (i : ℕ) → i < length s → (get_or s i 0 ≡ 0 → ⊥) → length (text_of (drop i s)) ≡ length (text_of (drop (i + 1) s)) + 1
text-step s i h e =
    ap (λ (l : List ℕ). length (text_of l)) (drop-cons s i 0 h)
    ∙ ap length (text-more (get_or s i 0) (drop (suc i) s) e).0
    ∙ sym (add-one (length (text_of (drop (suc i) s))))
    ∙ ap (λ (n : ℕ). length (text_of (drop n s)) + 1) (sym (add-one i))

-- ---- a text in a field

pub length-text_bytes : (w : ℕ) (t : List ℕ) → length (text_bytes w t) ≡ w
unfolding text_bytes
length-text_bytes w t = length-sized w t

-- a field as an array holds it
pub text_bytes-sized : (w : ℕ) (t : List ℕ) → text_bytes w t ≡ sized w t
unfolding text_bytes
text_bytes-sized w t = refl

-- ---- the first half of the rule: a field that passes it has a text

pub text-ok : (f : List ℕ) → text_ok f ≡ true → Text (text_of f)
unfolding text_ok
text-ok f h = is-text (text_of f) h

-- ---- the second half: a field that passes it is its text's

sized-text : (f : List ℕ) → all_zero (past_text f) ≡ true → sized (length f) (text_of f) ≡ f
sized-text [] h = sized-zero (text_of [])
sized-text (b ∷ bs) h =
    by-test (eqb b 0)
    (λ e.
    let z : b ≡ 0 = eqb-true b 0 e in
    let k = text-zero b bs z in
    let r : bs ≡ replicate (length bs) 0 = zeros-all bs (ap all_zero (sym k.1) ∙ h) in
    ap (sized (suc (length bs))) k.0 ∙ sized-nil (suc (length bs)) ∙ sym (ap₂ {C = List ℕ} (λ x xs. x ∷ xs) z r))
    (λ e.
    let k = text-more b bs (eqb-false b 0 e) in
    ap (sized (suc (length bs))) k.0
    ∙ sized-cons (length bs) b (text_of bs)
    ∙ ap {B = List ℕ} (λ l. b ∷ l) (sized-text bs (ap all_zero (sym k.1) ∙ h)))

clean-text : (f : List ℕ) → text_clean f ≡ true → text_bytes (length f) (text_of f) ≡ f
unfolding text_clean text_bytes
clean-text f h = sized-text f h

-- ---- a text's field passes both, and its text is that text

none : (text_of [] ≡ []) × (all_zero (past_text []) ≡ true)
unfolding text_of past_text all_zero all_of
none = (refl, refl)

sized_of : (w : ℕ) (t : List ℕ) → Text t → (text_of (sized w t) ≡ take w t) × (all_zero (past_text (sized w t)) ≡ true)
sized_of zero t h = (ap text_of (sized-zero t) ∙ none.0, ap (λ (l : List ℕ). all_zero (past_text l)) (sized-zero t) ∙ none.1)
sized_of (suc w) [] h =
    let z = text-zero 0 (replicate w 0) refl in
    (ap text_of (sized-nil (suc w)) ∙ z.0, ap (λ (l : List ℕ). all_zero (past_text l)) (sized-nil (suc w)) ∙ ap all_zero z.1 ∙ all-zeros w)
sized_of (suc w) (b ∷ t) h =
    let q : b ≡ 0 → ⊥ = λ e. omega (arith, e, h.0.0) in
    let k = text-more b (sized w t) q in
    let ih = sized_of w t h.1 in (
      ap text_of (sized-cons w b t) ∙ k.0 ∙ ap {B = List ℕ} (λ l. b ∷ l) ih.0,
      ap (λ (l : List ℕ). all_zero (past_text l)) (sized-cons w b t) ∙ ap all_zero k.1 ∙ ih.1,
    )

pub text_of-text_bytes : (w : ℕ) (t : List ℕ) → Text t → length t ≤ w → text_of (text_bytes w t) ≡ t
unfolding text_bytes
text_of-text_bytes w t h k = (sized_of w t h).0 ∙ take_all w t k

text_ok-text_bytes : (w : ℕ) (t : List ℕ) → Text t → length t ≤ w → text_ok (text_bytes w t) ≡ true
unfolding text_ok
text_ok-text_bytes w t h k = ap is_text (text_of-text_bytes w t h k) ∙ text-is t h

text_clean-text_bytes : (w : ℕ) (t : List ℕ) → Text t → text_clean (text_bytes w t) ≡ true
unfolding text_clean text_bytes
text_clean-text_bytes w t h = (sized_of w t h).1

-- ---- both halves

pub field-halves : (f : List ℕ) → field_ok f ≡ true → (text_ok f ≡ true) × (text_clean f ≡ true)
unfolding field_ok
field-halves f h = and_split (text_ok f) (text_clean f) h

pub field_ok-text_bytes : (w : ℕ) (t : List ℕ) → Text t → length t ≤ w → field_ok (text_bytes w t) ≡ true
unfolding field_ok
field_ok-text_bytes w t h k =
    and-join (text_ok (text_bytes w t)) (text_clean (text_bytes w t)) (text_ok-text_bytes w t h k) (text_clean-text_bytes w t h)

-- a field is a text field exactly when it holds some text, and it holds only one
pub text-fields : TextFields
text-fields =
    record {
      accepted = λ f h. let k = field-halves f h in record { text = text-ok f k.0; fits = length-text_of f; bytes = clean-text f k.1 };
      written = λ f t h. (
        ap field_ok (sym h.bytes) ∙ field_ok-text_bytes (length f) t h.text h.fits,
        ap text_of (sym h.bytes) ∙ text_of-text_bytes (length f) t h.text h.fits,
      );
    }

pub text-unique : (w : ℕ) (t u : List ℕ) → Text t → Text u → length t ≤ w → length u ≤ w → text_bytes w t ≡ text_bytes w u → t ≡ u
text-unique w t u ht hu kt ku e = sym (text_of-text_bytes w t ht kt) ∙ ap text_of e ∙ text_of-text_bytes w u hu ku

-- a text field at a place of a list
pub text_bytes-part : (w at : ℕ) (s : List ℕ) → at + w ≤ length s → text_clean (part w at s) ≡ true → text_bytes w (text_of (part w at s)) ≡ part w at s
text_bytes-part w at s h k =
    ap (λ (n : ℕ). text_bytes n (text_of (part w at s))) (sym (length_part w at s h)) ∙ clean-text (part w at s) k

pub length-text_of-part : (w at : ℕ) (s : List ℕ) → length (text_of (part w at s)) ≤ w
length-text_of-part w at s = omega (arith, length-text_of (part w at s), length-take w (drop at s))

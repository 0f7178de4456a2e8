-- Text fields as they are received.
use Prim.Native.Nat.{ℕ, zero, suc, ◌+◌, ◌-◌, ◌<◌, ◌≤◌}
use mathlib.Core.Path.{◌≡◌, refl, sym, ap, ap₂, ◌∙◌}
use mathlib.Core.Logic.{inl, inr, ⊎_elim}
use mathlib.Core.Bool.{Bool, true, false, cond, ◌&&◌}
use mathlib.Core.List.{List, [], ◌∷◌, ◌++◌, append-nil}
use native.Mathlib.Omega.{arith}
use native.Mathlib.Numerals.{add-one}
use lib.Dec.{eqb, leb}
use lib.ListN.{length, get_or, drop, replicate, length-append, length-drop, length-replicate, take-append-drop, drop_of_length-le}
use lib.Seq.{drop_at, drop-cons}
use borrow.Author.Tests.{eqb-true, ne_eqb, leb-true, leb-false}
use Rattle.fields.specs.Lists.{all_of}
use Rattle.fields.specs.Bytes.{Bytes, part, sized}
use Rattle.fields.specs.Text.{text_limit, text_byte, Text, is_text, text_of, past_text, all_zero, text_ok, text_clean, field_ok, text_bytes}
use Rattle.fields.specs.Received.{TextField}
use Rattle.fields.specs.Received.{rest_of, Rest, zeroed, field_bytes, Fills, field_read, ReceivedFields}
use Rattle.fields.proofs.Laws.Bytes.{sized-fits, length-sized, length_part, bytes_drop, bytes-part, bytes-nil, bytes-cons}
use Rattle.fields.proofs.Laws.Checks.{and_split, and-join}
use Rattle.fields.proofs.Laws.Tests.{by-test}
use Rattle.fields.proofs.Laws.Text.{text-byte, text-byte-high, text-is, text-ok, text-take, text-zero, text-more, length-text_of, text-ended, zeros-all, all-zeros}

pub field-parts : (f : List ℕ) → text_of f ++ rest_of f ≡ f
field-parts f = ap (λ (x : List ℕ). x ++ rest_of f) (text-take f) ∙ take-append-drop (length (text_of f)) f

pub rest-rest : (f : List ℕ) → Rest (rest_of f)
unfolding text_of
rest-rest [] = inl refl
rest-rest (b ∷ bs) =
    by-test (eqb b 0)
    (λ e. inr (bs, ap (λ (t : Bool). drop (length (cond t [] (b ∷ text_of bs))) (b ∷ bs)) e ∙ ap (λ (x : ℕ). x ∷ bs) (eqb-true b 0 e)))
    (λ e.
    let k : rest_of (b ∷ bs) ≡ rest_of bs = ap (λ (t : Bool). drop (length (cond t [] (b ∷ text_of bs))) (b ∷ bs)) e in
    ⊎_elim (λ h. inl (k ∙ h)) (λ h. inr (h.0, k ∙ h.1)) (rest-rest bs))

-- a text alone
text_alone : (t : List ℕ) → Text t → text_of t ≡ t
unfolding text_of
text_alone [] h = refl
text_alone (b ∷ t) h =
    ap (λ (x : Bool). cond x [] (b ∷ text_of t)) (ne_eqb b 0 (λ e. omega (arith, e, h.0.0))) ∙ ap {B = List ℕ} (λ l. b ∷ l) (text_alone t h.1)

past-alone : (t : List ℕ) → Text t → past_text t ≡ []
unfolding past_text
past-alone [] h = refl
past-alone (b ∷ t) h = ap (λ (x : Bool). cond x t (past_text t)) (ne_eqb b 0 (λ e. omega (arith, e, h.0.0))) ∙ past-alone t h.1

pub field-text : (t r : List ℕ) → Text t → Rest r → text_of (t ++ r) ≡ t
field-text t r h (inl e) = ap (λ (x : List ℕ). text_of (t ++ x)) e ∙ ap text_of (append-nil t) ∙ text_alone t h
field-text t r h (inr k) = ap (λ (x : List ℕ). text_of (t ++ x)) k.1 ∙ (text-ended t k.0 h).0

pub field-rest : (t r : List ℕ) → Text t → Rest r → rest_of (t ++ r) ≡ r
field-rest t r h k = ap (λ (x : List ℕ). drop (length x) (t ++ r)) (field-text t r h k) ∙ drop_at t r (length t) refl

field_past : (t x : List ℕ) → Text t → past_text (t ++ (0 ∷ x)) ≡ x
field_past t x h = (text-ended t x h).1

clean-nil : all_zero [] ≡ true
clean-nil = all-zeros 0

mark-to : (t r : List ℕ) → Text t → Rest r → text_clean (t ++ r) ≡ true → r ≡ zeroed r
unfolding text_clean
mark-to t r h (inl e) c = e ∙ sym (ap zeroed e)
mark-to t r h (inr k) c =
    let q : all_zero k.0 ≡ true = ap all_zero (sym (field_past t k.0 h) ∙ ap (λ (x : List ℕ). past_text (t ++ x)) (sym k.1)) ∙ c in
    k.1 ∙ ap {B = List ℕ} (λ l. 0 ∷ l) (zeros-all k.0 q) ∙ sym (ap zeroed k.1)

mark-from : (t r : List ℕ) → Text t → Rest r → r ≡ zeroed r → text_clean (t ++ r) ≡ true
unfolding text_clean
mark-from t r h (inl e) c =
    ap (λ (x : List ℕ). all_zero (past_text (t ++ x))) e ∙ ap (λ (x : List ℕ). all_zero (past_text x)) (append-nil t) ∙ ap all_zero (past-alone t h) ∙ clean-nil
mark-from t r h (inr k) c =
    let e : 0 ∷ k.0 ≡ 0 ∷ replicate (length k.0) 0 = sym k.1 ∙ c ∙ ap zeroed k.1 in
    let d : k.0 ≡ replicate (length k.0) 0 = ap (drop 1) e in
    ap (λ (x : List ℕ). all_zero (past_text (t ++ x))) k.1 ∙ ap all_zero (field_past t k.0 h) ∙ ap all_zero d ∙ all-zeros (length k.0)

cleaned-is : (w : ℕ) (t r : List ℕ) → Fills w t r → t ++ zeroed r ≡ text_bytes w t
unfolding text_bytes
cleaned-is w t r h =
    let e : length r ≡ w - length t = omega (arith, h.width) in
    let g : length t ≤ w = omega (arith, h.width) in
    ap (λ (n : ℕ). t ++ replicate n 0) e ∙ sym (sized-fits w t g)

pub ok-is : (t r : List ℕ) → Text t → Rest r → text_ok (t ++ r) ≡ true
unfolding text_ok
ok-is t r h k = ap is_text (field-text t r h k) ∙ text-is t h

pub bytes-zeros : (n : ℕ) → Bytes (replicate n 0)
bytes-zeros zero = bytes-nil
bytes-zeros (suc n) = bytes-cons 0 (replicate n 0) (omega arith) (bytes-zeros n)

-- zeros behind a text, as a writer puts them
zero_rest : (n : ℕ) → Rest (replicate n 0)
zero_rest zero = inl refl
zero_rest (suc n) = inr (replicate n 0, refl)

pub zero-fills : (w : ℕ) (t : List ℕ) → Text t → length t ≤ w → Fills w t (replicate (w - length t) 0)
zero-fills w t h l =
    record { text = h; rest = zero_rest (w - length t); bytes = bytes-zeros (w - length t); width = omega (arith, length-replicate {A = ℕ} (w - length t) 0) }

pub fills-zeros : (w : ℕ) (t r : List ℕ) → Fills w t r → replicate {A = ℕ} (w - length t) 0 ≡ zeroed r
fills-zeros w t r f = let e : w - length t ≡ length r = omega (arith, f.width) in ap (λ (n : ℕ). replicate n 0) e

-- ---- what the field reader says

-- by whether there is a text, its length, and whether zeros follow it
abbrev said : Bool → ℕ → Bool → TextField
said ok n zeros = record { ok = ok; len = cond ok n 0; clean = ok && zeros }

pub read-refused : (f : List ℕ) → text_ok f ≡ false → field_read f ≡ record { ok = false; len = 0; clean = false }
unfolding field_ok
read-refused f e = ap (λ (t : Bool). said t (length (text_of f)) (text_clean f)) e

pub read-len : (f : List ℕ) → text_ok f ≡ true → (field_read f).len ≡ length (text_of f)
read-len f e = ap (λ (t : Bool). cond t (length (text_of f)) 0) e

-- of the bytes from place i on, where only bytes of a text stand before it
abbrev pub field_from : ℕ → List ℕ → TextField
field_from i f = said (text_ok f) (i + length (text_of f)) (text_clean f)

by-text : (i : ℕ) (f t p : List ℕ) → (text_of f ≡ t) × (past_text f ≡ p) → field_from i f ≡ said (is_text t) (i + length t) (all_zero p)
unfolding text_ok text_clean
by-text i f t p k = λ j. said (is_text (k.0 j)) (i + length (k.0 j)) (all_zero (k.1 j))

pub from_start : (f : List ℕ) → field_read f ≡ field_from 0 f
unfolding field_ok
from_start f =
    let z : length (text_of f) ≡ 0 + length (text_of f) = omega arith in
    ap (λ (n : ℕ). said (text_ok f) n (text_clean f)) z

-- the end, a 0, a byte above 127, a byte of a text
pub from_end : (f : List ℕ) (i : ℕ) → length f ≤ i → field_from i (drop i f) ≡ record { ok = true; len = i; clean = true }
unfolding text_of past_text is_text all_zero all_of
from_end f i h =
    let z : i + 0 ≡ i = omega arith in
    ap (field_from i) (drop_of_length-le f h) ∙ by-text i [] [] [] (refl, refl) ∙ ap (λ (n : ℕ). said true n true) z

module _ (f : List ℕ) (i : ℕ) (h : i < length f) where
  pub from_zero : get_or f i 0 ≡ 0 → (mark : Bool) → mark ≡ all_zero (drop (i + 1) f) → field_from i (drop i f) ≡ record { ok = true; len = i; clean = mark }
  unfolding is_text all_of
  from_zero e mark m =
      let z : i + 0 ≡ i = omega arith in
      ap (field_from i) (drop-cons f i 0 h)
      ∙ by-text i _ [] (drop (suc i) f) (text-zero (get_or f i 0) (drop (suc i) f) e)
      ∙ ap₂ (said true) z (ap (λ (n : ℕ). all_zero (drop n f)) (sym (add-one i)) ∙ sym m)

  more : (get_or f i 0 ≡ 0 → ⊥) → field_from i (drop i f) ≡ said (text_byte (get_or f i 0) && text_ok (drop (suc i) f)) (i + suc (length (text_of (drop (suc i) f)))) (text_clean (drop (suc i) f))
  unfolding is_text all_of text_ok text_clean
  more e = ap (field_from i) (drop-cons f i 0 h) ∙ by-text i _ _ _ (text-more (get_or f i 0) (drop (suc i) f) e)

  pub from-high : text_limit ≤ get_or f i 0 → field_from i (drop i f) ≡ record { ok = false; len = 0; clean = false }
  from-high e =
      more (λ z. omega (arith, z))
      ∙ ap (λ (t : Bool). said (t && text_ok (drop (suc i) f)) (i + suc (length (text_of (drop (suc i) f)))) (text_clean (drop (suc i) f))) (text-byte-high (get_or f i 0) e)

  pub from_next : (0 < get_or f i 0) × (get_or f i 0 < text_limit) → field_from i (drop i f) ≡ field_from (i + 1) (drop (i + 1) f)
  from_next e =
      let n : i + suc (length (text_of (drop (suc i) f))) ≡ i + 1 + length (text_of (drop (suc i) f)) = omega arith in
      more (λ z. omega (arith, z, e.0))
      ∙ ap₂ (λ (t : Bool) (k : ℕ). said (t && text_ok (drop (suc i) f)) k (text_clean (drop (suc i) f))) (text-byte (get_or f i 0) e) n
      ∙ ap (λ (k : ℕ). field_from (i + 1) (drop k f)) (sym (add-one i))

-- ---- in a field of w bytes

pub length-field_bytes : (w : ℕ) (t r : List ℕ) → length (field_bytes w t r) ≡ w
unfolding field_bytes
length-field_bytes w t r = length-sized w (t ++ r)

exact : (w : ℕ) (s : List ℕ) → length s ≡ w → sized w s ≡ s
exact w s e =
    let k : w - length s ≡ 0 = omega (arith, e) in
    sized-fits w s (omega (arith, e)) ∙ ap (λ (n : ℕ). s ++ replicate n 0) k ∙ append-nil s

pub field_bytes-fills : (w : ℕ) (t r : List ℕ) → Fills w t r → field_bytes w t r ≡ t ++ r
unfolding field_bytes
field_bytes-fills w t r h = exact w (t ++ r) (length-append t r ∙ h.width)

pub text_ok-field : (w : ℕ) (t r : List ℕ) → Fills w t r → text_ok (field_bytes w t r) ≡ true
text_ok-field w t r h = ap text_ok (field_bytes-fills w t r h) ∙ ok-is t r h.text h.rest

pub text_of-field : (w : ℕ) (t r : List ℕ) → Fills w t r → text_of (field_bytes w t r) ≡ t
text_of-field w t r h = ap text_of (field_bytes-fills w t r h) ∙ field-text t r h.text h.rest

pub rest_of-field : (w : ℕ) (t r : List ℕ) → Fills w t r → rest_of (field_bytes w t r) ≡ r
rest_of-field w t r h = ap rest_of (field_bytes-fills w t r h) ∙ field-rest t r h.text h.rest

-- it is a field of rule 2.2 exactly if its rest is zeros
pub field_ok-to : (w : ℕ) (t r : List ℕ) → Fills w t r → field_ok (field_bytes w t r) ≡ true → r ≡ zeroed r
unfolding field_ok
field_ok-to w t r h e =
    let k = (and_split (text_ok (field_bytes w t r)) (text_clean (field_bytes w t r)) e).1 in
    mark-to t r h.text h.rest (ap text_clean (sym (field_bytes-fills w t r h)) ∙ k)

pub field_ok-from : (w : ℕ) (t r : List ℕ) → Fills w t r → r ≡ zeroed r → field_ok (field_bytes w t r) ≡ true
unfolding field_ok
field_ok-from w t r h e =
    and-join (text_ok (field_bytes w t r)) (text_clean (field_bytes w t r)) (text_ok-field w t r h) (ap text_clean (field_bytes-fills w t r h) ∙ mark-from t r h.text h.rest e)

-- zeros behind the text, as a writer puts them; no premise, since a longer text is cut off
pub field_bytes-zeros : (w : ℕ) (t : List ℕ) → field_bytes w t (replicate (w - length t) 0) ≡ text_bytes w t
unfolding field_bytes text_bytes
field_bytes-zeros w t =
    by-test (leb (length t) w)
    (λ e.
    let h = leb-true (length t) w e in
    let k = length-append t (replicate (w - length t) 0) in
    let n = length-replicate {A = ℕ} (w - length t) 0 in
    exact w (t ++ replicate (w - length t) 0) (omega arith) ∙ sym (sized-fits w t h))
    (λ e.
    let h = leb-false (length t) w e in
    let z : w - length t ≡ 0 = omega arith in
    ap (λ (n : ℕ). sized w (t ++ replicate n 0)) z ∙ ap (sized w) (append-nil t))

-- what stands from the first 0 on is zeros if what stands behind that 0 is
pub rest-clean : (f : List ℕ) → all_zero (rest_of f) ≡ text_clean f
unfolding text_clean text_of past_text all_zero all_of
rest-clean [] = refl
rest-clean (b ∷ bs) =
    by-test (eqb b 0)
    (λ e.
    ap (λ (t : Bool). all_zero (drop (length (cond t [] (b ∷ text_of bs))) (b ∷ bs))) e
    ∙ ap (λ (x : ℕ). all_zero (x ∷ bs)) (eqb-true b 0 e)
    ∙ sym (ap (λ (t : Bool). all_zero (cond t bs (past_text bs))) e))
    (λ e.
    ap (λ (t : Bool). all_zero (drop (length (cond t [] (b ∷ text_of bs))) (b ∷ bs))) e
    ∙ rest-clean bs
    ∙ sym (ap (λ (t : Bool). all_zero (cond t bs (past_text bs))) e))

-- of a field whose text is one, the mark is that of the rest
pub field_ok-rest : (f : List ℕ) → text_ok f ≡ true → field_ok f ≡ all_zero (rest_of f)
unfolding field_ok
field_ok-rest f e = ap (λ (t : Bool). t && text_clean f) e ∙ sym (rest-clean f)

pub zeros-to : (r : List ℕ) → all_zero r ≡ true → r ≡ zeroed r
zeros-to r e = zeros-all r e

pub zeros-from : (r : List ℕ) → r ≡ zeroed r → all_zero r ≡ true
zeros-from r e = ap all_zero e ∙ all-zeros (length r)

pub zeroed_rest : (r : List ℕ) → Rest r → Rest (zeroed r)
zeroed_rest r (inl e) = inl (ap zeroed e)
zeroed_rest r (inr k) = inr (replicate (length k.0) 0, ap zeroed k.1)

pub zeroed-fills : (w : ℕ) (t r : List ℕ) → Fills w t r → Fills w t (zeroed r)
zeroed-fills w t r h =
    record {
      text = h.text;
      rest = zeroed_rest r h.rest;
      bytes = bytes-zeros (length r);
      width = ap (λ (n : ℕ). length t + n) (length-replicate {A = ℕ} (length r) 0) ∙ h.width;
    }

pub zeroed-zeroed : (r : List ℕ) → zeroed r ≡ zeroed (zeroed r)
zeroed-zeroed r = ap (λ (n : ℕ). replicate n 0) (sym (length-replicate {A = ℕ} (length r) 0))

-- a field at a place of a list
pub fills-part : (w at : ℕ) (s : List ℕ) → Bytes s → at + w ≤ length s → text_ok (part w at s) ≡ true → Fills w (text_of (part w at s)) (rest_of (part w at s))
fills-part w at s b h k =
    let f = part w at s in
    record {
      text = text-ok f k;
      rest = rest-rest f;
      bytes = bytes_drop (length (text_of f)) f (bytes-part w at s b);
      width = omega (arith, length-drop (length (text_of f)) f, length-text_of f, length_part w at s h);
    }

pub field_bytes-part : (w at : ℕ) (s : List ℕ) → at + w ≤ length s → field_bytes w (text_of (part w at s)) (rest_of (part w at s)) ≡ part w at s
unfolding field_bytes
field_bytes-part w at s h = ap (sized w) (field-parts (part w at s)) ∙ exact w (part w at s) (length_part w at s h)

pub received-fields : ReceivedFields
unfolding field_ok
received-fields =
    record {
      accepted = λ f b h.
          record {
            text = text-ok f h;
            rest = rest-rest f;
            bytes = bytes_drop (length (text_of f)) f b;
            width = omega (arith, length-drop (length (text_of f)) f, length-text_of f);
          };
      parts = field-parts;
      passed = ok-is;
      only = λ t r h k. (field-text t r h k, field-rest t r h k);
      mark = λ t r h k. ((λ e. mark-to t r h k (and_split (text_ok (t ++ r)) (text_clean (t ++ r)) e).1), (λ e. and-join (text_ok (t ++ r)) (text_clean (t ++ r)) (ok-is t r h k) (mark-from t r h k e)));
      long = λ t r h k. read-len (t ++ r) (ok-is t r h k) ∙ ap length (field-text t r h k);
      refused = read-refused;
      cleaned = cleaned-is;
    }

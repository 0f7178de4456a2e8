-- A header depends on its 58 bytes alone.
use Prim.Native.Nat.{ℕ, ◌≤◌}
use mathlib.Core.Path.{◌≡◌, sym, ap, ap₂, ◌∙◌}
use mathlib.Core.Bool.{Bool, cond, ◌&&◌}
use mathlib.Core.List.{List}
use native.Mathlib.Omega.{arith}
use lib.Dec.{leb}
use lib.ListN.{length, take, length-take}
use borrow.Author.Tests.{leb-true, leb-false, le-leb, lt-leb}
use Rattle.fields.specs.Numbers.{be_val}
use Rattle.fields.specs.Text.{text_of, text_ok}
use Rattle.fields.specs.Received.{rest_of}
use Rattle.fields.specs.Checks.{or_else}
use Rattle.fields.proofs.Laws.Bytes.{front-part}
use Rattle.fields.proofs.Laws.Tests.{by-test, by_zero}
use Rattle.header.specs.Header.{body_limit}
use Rattle.header.specs.HeaderReader.{header_of, short_fault, texts_fault, limit_fault, header_fault}
use Rattle.header.proofs.Laws.Faults.{fault-texts, fault-limit}

module _ (s t : List ℕ) (e : take 58 s ≡ take 58 t) where
  pub header-front : header_of s ≡ header_of t
  unfolding header_of
  header-front = λ i.
      record {
        version = be_val (front-part 58 2 0 s t (omega arith) e i);
        type_text = text_of (front-part 58 12 2 s t (omega arith) e i);
        type_rest = rest_of (front-part 58 12 2 s t (omega arith) e i);
        device_name = text_of (front-part 58 20 14 s t (omega arith) e i);
        name_rest = rest_of (front-part 58 20 14 s t (omega arith) e i);
        time_stamp = be_val (front-part 58 8 34 s t (omega arith) e i);
        body_size = be_val (front-part 58 8 42 s t (omega arith) e i);
        crc = be_val (front-part 58 8 50 s t (omega arith) e i);
      }

  texts-front : texts_fault s ≡ texts_fault t
  unfolding texts_fault
  texts-front =
      ap₂ (λ (x y : List ℕ). cond (text_ok x && text_ok y) 0 2) (front-part 58 12 2 s t (omega arith) e) (front-part 58 20 14 s t (omega arith) e)

  short-front : short_fault s ≡ short_fault t
  unfolding short_fault
  short-front =
      let l = length-take 58 s in
      let m = length-take 58 t in
      let k = ap length e in
      ap (λ (b : Bool). cond b 0 1)
      (by-test (leb 58 (length t))
      (λ h. le-leb 58 (length s) (omega (arith, l, m, k, leb-true 58 (length t) h)) ∙ sym h)
      (λ h. lt-leb 58 (length s) (omega (arith, l, m, k, leb-false 58 (length t) h)) ∙ sym h))

  pub fault-front : header_fault s ≡ header_fault t
  unfolding header_fault
  fault-front = λ i. or_else (short-front i) (or_else (texts-front i) (limit_fault (header-front i).body_size))

-- a header that is whole is never answered 1
pub fault-whole : (s : List ℕ) → 58 ≤ length s → header_fault s ≡ 1 → ⊥
unfolding limit_fault
fault-whole s h e =
    by_zero (texts_fault s)
    (λ z.
    by-test (leb (header_of s).body_size body_limit)
    (λ t. let k = sym (fault-limit s h z ∙ ap (λ (b : Bool). cond b 0 3) t) ∙ e in omega (arith, k))
    (λ t. let k = sym (fault-limit s h z ∙ ap (λ (b : Bool). cond b 0 3) t) ∙ e in omega (arith, k)))
    (λ z. omega (arith, fault-texts s h z, e))

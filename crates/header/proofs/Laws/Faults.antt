-- Checks 1, 2 and 3: what passes each of them, and what is handed out then.
use Prim.Native.Nat.{ℕ, ◌<◌, ◌≤◌}
use mathlib.Core.Path.{◌≡◌, sym, ap, ap₂, ◌∙◌}
use mathlib.Core.Bool.{Bool, true, cond, ◌&&◌}
use mathlib.Core.List.{List}
use lib.Dec.{leb}
use lib.ListN.{length}
use borrow.Author.Tests.{leb-true, le-leb, lt-leb, eq-eqb, ne_eqb}
use Rattle.fields.specs.Bytes.{part}
use Rattle.fields.specs.Text.{is_text, text_ok, field_ok}
use Rattle.fields.specs.Received.{field_read}
use Rattle.fields.specs.Checks.{or_else}
use Rattle.fields.proofs.Laws.Checks.{cond-pass, cond-refused, and_split, and-join, zero-else, else-first, else-fault, else-second}
use Rattle.fields.proofs.Laws.Received.{read-len, field_ok-rest}
use Rattle.fields.proofs.Laws.Tests.{by_zero}
use Rattle.fields.proofs.Laws.Text.{is-text, text-is}
use Rattle.header.specs.declared.HeaderRead.{HeaderRead}
use Rattle.header.specs.Header.{WellTexts, body_limit}
use Rattle.header.specs.HeaderReader.{header_of, short_fault, texts_fault, limit_fault, header_fault, handed_with, handed, refused, header_read}
use Rattle.header.specs.HeaderWriter.{names_fault}

-- ---- check 1

short-pass : (s : List ℕ) → 58 ≤ length s → short_fault s ≡ 0
unfolding short_fault
short-pass s h = ap (λ (t : Bool). cond t 0 1) (le-leb 58 (length s) h)

short-refused : (s : List ℕ) → length s < 58 → short_fault s ≡ 1
unfolding short_fault
short-refused s h = ap (λ (t : Bool). cond t 0 1) (lt-leb 58 (length s) h)

short-passed : (s : List ℕ) → short_fault s ≡ 0 → 58 ≤ length s
unfolding short_fault
short-passed s h = leb-true 58 (length s) (cond-pass (leb 58 (length s)) 0 0 h).0

-- ---- check 2 of the reader

pub texts-pass : (s : List ℕ) → text_ok (part 12 2 s) ≡ true → text_ok (part 20 14 s) ≡ true → texts_fault s ≡ 0
unfolding texts_fault
texts-pass s t n = ap (λ (b : Bool). cond b 0 2) (and-join (text_ok (part 12 2 s)) (text_ok (part 20 14 s)) t n)

pub texts-passed : (s : List ℕ) → texts_fault s ≡ 0 → (text_ok (part 12 2 s) ≡ true) × (text_ok (part 20 14 s) ≡ true)
unfolding texts_fault
texts-passed s h =
    and_split (text_ok (part 12 2 s)) (text_ok (part 20 14 s)) (cond-pass (text_ok (part 12 2 s) && text_ok (part 20 14 s)) 1 0 h).0

pub texts-refused : (s : List ℕ) → (texts_fault s ≡ 0 → ⊥) → texts_fault s ≡ 2
unfolding texts_fault
texts-refused s h = cond-refused (text_ok (part 12 2 s) && text_ok (part 20 14 s)) 2 h

-- ---- check 2 of the writer

pub names-pass : (t n : List ℕ) → WellTexts t n → names_fault t n ≡ 0
unfolding names_fault
names-pass t n w =
    let texts = and-join (is_text t) (is_text n) (text-is t w.type-text) (text-is n w.name_text) in
    let rest = and-join (leb (length n) 20) (is_text t && is_text n) (le-leb (length n) 20 w.name_fits) texts in
    ap (λ (b : Bool). cond b 0 2) (and-join (leb (length t) 12) (leb (length n) 20 && (is_text t && is_text n)) (le-leb (length t) 12 w.type_fits) rest)

pub names-passed : (t n : List ℕ) → names_fault t n ≡ 0 → WellTexts t n
unfolding names_fault
names-passed t n h =
    let all = (cond-pass (leb (length t) 12 && (leb (length n) 20 && (is_text t && is_text n))) 1 0 h).0 in
    let k = and_split (leb (length t) 12) (leb (length n) 20 && (is_text t && is_text n)) all in
    let l = and_split (leb (length n) 20) (is_text t && is_text n) k.1 in
    let m = and_split (is_text t) (is_text n) l.1 in
    record {
      type-text = is-text t m.0;
      type_fits = leb-true (length t) 12 k.0;
      name_text = is-text n m.1;
      name_fits = leb-true (length n) 20 l.0;
    }

pub names-refused : (t n : List ℕ) → (names_fault t n ≡ 0 → ⊥) → names_fault t n ≡ 2
unfolding names_fault
names-refused t n h = cond-refused (leb (length t) 12 && (leb (length n) 20 && (is_text t && is_text n))) 2 h

pub names-broken : (t n : List ℕ) → (WellTexts t n → ⊥) → names_fault t n ≡ 2
names-broken t n h = names-refused t n (λ e. h (names-passed t n e))

-- ---- check 3

pub limit-pass : (n : ℕ) → n ≤ body_limit → limit_fault n ≡ 0
unfolding limit_fault
limit-pass n h = ap (λ (t : Bool). cond t 0 3) (le-leb n body_limit h)

pub limit-passed : (n : ℕ) → limit_fault n ≡ 0 → n ≤ body_limit
unfolding limit_fault
limit-passed n h = leb-true n body_limit (cond-pass (leb n body_limit) 2 0 h).0

pub limit-refused : (n : ℕ) → body_limit < n → limit_fault n ≡ 3
unfolding limit_fault
limit-refused n h = ap (λ (t : Bool). cond t 0 3) (lt-leb n body_limit h)

-- ---- the three in order

-- what a stream whose front is accepted as a header satisfies
pub record Passed (s : List ℕ) : Type 0 where
  pub long : 58 ≤ length s
  pub type-ok : text_ok (part 12 2 s) ≡ true
  pub name-ok : text_ok (part 20 14 s) ≡ true
  pub size-limit : (header_of s).body_size ≤ body_limit

pub fault-passed : (s : List ℕ) → header_fault s ≡ 0 → Passed s
unfolding header_fault
fault-passed s h =
    let k = zero-else (short_fault s) (or_else (texts_fault s) (limit_fault (header_of s).body_size)) h in
    let l = zero-else (texts_fault s) (limit_fault (header_of s).body_size) k.1 in
    let t = texts-passed s l.0 in
    record {
      long = short-passed s k.0;
      type-ok = t.0;
      name-ok = t.1;
      size-limit = limit-passed (header_of s).body_size l.1;
    }

-- the fault of a stream that is too short, and of one that is long enough
pub fault-short : (s : List ℕ) → length s < 58 → header_fault s ≡ 1
unfolding header_fault
fault-short s h = else-fault (short_fault s) _ 0 (short-refused s h)

pub fault-long : (s : List ℕ) → 58 ≤ length s → header_fault s ≡ or_else (texts_fault s) (limit_fault (header_of s).body_size)
unfolding header_fault
fault-long s h = else-second (short_fault s) _ (short-pass s h)

-- then 2 comes before 3
pub fault-texts : (s : List ℕ) → 58 ≤ length s → (texts_fault s ≡ 0 → ⊥) → header_fault s ≡ 2
fault-texts s h k = fault-long s h ∙ else-first (texts_fault s) (limit_fault (header_of s).body_size) k ∙ texts-refused s k

pub fault-limit : (s : List ℕ) → 58 ≤ length s → texts_fault s ≡ 0 → header_fault s ≡ limit_fault (header_of s).body_size
fault-limit s h k = fault-long s h ∙ else-second (texts_fault s) (limit_fault (header_of s).body_size) k

-- ---- what the reader hands out

pub header-read-passed : (s : List ℕ) → header_fault s ≡ 0 → header_read s ≡ handed (header_of s)
unfolding header_read
header-read-passed s h =
    ap (λ (t : Bool). cond t (handed (header_of s)) (refused (header_fault s))) (eq-eqb (header_fault s) 0 h)

pub header-read-refused : (s : List ℕ) → (header_fault s ≡ 0 → ⊥) → header_read s ≡ refused (header_fault s)
unfolding header_read
header-read-refused s h =
    ap (λ (t : Bool). cond t (handed (header_of s)) (refused (header_fault s))) (ne_eqb (header_fault s) 0 h)

-- a refusal's answer is its number
pub refused-with : (s : List ℕ) (n : ℕ) → header_fault s ≡ n → (n ≡ 0 → ⊥) → header_read s ≡ refused n
refused-with s n e k = header-read-refused s (λ z. k (sym e ∙ z)) ∙ ap refused e

-- the number in its answer is the fault's
pub header-read-number : (s : List ℕ) → (header_read s).number ≡ header_fault s
header-read-number s =
    by_zero (header_fault s)
    (λ e. ap (λ (r : HeaderRead). r.number) (header-read-passed s e) ∙ sym e)
    (λ z. ap (λ (r : HeaderRead). r.number) (header-read-refused s z))

-- of an accepted header the lengths are those of the texts, and the mark is that of the two rests
pub read-handed : (s : List ℕ) → header_fault s ≡ 0 → {t n : ℕ} {mark : Bool} → t ≡ (field_read (part 12 2 s)).len → n ≡ (field_read (part 20 14 s)).len
    → mark ≡ (field_ok (part 12 2 s) && field_ok (part 20 14 s)) → handed_with (header_of s) t n mark ≡ header_read s
unfolding header_of
read-handed s h t n mark =
    let p = fault-passed s h in
    let type = t ∙ read-len (part 12 2 s) p.type-ok in
    let name = n ∙ read-len (part 20 14 s) p.name-ok in
    let clean = mark ∙ ap₂ ◌&&◌ (field_ok-rest (part 12 2 s) p.type-ok) (field_ok-rest (part 20 14 s) p.name-ok) in
    (λ i. handed_with (header_of s) (type i) (name i) (clean i)) ∙ sym (header-read-passed s h)

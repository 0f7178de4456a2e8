-- What is stated of POSITION, from the laws of words.
use Prim.Native.Nat.{ℕ, ◌*◌, ◌/◌, ◌-◌, ◌≤◌}
use mathlib.Core.Path.{◌≡◌, refl, sym, ap, ◌∙◌}
use mathlib.Core.List.{List, [], ◌∷◌, ◌++◌}
use native.Mathlib.Omega.{arith}
use lib.Dec.{eqb}
use lib.ListN.{length, take, drop, replicate}
use borrow.Author.Tests.{eqb-true}
use Rattle.fields.specs.Bytes.{Bytes}
use Rattle.fields.specs.Numbers.{be_at}
use Rattle.fields.specs.Layout.{numbers_at}
use Rattle.fields.specs.Writers.{writer_fault}
use Rattle.fields.specs.Answer.{Wrote}
use Rattle.fields.proofs.Laws.Numbers.{be_at-past}
use Rattle.fields.proofs.Laws.Tests.{cond_cases}
use Rattle.fields.proofs.Laws.Writers.{writer-passes, out-front, writer-theorems}
use Rattle.pose.specs.Words.{word_bytes}
use Rattle.pose.specs.Position.{PositionCount, three, six, seven, WellPosition}
use Rattle.pose.specs.PositionReader.{PositionRead, count_fault, position_fault, position_at, position_of, position_words}
use Rattle.pose.specs.PositionWriter.{position_written, position_out}
use Rattle.pose.specs.PositionTheorems.{PositionTheorems}
use Rattle.pose.proofs.Laws.{length-word_bytes, words-read, words_back, count-passed, count-fault, words-in, position-count, position-well, position-format, position-read, position-refused}

-- the words that there are, out of the seven places
front : (k : ℕ) (c : List ℕ) → PositionCount k → take k (position_at c) ≡ numbers_at 0 (replicate k 4) c
front k c three = refl
front k c six = refl
front k c seven = refl

-- and nothing in the others
behind : (k : ℕ) (c : List ℕ) → PositionCount k → length c ≡ 4 * k → drop k (position_at c) ≡ replicate (7 - k) 0
behind k c three e =
    let z : (at : ℕ) → 12 ≤ at → be_at 4 at c ≡ 0 = λ at h. be_at-past 4 at c (omega arith) in
    λ i. z 12 (omega arith) i ∷ z 16 (omega arith) i ∷ z 20 (omega arith) i ∷ z 24 (omega arith) i ∷ []
behind k c six e = λ i. be_at-past 4 24 c (omega arith) i ∷ []
behind k c seven e = refl

words_of : (c : List ℕ) → position_fault c ≡ 0 → position_words (position_of c) ≡ numbers_at 0 (replicate (length c / 4) 4) c
words_of c h = ap position_words (position-read c h) ∙ front (length c / 4) c (position-count c h).1

answered : (c : List ℕ) → (position_of c).number ≡ position_fault c
unfolding position_of
answered c =
    cond_cases (λ (r : PositionRead). r.number ≡ position_fault c) (eqb (position_fault c) 0) _ _
    (λ e. sym (eqb-true (position_fault c) 0 e))
    (λ e. refl)

read : (ws : List ℕ) → WellPosition ws → position_words (position_of (word_bytes ws)) ≡ ws
read ws h =
    words_of (word_bytes ws) (position-well ws h)
    ∙ words-read (length (word_bytes ws) / 4) ws (sym (words-in ws)) h.words

handed : (c : List ℕ) → Bytes c → position_fault c ≡ 0 → word_bytes (position_words (position_of c)) ≡ c
handed c b h = ap word_bytes (words_of c h) ∙ words_back (length c / 4) c b (position-count c h).0

zeros : (c : List ℕ) → drop (position_of c).count (position_of c).words ≡ replicate (7 - (position_of c).count) 0
unfolding position_of
zeros c =
    cond_cases (λ (r : PositionRead). drop r.count r.words ≡ replicate (7 - r.count) 0) (eqb (position_fault c) 0) _ _
    (λ e. let k = position-count c (eqb-true (position_fault c) 0 e) in behind (length c / 4) c k.1 k.0)
    (λ e. refl)

-- ---- the writer

written_back : (c out : List ℕ) → Bytes c → position_fault c ≡ 0 → length c ≤ length out
    → (position_written (position_words (position_of c)) (length out) ≡ Wrote (length c))
    × (position_out (position_words (position_of c)) out ≡ c ++ drop (length c) out)
written_back c out b h k =
    let ws = position_words (position_of c) in
    let w = writer-theorems (count_fault (length ws)) (word_bytes ws) in
    let e : word_bytes ws ≡ c = handed c b h in
    let f : count_fault (length ws) ≡ 0 = sym (count-fault ws) ∙ ap position_fault e ∙ h in
    let n = ap length e in (
      w.wrote (length out) f (omega (arith, n)) ∙ ap Wrote n,
      w.buffer out f (omega (arith, n)) ∙ ap (λ (s : List ℕ). s ++ drop (length s) out) e,
    )

-- what is written is the words' bytes
written : (ws out : List ℕ) → WellPosition ws → 4 * length ws ≤ length out → take (4 * length ws) (position_out ws out) ≡ word_bytes ws
written ws out h k =
    let f = count_fault (length ws) in
    let n = length-word_bytes ws in
    out-front f (word_bytes ws) out (4 * length ws) n (writer-passes f (word_bytes ws) (length out) (count-passed (length ws) h.count) (omega (arith, n, k)))

pub position-theorems : PositionTheorems
position-theorems =
    record {
      two_way = position-format;
      answered = answered;
      read = read;
      handed = handed;
      zeros = zeros;
      no_words = position-refused;
      written_back = written_back;
      read_back = λ ws out h k. (
        ap position_fault (written ws out h k) ∙ position-well ws h,
        ap (λ (c : List ℕ). position_words (position_of c)) (written ws out h k) ∙ read ws h,
      );
      number = λ ws room.
          (writer-theorems (count_fault (length ws)) (word_bytes ws)).number room ∙ ap (λ (n : ℕ). writer_fault n (word_bytes ws) room) (sym (count-fault ws));
      promised = λ ws out left answer p. (p.written, p.buffer);
      untouched = λ ws out. (writer-theorems (count_fault (length ws)) (word_bytes ws)).untouched out;
    }

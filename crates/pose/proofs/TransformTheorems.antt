-- What is stated of TRANSFORM, from the laws of words.
use Prim.Native.Nat.{ℕ, ◌≤◌}
use mathlib.Core.Path.{◌≡◌, refl, sym, ap, ap₂, ◌∙◌}
use mathlib.Core.List.{List, [], ◌∷◌, ◌++◌, append-nil}
use native.Mathlib.Omega.{arith}
use lib.Dec.{eqb}
use lib.ListN.{length, take, drop, get_or, length-append}
use borrow.Author.Tests.{eqb-true}
use Rattle.fields.specs.Bytes.{Bytes, part}
use Rattle.fields.specs.Layout.{join, cut}
use Rattle.fields.specs.Answer.{Wrote, room_fault}
use Rattle.fields.proofs.Laws.Layout.{cut-join}
use Rattle.fields.proofs.Laws.Checks.{else-second}
use Rattle.fields.proofs.Laws.Tests.{cond_cases}
use Rattle.fields.proofs.Laws.Writers.{writer-passes, out-front, writer-theorems}
use Rattle.pose.specs.declared.Transform.{Transform}
use Rattle.pose.specs.Words.{word_bytes}
use Rattle.pose.specs.Transform.{WellTransform, transform_words, transform_bytes}
use Rattle.pose.specs.TransformReader.{TransformRead, transform_fault, transform_at, transform_of}
use Rattle.pose.specs.TransformWriter.{transform_written, transform_out}
use Rattle.pose.specs.TransformTheorems.{Columns, TransformTheorems}
use Rattle.pose.proofs.Laws.{length-word_bytes, words-read, words_back, words_append, transform-length, transform-well, transform-format, transform-read, transform-refused}

answered : (c : List ℕ) → (transform_of c).number ≡ transform_fault c
unfolding transform_of
answered c =
    cond_cases (λ (r : TransformRead). r.number ≡ transform_fault c) (eqb (transform_fault c) 0) _ _
    (λ e. sym (eqb-true (transform_fault c) 0 e))
    (λ e. refl)

read : (ws : List ℕ) → WellTransform ws → transform_words (transform_of (word_bytes ws)).transform ≡ ws
read ws h =
    ap (λ (r : TransformRead). transform_words r.transform) (transform-read (word_bytes ws) (transform-well ws h))
    ∙ words-read 12 ws h.count h.words

handed : (c : List ℕ) → Bytes c → transform_fault c ≡ 0 → word_bytes (transform_words (transform_of c).transform) ≡ c
handed c b h =
    ap (λ (r : TransformRead). word_bytes (transform_words r.transform)) (transform-read c h)
    ∙ words_back 12 c b (transform-length c h)

-- ---- what is written, read again

well-columns : (t : Transform) → Columns t → WellTransform (transform_words t)
well-columns t h =
    record {
      count =
          length-append t.column1 (t.column2 ++ (t.column3 ++ t.translation))
          ∙ omega (
            arith,
            length-append t.column2 (t.column3 ++ t.translation),
            length-append t.column3 t.translation,
            h.column1.count,
            h.column2.count,
            h.column3.count,
            h.translation.count,
          );
      words =
          words_append t.column1 (t.column2 ++ (t.column3 ++ t.translation)) h.column1.words
          (words_append t.column2 (t.column3 ++ t.translation) h.column2.words
          (words_append t.column3 t.translation h.column3.words h.translation.words));
    }

columns-cut : (t : Transform) → Columns t → cut 0 (3 ∷ 3 ∷ 3 ∷ 3 ∷ []) (transform_words t) ≡ t.column1 ∷ t.column2 ∷ t.column3 ∷ t.translation ∷ []
columns-cut t h =
    let xs : List (List ℕ) = t.column1 ∷ t.column2 ∷ t.column3 ∷ t.translation ∷ [] in
    let e : transform_words t ≡ join xs ++ [] =
    ap (λ (l : List ℕ). t.column1 ++ (t.column2 ++ (t.column3 ++ l))) (sym (append-nil t.translation))
    ∙ sym (append-nil (join xs)) in
    ap (cut 0 (3 ∷ 3 ∷ 3 ∷ 3 ∷ [])) e
    ∙ cut-join [] xs (3 ∷ 3 ∷ 3 ∷ 3 ∷ []) [] 0 refl (h.column1.count, (h.column2.count, (h.column3.count, (h.translation.count, tt))))

-- the transform that has these words
abbrev with_words : List ℕ → Transform
with_words ws = record { column1 = part 3 0 ws; column2 = part 3 3 ws; column3 = part 3 6 ws; translation = part 3 9 ws }

columns-back : (t : Transform) → Columns t → with_words (transform_words t) ≡ t
columns-back t h =
    ap (λ (l : List (List ℕ)). record { column1 = get_or l 0 []; column2 = get_or l 1 []; column3 = get_or l 2 []; translation = get_or l 3 [] })
    (columns-cut t h)

width : (t : Transform) → Columns t → length (transform_bytes t) ≡ 48
width t h = omega (arith, length-word_bytes (transform_words t), (well-columns t h).count)

read_back : (t : Transform) (out : List ℕ) → Columns t → 48 ≤ length out
    → transform_of (take 48 (transform_out t out)) ≡ record { number = 0; transform = t }
read_back t out h k =
    let w = well-columns t h in
    let s = transform_bytes t in
    let e : transform_at s ≡ t = ap with_words (words-read 12 (transform_words t) w.count w.words) ∙ columns-back t h in
    ap transform_of (out-front 0 s out 48 (width t h) (writer-passes 0 s (length out) refl (omega (arith, width t h, k))))
    ∙ transform-read s (transform-well (transform_words t) w)
    ∙ ap (λ (x : Transform). record { number = 0; transform = x }) e

written_back : (c out : List ℕ) → Bytes c → transform_fault c ≡ 0 → 48 ≤ length out
    → (transform_written (transform_of c).transform (length out) ≡ Wrote 48) × (transform_out (transform_of c).transform out ≡ c ++ drop 48 out)
written_back c out b h k =
    let s = transform_bytes (transform_of c).transform in
    let e : s ≡ c = handed c b h in
    let n : length s ≡ 48 = ap length e ∙ transform-length c h in (
      (writer-theorems 0 s).wrote (length out) refl (omega arith) ∙ ap Wrote n,
      (writer-theorems 0 s).buffer out refl (omega arith) ∙ ap₂ (λ (l : List ℕ) (m : ℕ). l ++ drop m out) e n,
    )

pub transform-theorems : TransformTheorems
transform-theorems =
    record {
      two_way = transform-format;
      answered = answered;
      read = read;
      handed = handed;
      no_words = transform-refused;
      width = width;
      written_back = written_back;
      read_back = read_back;
      number = λ t room h.
          (writer-theorems 0 (transform_bytes t)).number room ∙ sym (else-second _ (room_fault (length (transform_bytes t)) room) (transform-well (transform_words t) (well-columns t h)));
      promised = λ t out left answer p. (p.written, p.buffer);
      untouched = λ t out. (writer-theorems 0 (transform_bytes t)).untouched out;
    }

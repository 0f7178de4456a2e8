-- The laws of words and of the two contents, which the proofs of this crate and of the crates above it cite.
use Prim.Native.Nat.{ℕ, zero, suc, ◌+◌, ◌*◌, ◌/◌, ◌%◌, ◌<◌, ◌≤◌}
use mathlib.Core.Path.{◌≡◌, refl, sym, ap, ap₂, ◌∙◌, subst⁻¹}
use mathlib.Core.Logic.{◌⊎◌, inl, inr, ⊎_elim}
use mathlib.Core.Bool.{Bool, cond, ◌||◌, false≢true}
use mathlib.Core.List.{List, [], ◌∷◌, ◌++◌, map, append-nil}
use native.Mathlib.Omega.{arith}
use lib.Dec.{eqb}
use lib.ListN.{length, get_or, take, replicate, length-take, length-replicate}
use lib.Seq.{sets, take_all}
use borrow.Author.Tests.{eqb-true, eq-eqb, ne_eqb}
use Rattle.std.specs.Prelude.{Result, Ok, Err, IsErr}
use Rattle.fields.specs.declared.fault.Fault.{Fault}
use Rattle.fields.specs.Fault.{number_of}
use Rattle.fields.proofs.Laws.Answer.{fault_some}
use Rattle.fields.specs.Bytes.{Bytes}
use Rattle.fields.specs.Lists.{flat}
use Rattle.fields.specs.Numbers.{be_val, be_bytes}
use Rattle.fields.specs.Layout.{total, join, numbers_at, number_fields, NumbersFit}
use Rattle.fields.proofs.Laws.Numbers.{length-be_bytes, be_at-lt}
use Rattle.fields.specs.Formats.{TwoWay}
use Rattle.fields.specs.Checks.{or_else}
use Rattle.fields.specs.Answer.{room_fault}
use Rattle.fields.specs.Writers.{writer_fault}
use Rattle.fields.proofs.Laws.Checks.{cond-pass, cond-refused, or_split}
use Rattle.fields.proofs.Laws.Formats.{two_way}
use Rattle.fields.proofs.Laws.Lists.{length-flat}
use Rattle.fields.proofs.Laws.Layout.{join-cut, cut-join, widths-numbers, numbers-back, numbers-front}
use Rattle.fields.proofs.Laws.Stores.{sets-flat-next}
use Rattle.fields.proofs.Laws.Tests.{by_zero, cond_cases, cond_yes, cond_no}
use Rattle.pose.specs.Words.{Words, word_bytes}
use Rattle.pose.specs.Transform.{WellTransform}
use Rattle.pose.specs.declared.Transform.{Transform}
use Rattle.pose.specs.declared.Position.{Position}
use Rattle.pose.specs.TransformReader.{TransformRead, transform_read, transform_fault, transform_at, no_transform, transform_of}
use Rattle.pose.specs.Position.{PositionCount, three, six, seven, WellPosition}
use Rattle.pose.specs.PositionReader.{position_read, is_count, count_fault, position_fault, some_position, no_position, position_of}

-- ---- words and their bytes

pub length-word_bytes : (ws : List ℕ) → length (word_bytes ws) ≡ 4 * length ws
unfolding word_bytes
length-word_bytes ws = length-flat (be_bytes 4) 4 (length-be_bytes 4) ws

-- ---- words as a layout of numbers of four bytes

fit : (ws : List ℕ) → Words ws → NumbersFit (replicate (length ws) 4) ws
fit [] h = tt
fit (w ∷ ws) h = (h.0, fit ws h.1)

join-words : (ws : List ℕ) → join (number_fields (replicate (length ws) 4) ws) ≡ word_bytes ws
unfolding word_bytes flat
join-words [] = refl
join-words (w ∷ ws) = ap (λ (l : List ℕ). be_bytes 4 w ++ l) (join-words ws)

total-words : (n : ℕ) → total (replicate n 4) ≡ 4 * n
total-words zero = refl
total-words (suc n) = omega (arith, total-words n)

words-fit : (n at : ℕ) (c : List ℕ) → Bytes c → Words (numbers_at at (replicate n 4) c)
words-fit zero at c b = tt
words-fit (suc n) at c b = (be_at-lt 4 at c b, words-fit n (at + 4) c b)

words_count : (n at : ℕ) (c : List ℕ) → length (numbers_at at (replicate n 4) c) ≡ n
words_count zero at c = refl
words_count (suc n) at c = ap suc (words_count n (at + 4) c)

-- the words read from words' bytes are those words
pub words-read : (n : ℕ) (ws : List ℕ) → length ws ≡ n → Words ws → numbers_at 0 (replicate n 4) (word_bytes ws) ≡ ws
words-read n ws e h =
    let f = number_fields (replicate (length ws) 4) ws in
    let s : word_bytes ws ≡ join f ++ [] = sym (join-words ws) ∙ sym (append-nil (join f)) in
    ap₂ (λ (m : ℕ) (l : List ℕ). numbers_at 0 (replicate m 4) l) (sym e) s
    ∙ ap (map be_val) (cut-join [] f (replicate (length ws) 4) [] 0 refl (widths-numbers (replicate (length ws) 4) ws (length-replicate (length ws) 4)))
    ∙ numbers-front (replicate (length ws) 4) ws (fit ws h)

-- the bytes of the words read are the bytes that they were read from
pub words_back : (n : ℕ) (c : List ℕ) → Bytes c → length c ≡ 4 * n → word_bytes (numbers_at 0 (replicate n 4) c) ≡ c
words_back n c b e =
    let t : total (replicate n 4) ≡ length c = total-words n ∙ sym e in
    sym (join-words (numbers_at 0 (replicate n 4) c))
    ∙ ap (λ (m : ℕ). join (number_fields (replicate m 4) (numbers_at 0 (replicate n 4) c))) (words_count n 0 c)
    ∙ ap join (numbers-back 0 (replicate n 4) c b (omega arith))
    ∙ join-cut 0 (replicate n 4) c
    ∙ take_all (total (replicate n 4)) c (omega arith)

-- the loop that writes words: one more
pub put_word : (out ws : List ℕ) (i : ℕ) → i < length ws
    → sets (sets out 0 (word_bytes (take i ws))) (4 * i) (be_bytes 4 (get_or ws i 0)) ≡ sets out 0 (word_bytes (take (i + 1) ws))
unfolding word_bytes
put_word out ws i h =
    let n : 4 * i ≡ 0 + length (word_bytes (take i ws)) = omega (arith, length-word_bytes (take i ws), length-take i ws) in
    ap (λ (at : ℕ). sets (sets out 0 (word_bytes (take i ws))) at (be_bytes 4 (get_or ws i 0))) n ∙ sets-flat-next (be_bytes 4) out 0 ws i 0 h

pub words_append : (xs ys : List ℕ) → Words xs → Words ys → Words (xs ++ ys)
words_append [] ys hx hy = hy
words_append (x ∷ xs) ys hx hy = (hx.0, words_append xs ys hx.1 hy)

-- ---- TRANSFORM

pub transform-length : (c : List ℕ) → transform_fault c ≡ 0 → length c ≡ 4 * 12
unfolding transform_fault
transform-length c h = eqb-true (length c) _ (cond-pass (eqb (length c) _) _ 0 h).0

length-transform : (c : List ℕ) → length c ≡ 4 * 12 → transform_fault c ≡ 0
unfolding transform_fault
length-transform c h = ap (λ (t : Bool). cond t 0 8) (eq-eqb (length c) _ h)

pub transform-well : (ws : List ℕ) → WellTransform ws → transform_fault (word_bytes ws) ≡ 0
transform-well ws h = length-transform (word_bytes ws) (omega (arith, length-word_bytes ws, h.count))

transform-numbers : (c : List ℕ) → (transform_fault c ≡ 0) ⊎ (transform_fault c ≡ 8)
unfolding transform_fault
transform-numbers c = by_zero (transform_fault c) inl (λ n. inr (cond-refused (eqb (length c) _) _ n))

pub transform-format : TwoWay WellTransform word_bytes transform_fault (λ n. n ≡ 8)
transform-format =
    two_way WellTransform word_bytes transform_fault (λ n. n ≡ 8) (numbers_at 0 (replicate 12 4))
    (record {
      well = λ c b h. record { count = words_count 12 0 c; words = words-fit 12 0 c b };
      back = λ c b h. words_back 12 c b (transform-length c h);
      accepts = transform-well;
      decoded = λ ws h. words-read 12 ws h.count h.words;
      numbers = transform-numbers;
    })

-- the reader's answer for what is accepted
pub transform-read : (c : List ℕ) → transform_fault c ≡ 0 → transform_of c ≡ record { number = 0; transform = transform_at c }
unfolding transform_of
transform-read c h = cond_yes (eqb (transform_fault c) 0) (record { number = 0; transform = transform_at c }) _ (eq-eqb (transform_fault c) 0 h)

pub transform-refused : (c : List ℕ) → (transform_fault c ≡ 0 → ⊥) → transform_of c ≡ record { number = transform_fault c; transform = no_transform }
unfolding transform_of
transform-refused c h = cond_no (eqb (transform_fault c) 0) _ (record { number = transform_fault c; transform = no_transform }) (ne_eqb (transform_fault c) 0 h)

pub refused-transform : (c : List ℕ) (r : Result Transform Fault) → IsErr r → number_of r ≡ transform_fault c → transform_read r ≡ transform_of c
refused-transform c (Ok t) h e = absurd (false≢true h)
refused-transform c (Err f) h e =
    ap {B = TransformRead} (λ (n : ℕ). record { number = n; transform = no_transform }) e ∙ sym (transform-refused c (λ z. fault_some f (e ∙ z)))

-- ---- POSITION

-- check 8 passes the counts that a POSITION may have
pub count-passed : (k : ℕ) → PositionCount k → count_fault k ≡ 0
unfolding count_fault
count-passed k three = refl
count-passed k six = refl
count-passed k seven = refl

-- and no others
pub counted : (k : ℕ) → count_fault k ≡ 0 → PositionCount k
unfolding count_fault
counted k h =
    ⊎_elim (λ e. subst⁻¹ PositionCount (eqb-true k _ e) three)
    (λ r. ⊎_elim (λ e. subst⁻¹ PositionCount (eqb-true k _ e) six) (λ e. subst⁻¹ PositionCount (eqb-true k _ e) seven) (or_split (eqb k _) (eqb k _) r))
    (or_split (eqb k _) (eqb k 6 || eqb k 7) (cond-pass (is_count k) 7 0 h).0)

-- they are few
pub count-few : (k : ℕ) → count_fault k ≡ 0 → k ≤ 7
count-few k h = few k (counted k h)
  where
    few : (n : ℕ) → PositionCount n → n ≤ 7
    few n three = omega arith
    few n six = omega arith
    few n seven = omega arith

-- the reader's check of words' bytes is the writer's of the words
pub count-fault : (ws : List ℕ) → position_fault (word_bytes ws) ≡ count_fault (length ws)
unfolding position_fault
count-fault ws =
    let n = length-word_bytes ws in
    let e : length (word_bytes ws) / 4 ≡ length ws = omega (arith, n) in
    cond_yes (eqb (length (word_bytes ws) % 4) 0) (count_fault (length (word_bytes ws) / 4)) _ (eq-eqb (length (word_bytes ws) % 4) 0 (omega (arith, n))) ∙ ap count_fault e

pub position-count : (c : List ℕ) → position_fault c ≡ 0 → (length c ≡ 4 * (length c / 4)) × PositionCount (length c / 4)
unfolding position_fault
position-count c h =
    let k = cond-pass (eqb (length c % 4) 0) 7 (count_fault (length c / 4)) h in
    (omega (arith, eqb-true (length c % 4) 0 k.0), counted (length c / 4) k.1)

pub position-well : (ws : List ℕ) → WellPosition ws → position_fault (word_bytes ws) ≡ 0
position-well ws h = count-fault ws ∙ count-passed (length ws) h.count

-- as many words are read from words' bytes as there are
pub words-in : (ws : List ℕ) → length (word_bytes ws) / 4 ≡ length ws
words-in ws = omega (arith, length-word_bytes ws)

position-numbers : (c : List ℕ) → (position_fault c ≡ 0) ⊎ (position_fault c ≡ 8)
unfolding position_fault count_fault
position-numbers c =
    cond_cases (λ (n : ℕ). (n ≡ 0) ⊎ (n ≡ 8)) (eqb (length c % 4) 0) _ _
    (λ _. by_zero (count_fault (length c / 4)) inl (λ n. inr (cond-refused (is_count (length c / 4)) _ n)))
    (λ _. inr refl)

pub position-format : TwoWay WellPosition word_bytes position_fault (λ n. n ≡ 8)
position-format =
    two_way WellPosition word_bytes position_fault (λ n. n ≡ 8) (λ c. numbers_at 0 (replicate (length c / 4) 4) c)
    (record {
      well = λ c b h.
          record { count = subst⁻¹ PositionCount (words_count (length c / 4) 0 c) (position-count c h).1; words = words-fit (length c / 4) 0 c b };
      back = λ c b h. words_back (length c / 4) c b (position-count c h).0;
      accepts = position-well;
      decoded = λ ws h. words-read (length (word_bytes ws) / 4) ws (sym (words-in ws)) h.words;
      numbers = position-numbers;
    })

-- the reader's answer for what is accepted
pub position-read : (c : List ℕ) → position_fault c ≡ 0 → position_of c ≡ some_position c
unfolding position_of
position-read c h = cond_yes (eqb (position_fault c) 0) (some_position c) _ (eq-eqb (position_fault c) 0 h)

pub position-refused : (c : List ℕ) → (position_fault c ≡ 0 → ⊥) → position_of c ≡ no_position (position_fault c)
unfolding position_of
position-refused c h = cond_no (eqb (position_fault c) 0) _ (no_position (position_fault c)) (ne_eqb (position_fault c) 0 h)

pub refused-position : (c : List ℕ) (r : Result Position Fault) → IsErr r → number_of r ≡ position_fault c → position_read r ≡ position_of c
refused-position c (Ok p) h e = absurd (false≢true h)
refused-position c (Err f) h e = ap no_position e ∙ sym (position-refused c (λ z. fault_some f (e ∙ z)))

-- ---- the writer's checks, as the code makes them

pub position-room : (ws : List ℕ) (room : ℕ)
    → or_else (count_fault (length ws)) (room_fault (4 * length ws) room) ≡ writer_fault (count_fault (length ws)) (word_bytes ws) room
position-room ws room = ap (λ (n : ℕ). or_else (count_fault (length ws)) (room_fault n room)) (sym (length-word_bytes ws))

-- What is left of the records is shorter after each; patches, one after another.
use Prim.Native.Nat.{ℕ, suc, ◌+◌, ◌/◌, ◌≤◌, ◌<◌}
use mathlib.Core.Path.{◌≡◌, ap, ap₂, sym, ◌∙◌}
use mathlib.Core.Bool.{true}
use mathlib.Core.List.{List, ◌++◌}
use native.Mathlib.Omega.{arith}
use lib.ListN.{length, take, drop, length-drop, length-append}
use lib.Seq.{sets}
use borrow.Author.Tests.{leb-true}
use Rattle.std.proofs.lemmas.List.{drop-append-le, drop_at, take-append-le}
use Rattle.std.proofs.Math.Seq.{take-append_seam}
use Rattle.fields.specs.Bytes.{part}
use Rattle.fields.specs.Numbers.{be_at, be_val}
use Rattle.vector_records.specs.Records.{is_whole, after_field, patched_by, patched}

pub after-shorter : (s : List ℕ) → is_whole s ≡ true → length (after_field s) < length s
after-shorter s w = omega (arith, leb-true (2 + be_at 2 0 s) (length s) w, length-drop (2 + be_at 2 0 s) s)

pub patched-end : (s out : List ℕ) → length s < 6 → patched s out ≡ out
unfolding patched_by
patched-end s out short =
    let none : length s / 6 ≡ 0 = omega (arith, short) in
    ap (λ k. patched_by k s out) none

pub patched-step : (s out : List ℕ) → 6 ≤ length s → patched s out ≡ patched (drop 6 s) (sets out (be_at 4 0 s) (part 2 4 s))
unfolding patched_by
patched-step s out long =
    let one : length s / 6 ≡ suc (length (drop 6 s) / 6) = omega (arith, long, length-drop 6 s) in
    ap (λ k. patched_by k s out) one

-- the step, where the patch at the front and what follows it are apart
pub patched-next : (p r out : List ℕ) → length p ≡ 6 → patched (p ++ r) out ≡ patched r (sets out (be_at 4 0 p) (drop 4 p))
patched-next p r out six =
    let place : be_at 4 0 (p ++ r) ≡ be_at 4 0 p = ap be_val (take-append-le 4 p r (omega (arith, six))) in
    let two : length (drop 4 p) ≡ 2 = omega (arith, six, length-drop 4 p) in
    let stored : part 2 4 (p ++ r) ≡ drop 4 p =
    ap (take 2) (drop-append-le 4 p r (omega (arith, six)))
    ∙ ap (λ k. take k (drop 4 p ++ r)) (sym two)
    ∙ take-append_seam (drop 4 p) r in
    patched-step (p ++ r) out (omega (arith, six, length-append p r))
    ∙ ap₂ patched (drop_at p r 6 six) (ap₂ (sets out) place stored)

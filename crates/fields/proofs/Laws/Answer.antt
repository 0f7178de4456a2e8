-- The answer of a check; the check of a writer's room.
use Prim.Native.Nat.{ℕ, ◌≤◌, ◌<◌}
use mathlib.Core.Path.{◌≡◌, refl, sym, ap, ◌∙◌}
use mathlib.Core.Bool.{Bool, true, false, cond, ◌&&◌, false≢true}
use Rattle.std.specs.Prelude.{Result, Ok, Err}
use Rattle.std.specs.Result.{IsErrAnd, IsOkAnd, MatchResult, is_err, result_unwrap_or}
use Rattle.std.proofs.lemmas.Result.{err_from_is_err_and}
use native.Mathlib.Omega.{arith}
use lib.Dec.{leb}
use borrow.Author.Tests.{eq-eqb, ne_eqb, le-leb, lt-leb, leb-true}
use Rattle.fields.specs.declared.fault.Fault.{Fault}
use Rattle.fields.specs.declared.fault.Fault.TheVariants.{Incomplete, Names, BodySize, Version, Crc, ExtendedHeader, Metadata, PoseLength, Image, Bind, BindDepth, MoreBytes, NoTile, LinkDown, ClockBehind, NewTile, TileTaken, PanelFull, NotFound, NoRoom, FeedStopped}
use Rattle.fields.specs.Fault.{fault_number, number_of}
use Rattle.fields.specs.Answer.{Checked, checked_of, checked, written_of, written_number, written_count, room_fault}
use Rattle.fields.proofs.Laws.Checks.{cond-pass}

-- ---- a check

pub checked-passed : (n : ℕ) (mark : Bool) → n ≡ 0 → checked n mark ≡ record { number = n; clean = mark }
unfolding checked
checked-passed n mark e = ap {B = Checked} (λ (t : Bool). record { number = n; clean = t && mark }) (eq-eqb n 0 e)

pub checked_refused : (n : ℕ) (mark : Bool) → (n ≡ 0 → ⊥) → checked n mark ≡ record { number = n; clean = false }
unfolding checked
checked_refused n mark e = ap {B = Checked} (λ (t : Bool). record { number = n; clean = t && mark }) (ne_eqb n 0 e)

pub checked-number : (n : ℕ) (mark : Bool) → (checked n mark).number ≡ n
unfolding checked
checked-number n mark = refl

pub checked-mark : (n : ℕ) (mark : Bool) → n ≡ 0 → (checked n mark).clean ≡ mark
checked-mark n mark e = ap (λ (c : Checked). c.clean) (checked-passed n mark e)

pub checked-false : (n : ℕ) (mark : Bool) → (n ≡ 0 → ⊥) → (checked n mark).clean ≡ false
checked-false n mark e = ap (λ (c : Checked). c.clean) (checked_refused n mark e)

-- a refusal's mark does not depend on the texts
pub checked-same : (n m : ℕ) (a b : Bool) → n ≡ m → (n ≡ 0 → ⊥) → checked n a ≡ checked m b
checked-same n m a b e k = checked_refused n a k ∙ ap {B = Checked} (λ (x : ℕ). record { number = x; clean = false }) e ∙ sym (checked_refused m b (λ z. k (e ∙ z)))

-- ---- what a check hands out

-- no refusal has number 0
pub fault_some : (f : Fault) → fault_number f ≡ 0 → ⊥
fault_some Incomplete e = absurd (let z : ◌≡◌ {A = ℕ} 1 0 = e in omega arith)
fault_some Names e = absurd (let z : ◌≡◌ {A = ℕ} 2 0 = e in omega arith)
fault_some BodySize e = absurd (let z : ◌≡◌ {A = ℕ} 3 0 = e in omega arith)
fault_some Version e = absurd (let z : ◌≡◌ {A = ℕ} 4 0 = e in omega arith)
fault_some Crc e = absurd (let z : ◌≡◌ {A = ℕ} 5 0 = e in omega arith)
fault_some ExtendedHeader e = absurd (let z : ◌≡◌ {A = ℕ} 6 0 = e in omega arith)
fault_some Metadata e = absurd (let z : ◌≡◌ {A = ℕ} 7 0 = e in omega arith)
fault_some PoseLength e = absurd (let z : ◌≡◌ {A = ℕ} 8 0 = e in omega arith)
fault_some Image e = absurd (let z : ◌≡◌ {A = ℕ} 9 0 = e in omega arith)
fault_some Bind e = absurd (let z : ◌≡◌ {A = ℕ} 10 0 = e in omega arith)
fault_some BindDepth e = absurd (let z : ◌≡◌ {A = ℕ} 11 0 = e in omega arith)
fault_some MoreBytes e = absurd (let z : ◌≡◌ {A = ℕ} 12 0 = e in omega arith)
fault_some NoTile e = absurd (let z : ◌≡◌ {A = ℕ} 13 0 = e in omega arith)
fault_some LinkDown e = absurd (let z : ◌≡◌ {A = ℕ} 14 0 = e in omega arith)
fault_some ClockBehind e = absurd (let z : ◌≡◌ {A = ℕ} 15 0 = e in omega arith)
fault_some NewTile e = absurd (let z : ◌≡◌ {A = ℕ} 16 0 = e in omega arith)
fault_some TileTaken e = absurd (let z : ◌≡◌ {A = ℕ} 17 0 = e in omega arith)
fault_some PanelFull e = absurd (let z : ◌≡◌ {A = ℕ} 18 0 = e in omega arith)
fault_some NotFound e = absurd (let z : ◌≡◌ {A = ℕ} 19 0 = e in omega arith)
fault_some NoRoom e = absurd (let z : ◌≡◌ {A = ℕ} 20 0 = e in omega arith)
fault_some FeedStopped e = absurd (let z : ◌≡◌ {A = ℕ} 21 0 = e in omega arith)

pub mark_is : (mark : Bool) → checked_of (Ok mark) ≡ checked 0 mark
unfolding checked
mark_is mark = refl

pub refusal_is : (f : Fault) (mark : Bool) → checked_of (Err f) ≡ checked (fault_number f) mark
refusal_is f mark = sym (checked_refused (fault_number f) mark (fault_some f))

-- a check's number is that of its answer
pub number_is : (r : Result Bool Fault) {x : Checked} → checked_of r ≡ x → number_of r ≡ x.number
number_is (Ok mark) e = ap (λ (c : Checked). c.number) e
number_is (Err f) e = ap (λ (c : Checked). c.number) e

-- a `?` hands out the refusal as it is
pub passed_on : {A : Type 0} (f : Fault) (r : Result A Fault) → IsErrAnd r (λ e. e ≡ f) → r ≡ Err f
passed_on f r h = let p = err_from_is_err_and r h in p.1 ∙ ap Err p.2

-- whether it is a refusal, by its number
pub err_number : {A : Type 0} (r : Result A Fault) → is_err r ≡ true → number_of r ≡ 0 → ⊥
err_number (Ok x) e z = absurd (false≢true e)
err_number (Err f) e z = fault_some f z

pub ok_number : {A : Type 0} (r : Result A Fault) → is_err r ≡ false → number_of r ≡ 0
ok_number (Ok x) e = refl
ok_number (Err f) e = absurd (false≢true (sym e))

-- the mark; of a refusal it is false
pub mark_of : (r : Result Bool Fault) {x : Checked} → checked_of r ≡ x → result_unwrap_or r false ≡ x.clean
mark_of (Ok mark) e = ap (λ (c : Checked). c.clean) e
mark_of (Err f) e = ap (λ (c : Checked). c.clean) e

-- a value that is put in the place of another keeps the number
pub mapped : {A B : Type 0} (P : A → B → Type 0) (r : Result A Fault) (q : Result B Fault)
    → MatchResult r (λ x. IsOkAnd q (P x)) (λ f. q ≡ Err f) → number_of q ≡ number_of r
mapped P (Ok x) (Ok y) h = refl
mapped P (Ok x) (Err f) h = absurd h
mapped P (Err f) q h = ap number_of h

-- ---- an answer of a writer

-- what is read off the code's answer is what is read off the writer's
pub written-number : (r : Result ℕ Fault) → written_number (written_of r) ≡ number_of r
written-number (Ok n) = refl
written-number (Err f) = refl

pub written-count : (r : Result ℕ Fault) → written_count (written_of r) ≡ result_unwrap_or r 0
written-count (Ok n) = refl
written-count (Err f) = refl

-- ---- the room of a writer

pub room-enough : (n room : ℕ) → n ≤ room → room_fault n room ≡ 0
unfolding room_fault
room-enough n room h = ap (λ (t : Bool). cond t 0 20) (le-leb n room h)

pub room-short : (n room : ℕ) → room < n → room_fault n room ≡ 20
unfolding room_fault
room-short n room h = ap (λ (t : Bool). cond t 0 20) (lt-leb n room h)

pub room_fits : (n room : ℕ) → room_fault n room ≡ 0 → n ≤ room
unfolding room_fault
room_fits n room h = leb-true n room (cond-pass (leb n room) 19 0 h).0

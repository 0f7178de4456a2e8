-- In any layout: the reader's answer to bytes that are one message, a message and more, or no message's front; there is a reader (rule 1.4), and any two
-- agree.
use Prim.Native.Nat.{ℕ, zero, ◌+◌, ◌<◌}
use mathlib.Core.Path.{◌≡◌, refl, sym, ap, subst, ◌∙◌}
use mathlib.Core.Bool.{Bool, true, false}
use mathlib.Core.List.{List, [], ◌∷◌, ◌++◌, append-nil}
use native.Mathlib.Omega.{arith}
use lib.Dec.{ltb}
use lib.ListN.{length, length-append}
use borrow.Author.Tests.{lt-ltb}
use Rattle.fields.specs.Bytes.{Bytes}
use Rattle.fields.specs.Lists.{all_of}
use Rattle.fields.proofs.Laws.Bytes.{bytes-tail}
use Rattle.fields.proofs.Laws.Checks.{and-join}
use Rattle.message.specs.declared.Layout.{Layout}
use Rattle.message.specs.Message.{Message, WellFormed, encode}
use Rattle.message.specs.MessageReader as reader
use Rattle.message.specs.MessageReader.{read_of}
use Rattle.message.specs.Demand2.{Begins}
use Rattle.message.proofs.Laws.Below.{bytes_below}
use Rattle.message.proofs.Laws.Messages.{demand-2}
use Rattle.history.specs.Reading.{Reading, no_message, left_over, one_message, Reads, none, more, one, Reader, ReaderTheorems}
use Rattle.fields.proofs.Laws.Tests.{by_zero, true-false}

-- the whole of the bytes is the message
pub begins-one : (l : Layout) (s : List ℕ) (m : Message) → WellFormed l m → encode l m ≡ s → Begins l s m
begins-one l s m w e = record { well = w; rest = []; bytes = append-nil (encode l m) ∙ e }

pub none_number : (l : Layout) (s : List ℕ) → Bytes s → ((m : Message) → Begins l s m → ⊥) → (read_of l s).number ≡ 0 → ⊥
none_number l s b n e = let h = (demand-2 l).accepted s b e in n h.0 h.1

pub one-step : (l : Layout) (s : List ℕ) (m : Message) → WellFormed l m → encode l m ≡ s → (read_of l s).step ≡ length s
one-step l s m w e = (demand-2 l).step s m (begins-one l s m w e) ∙ ap length e

pub more-step : (l : Layout) (s : List ℕ) (m : Message) (b : Begins l s m) → 0 < length b.rest → (read_of l s).step < length s
more-step l s m b h =
    let e : length s ≡ length (encode l m) + length b.rest = ap length (sym b.bytes) ∙ length-append (encode l m) b.rest in
    omega (arith, e, (demand-2 l).step s m b)

-- ---- there is a reader

-- the front of bytes that a message begins
read-front : (l : Layout) (s : List ℕ) (m : Message) (b : Begins l s m) → (r : Reading) × Reads l s r
read-front l s m b = front b.rest refl
  where
    front : (rest : List ℕ) → b.rest ≡ rest → (r : Reading) × Reads l s r
    front [] e = (one_message m, one m b.well (sym (append-nil (encode l m)) ∙ ap (λ (x : List ℕ). encode l m ++ x) (sym e) ∙ b.bytes))
    front (x ∷ rest) e = (left_over, more m b (omega (arith, ap length e)))

read-bytes : (l : Layout) (s : List ℕ) → Bytes s → (r : Reading) × Reads l s r
read-bytes l s b =
    by_zero (read_of l s).number
    (λ e. let h = (demand-2 l).accepted s b e in read-front l s h.0 h.1)
    (λ n. (no_message (reader.stream_fault l s), none (λ m h. n ((demand-2 l).begun s m h))))

-- are they bytes?
all_bytes : List ℕ → Bool
all_bytes s = all_of (λ b. ltb b 256) s

all-bytes : (s : List ℕ) → all_bytes s ≡ true → Bytes s
unfolding all_bytes
all-bytes s h = bytes_below s h

bytes-all : (s : List ℕ) → Bytes s → all_bytes s ≡ true
unfolding all_bytes all_of
bytes-all [] h = refl
bytes-all (b ∷ s) h = and-join (ltb b 256) (all_bytes s) (lt-ltb b 256 (h zero)) (bytes-all s (bytes-tail b s h))

-- what is no list of bytes no call can carry; it may be read as anything
reading : (l : Layout) (s : List ℕ) (t : Bool) → all_bytes s ≡ t → Reading
reading l s true e = (read-bytes l s (all-bytes s e)).0
reading l s false e = left_over

reading-reads : (l : Layout) (s : List ℕ) (t : Bool) (e : all_bytes s ≡ t) → Bytes s → Reads l s (reading l s t e)
unfolding reading
reading-reads l s true e b = (read-bytes l s (all-bytes s e)).1
reading-reads l s false e b = true-false (all_bytes s) (bytes-all s b) e

a-reader : Reader
a-reader = record { read = λ l s. reading l s (all_bytes s) refl; reads = λ l s. reading-reads l s (all_bytes s) refl }

-- ---- any two agree

-- a message with more after it is not the whole
not-whole : (l : Layout) (s : List ℕ) (m n : Message) (b : Begins l s m) → 0 < length b.rest → WellFormed l n → encode l n ≡ s → ⊥
not-whole l s m n b h w e =
    let q : (read_of l s).step ≡ length s = one-step l s n w e in
    omega (arith, more-step l s m b h, q)

pub same-reading : (l : Layout) (s : List ℕ) (q r : Reading) → Reads l s q → Reads l s r → q ≡ r
same-reading l s q r (none n) (none n') = refl
same-reading l s q r (none n) (more m b h) = absurd (n m b)
same-reading l s q r (none n) (one m w e) = absurd (n m (begins-one l s m w e))
same-reading l s q r (more m b h) (none n) = absurd (n m b)
same-reading l s q r (more m b h) (more m' b' h') = refl
same-reading l s q r (more m b h) (one n w e) = absurd (not-whole l s m n b h w e)
same-reading l s q r (one m w e) (none n) = absurd (n m (begins-one l s m w e))
same-reading l s q r (one n w e) (more m b h) = absurd (not-whole l s m n b h w e)
same-reading l s q r (one m w e) (one n v f) = ap one_message ((demand-2 l).only_one s m n (begins-one l s m w e) (begins-one l s n v f))

-- ---- what is read as one message

read_one : (l : Layout) (s : List ℕ) (r : Reading) (m : Message) → Reads l s r → r ≡ one_message m → WellFormed l m × (encode l m ≡ s)
read_one l s r m (none n) e = absurd (let v : ◌≡◌ {A = ℕ} 0 1 = cc in omega arith)
read_one l s r m (more n b h) e = absurd (let v : ◌≡◌ {A = ℕ} 0 1 = cc in omega arith)
read_one l s r m (one n w f) e = let q : n ≡ m = cc in (subst (WellFormed l) q w, ap (encode l) (sym q) ∙ f)

pub reader-theorems : ReaderTheorems
reader-theorems =
    record {
      some = a-reader;
      agree = λ P Q l s b. same-reading l s (P.read l s) (Q.read l s) (P.reads l s b) (Q.reads l s b);
      message = λ R l s b m. (
        read_one l s (R.read l s) m (R.reads l s b),
        λ h. same-reading l s (R.read l s) (one_message m) (R.reads l s b) (one m h.0 h.1),
      );
    }

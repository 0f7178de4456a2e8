-- A push in nine cases.
use Prim.Native.Nat.{ℕ, ◌-◌, ◌≤◌, ◌<◌}
use mathlib.Core.Path.{◌≡◌, sym, ap, ap₂, ◌∙◌, subst}
use mathlib.Core.Bool.{Bool, cond, ◌&&◌}
use mathlib.Core.List.{List, ◌++◌}
use native.Mathlib.Omega.{arith}
use lib.Dec.{eqb, leb, ltb}
use lib.ListN.{length, take}
use borrow.Author.Tests.{leb-true, leb-false, ltb-true, ltb-false, eq-eqb, ne_eqb, le-leb, lt-leb, lt-ltb, le-ltb}
use Rattle.fields.proofs.Laws.Tests.{by-test, by_zero, cond_yes, cond_no}
use Rattle.header.specs.HeaderReader.{header_fault}
use Rattle.header.proofs.Laws.Faults.{fault-short, fault-passed}
use Rattle.message.specs.declared.Layout.{Layout}
use Rattle.message.specs.MessageReader.{read_of, refused}
use Rattle.feed.specs.Feed.{Feed, Nothing, Read, Refused, PushResult}
use Rattle.feed.specs.Reading.{end_of}
use Rattle.feed.specs.Push.{keeping, passing, stopped_feed, pushed, push_fault, kept_in, passed_of, fitting_of, taken_in, push_of, stored_to, stored_in, buffer_of}

-- ---- the cases: the result, and the buffer

pub data Row (f : Feed) (s buf : List ℕ) : PushResult → List ℕ → Type 0 where
  refuses : (push_fault f (length buf) ≡ 0 → ⊥) → Row f s buf (pushed (Refused (push_fault f (length buf))) f 0) buf
  passes : push_fault f (length buf) ≡ 0 → length s < f.left
      → Row f s buf (pushed Nothing (passing f.layout (length buf) f.step (f.left - length s)) (length s)) buf
  passed : push_fault f (length buf) ≡ 0 → 0 < f.left → f.left ≤ length s
      → Row f s buf (pushed (Read (refused 20 f.step)) (keeping f.layout (length buf) 0) f.left) buf
  short : push_fault f (length buf) ≡ 0 → f.left ≡ 0 → length (kept_in f buf ++ s) < 58
      → Row f s buf (pushed Nothing (keeping f.layout (length buf) (length (kept_in f buf ++ s))) (length s)) (stored_in f s buf 58)
  wrong : push_fault f (length buf) ≡ 0 → f.left ≡ 0 → 58 ≤ length (kept_in f buf ++ s) → (header_fault (kept_in f buf ++ s) ≡ 0 → ⊥)
      → Row f s buf (pushed (Read (refused (header_fault (kept_in f buf ++ s)) 0)) (stopped_feed f.layout (length buf)) (58 - length (kept_in f buf))) (stored_in f s buf 58)
  begins : push_fault f (length buf) ≡ 0 → f.left ≡ 0 → header_fault (kept_in f buf ++ s) ≡ 0 → length buf < end_of (kept_in f buf ++ s)
      → length s < end_of (kept_in f buf ++ s) - length (kept_in f buf)
      → Row f s buf (pushed Nothing (passing f.layout (length buf) (end_of (kept_in f buf ++ s)) (end_of (kept_in f buf ++ s) - length (kept_in f buf) - length s)) (length s)) (stored_in f s buf 58)
  exceeds : push_fault f (length buf) ≡ 0 → f.left ≡ 0 → header_fault (kept_in f buf ++ s) ≡ 0 → length buf < end_of (kept_in f buf ++ s)
      → end_of (kept_in f buf ++ s) - length (kept_in f buf) ≤ length s
      → Row f s buf (pushed (Read (refused 20 (end_of (kept_in f buf ++ s)))) (keeping f.layout (length buf) 0) (end_of (kept_in f buf ++ s) - length (kept_in f buf))) (stored_in f s buf 58)
  part : push_fault f (length buf) ≡ 0 → f.left ≡ 0 → header_fault (kept_in f buf ++ s) ≡ 0 → end_of (kept_in f buf ++ s) ≤ length buf
      → length (kept_in f buf ++ s) < end_of (kept_in f buf ++ s)
      → Row f s buf (pushed Nothing (keeping f.layout (length buf) (length (kept_in f buf ++ s))) (length s)) (stored_in f s buf (end_of (kept_in f buf ++ s)))
  whole : push_fault f (length buf) ≡ 0 → f.left ≡ 0 → header_fault (kept_in f buf ++ s) ≡ 0 → end_of (kept_in f buf ++ s) ≤ length buf
      → end_of (kept_in f buf ++ s) ≤ length (kept_in f buf ++ s)
      → Row f s buf (pushed (Read (read_of f.layout (take (end_of (kept_in f buf ++ s)) (kept_in f buf ++ s)))) (keeping f.layout (length buf) 0) (end_of (kept_in f buf ++ s) - length (kept_in f buf)))
      (stored_in f s buf (end_of (kept_in f buf ++ s)))

module _ (f : Feed) (s buf : List ℕ) where
  abbrev t : List ℕ
  t = kept_in f buf

  abbrev u : List ℕ
  u = kept_in f buf ++ s

  -- ---- the choices, outermost first

  pub push-refused : (push_fault f (length buf) ≡ 0 → ⊥) → push_of f s buf ≡ pushed (Refused (push_fault f (length buf))) f 0
  unfolding push_of
  push-refused z = cond_no (eqb (push_fault f (length buf)) 0) _ _ (ne_eqb (push_fault f (length buf)) 0 z)

  pub buffer-refused : (push_fault f (length buf) ≡ 0 → ⊥) → buffer_of f s buf ≡ buf
  unfolding buffer_of
  buffer-refused z =
      ap (λ (b : Bool). cond (b && eqb f.left 0) (stored_in f s buf (stored_to (length buf) u)) buf) (ne_eqb (push_fault f (length buf)) 0 z)

  module _ (z : push_fault f (length buf) ≡ 0) where
    pub push-passing : (f.left ≡ 0 → ⊥) → push_of f s buf ≡ passed_of f.layout (length buf) f.step f.left (length s)
    unfolding push_of
    push-passing l =
        cond_yes (eqb (push_fault f (length buf)) 0) _ _ (eq-eqb (push_fault f (length buf)) 0 z) ∙ cond_no (eqb f.left 0) _ _ (ne_eqb f.left 0 l)

    pub buffer-passing : (f.left ≡ 0 → ⊥) → buffer_of f s buf ≡ buf
    unfolding buffer_of
    buffer-passing l =
        ap₂ (λ (a b : Bool). cond (a && b) (stored_in f s buf (stored_to (length buf) u)) buf) (eq-eqb (push_fault f (length buf)) 0 z) (ne_eqb f.left 0 l)

    pub push-keeping : f.left ≡ 0 → push_of f s buf ≡ taken_in f.layout (length buf) (length t) (length s) u
    unfolding push_of
    push-keeping l =
        cond_yes (eqb (push_fault f (length buf)) 0) _ _ (eq-eqb (push_fault f (length buf)) 0 z) ∙ cond_yes (eqb f.left 0) _ _ (eq-eqb f.left 0 l)

    pub buffer-keeping : f.left ≡ 0 → buffer_of f s buf ≡ stored_in f s buf (stored_to (length buf) u)
    unfolding buffer_of
    buffer-keeping l =
        ap₂ (λ (a b : Bool). cond (a && b) (stored_in f s buf (stored_to (length buf) u)) buf) (eq-eqb (push_fault f (length buf)) 0 z) (eq-eqb f.left 0 l)

-- ---- a message that is passed over

pub passed-part : (l : Layout) (room step left n : ℕ) → n < left → passed_of l room step left n ≡ pushed Nothing (passing l room step (left - n)) n
unfolding passed_of
passed-part l room step left n h = cond_yes (ltb n left) _ _ (lt-ltb n left h)

pub passed-whole : (l : Layout) (room step left n : ℕ) → left ≤ n → passed_of l room step left n ≡ pushed (Read (refused 20 step)) (keeping l room 0) left
unfolding passed_of
passed-whole l room step left n h = cond_no (ltb n left) _ _ (le-ltb n left h)

-- ---- what was kept, and the fragment

module _ (l : Layout) (room k n : ℕ) (u : List ℕ) where
  pub on-short : length u < 58 → taken_in l room k n u ≡ pushed Nothing (keeping l room (length u)) n
  unfolding taken_in
  on-short h = cond_yes (ltb (length u) 58) _ _ (lt-ltb (length u) 58 h)

  pub on-wrong : 58 ≤ length u → (header_fault u ≡ 0 → ⊥) → taken_in l room k n u ≡ pushed (Read (refused (header_fault u) 0)) (stopped_feed l room) (58 - k)
  unfolding taken_in
  on-wrong h z = cond_no (ltb (length u) 58) _ _ (le-ltb (length u) 58 h) ∙ cond_no (eqb (header_fault u) 0) _ _ (ne_eqb (header_fault u) 0 z)

  on-right : header_fault u ≡ 0 → taken_in l room k n u ≡ cond (leb (end_of u) room) (fitting_of l room k n u (end_of u)) (passed_of l room (end_of u) (end_of u - k) n)
  unfolding taken_in
  on-right z =
      cond_no (ltb (length u) 58) _ _ (le-ltb (length u) 58 (fault-passed u z).long) ∙ cond_yes (eqb (header_fault u) 0) _ _ (eq-eqb (header_fault u) 0 z)

  pub on-exceeding : header_fault u ≡ 0 → room < end_of u → taken_in l room k n u ≡ passed_of l room (end_of u) (end_of u - k) n
  on-exceeding z h = on-right z ∙ cond_no (leb (end_of u) room) _ _ (lt-leb (end_of u) room h)

  pub on-fitting : header_fault u ≡ 0 → end_of u ≤ room → taken_in l room k n u ≡ fitting_of l room k n u (end_of u)
  on-fitting z h = on-right z ∙ cond_yes (leb (end_of u) room) _ _ (le-leb (end_of u) room h)

  on-part : header_fault u ≡ 0 → end_of u ≤ room → length u < end_of u → taken_in l room k n u ≡ pushed Nothing (keeping l room (length u)) n
  unfolding fitting_of
  on-part z h m = on-fitting z h ∙ cond_yes (ltb (length u) (end_of u)) _ _ (lt-ltb (length u) (end_of u) m)

  on-whole : header_fault u ≡ 0 → end_of u ≤ room → end_of u ≤ length u
      → taken_in l room k n u ≡ pushed (Read (read_of l (take (end_of u) u))) (keeping l room 0) (end_of u - k)
  unfolding fitting_of
  on-whole z h m = on-fitting z h ∙ cond_no (ltb (length u) (end_of u)) _ _ (le-ltb (length u) (end_of u) m)

-- up to where it is stored

module _ (room k n : ℕ) (u : List ℕ) where
  pub to-header : (header_fault u ≡ 0 → ⊥) → stored_to room u ≡ 58
  unfolding stored_to
  to-header z = ap (λ (b : Bool). cond (b && leb (end_of u) room) (end_of u) 58) (ne_eqb (header_fault u) 0 z)

  pub to-exceeding : header_fault u ≡ 0 → room < end_of u → stored_to room u ≡ 58
  unfolding stored_to
  to-exceeding z h = ap₂ (λ (a b : Bool). cond (a && b) (end_of u) 58) (eq-eqb (header_fault u) 0 z) (lt-leb (end_of u) room h)

  pub to_end : header_fault u ≡ 0 → end_of u ≤ room → stored_to room u ≡ end_of u
  unfolding stored_to
  to_end z h = ap₂ (λ (a b : Bool). cond (a && b) (end_of u) 58) (eq-eqb (header_fault u) 0 z) (le-leb (end_of u) room h)

pub short-fault : (u : List ℕ) → length u < 58 → header_fault u ≡ 0 → ⊥
short-fault u h z = omega (arith, fault-short u h, z)

-- ---- which case it is

module _ (f : Feed) (s buf : List ℕ) where
  abbrev Is : PushResult → List ℕ → Type 0
  Is r b = Row f s buf r b

  -- from the case's result and buffer to the push's
  found : (r : PushResult) (b : List ℕ) → Is r b → push_of f s buf ≡ r → buffer_of f s buf ≡ b → Is (push_of f s buf) (buffer_of f s buf)
  found r b w e k = subst (λ (x : PushResult). Is x (buffer_of f s buf)) (sym e) (subst (λ (y : List ℕ). Is r y) (sym k) w)

  module _ (z : push_fault f (length buf) ≡ 0) where
    row-passing : (f.left ≡ 0 → ⊥) → Is (push_of f s buf) (buffer_of f s buf)
    row-passing l =
        by-test (ltb (length s) f.left)
        (λ h.
        let k = ltb-true (length s) f.left h in
        found _ _ (passes z k) (push-passing f s buf z l ∙ passed-part f.layout (length buf) f.step f.left (length s) k) (buffer-passing f s buf z l))
        (λ h.
        let k = ltb-false (length s) f.left h in
        found _ _ (passed z (by_zero f.left (λ e. absurd (l e)) (λ e. omega (arith, e))) k)
        (push-passing f s buf z l ∙ passed-whole f.layout (length buf) f.step f.left (length s) k) (buffer-passing f s buf z l))

    module _ (l : f.left ≡ 0) where
      abbrev v : List ℕ
      v = kept_in f buf ++ s

      to : (n : ℕ) → stored_to (length buf) v ≡ n → buffer_of f s buf ≡ stored_in f s buf n
      to n e = buffer-keeping f s buf z l ∙ ap (stored_in f s buf) e

      push-is : (r : PushResult) → taken_in f.layout (length buf) (length (kept_in f buf)) (length s) v ≡ r → push_of f s buf ≡ r
      push-is r e = push-keeping f s buf z l ∙ e

      row-right : header_fault v ≡ 0 → Is (push_of f s buf) (buffer_of f s buf)
      row-right y =
          by-test (leb (end_of v) (length buf))
          (λ h.
          let k = leb-true (end_of v) (length buf) h in
          let b = to (end_of v) (to_end (length buf) (length (kept_in f buf)) (length s) v y k) in
          by-test (ltb (length v) (end_of v))
          (λ g.
          let m = ltb-true (length v) (end_of v) g in
          found _ _ (part z l y k m) (push-is _ (on-part f.layout (length buf) (length (kept_in f buf)) (length s) v y k m)) b)
          (λ g.
          let m = ltb-false (length v) (end_of v) g in
          found _ _ (whole z l y k m) (push-is _ (on-whole f.layout (length buf) (length (kept_in f buf)) (length s) v y k m)) b))
          (λ h.
          let k = leb-false (end_of v) (length buf) h in
          let b = to 58 (to-exceeding (length buf) (length (kept_in f buf)) (length s) v y k) in
          let e = on-exceeding f.layout (length buf) (length (kept_in f buf)) (length s) v y k in
          by-test (ltb (length s) (end_of v - length (kept_in f buf)))
          (λ g.
          let m = ltb-true (length s) (end_of v - length (kept_in f buf)) g in
          found _ _ (begins z l y k m) (push-is _ (e ∙ passed-part f.layout (length buf) (end_of v) (end_of v - length (kept_in f buf)) (length s) m)) b)
          (λ g.
          let m = ltb-false (length s) (end_of v - length (kept_in f buf)) g in
          found _ _ (exceeds z l y k m) (push-is _ (e ∙ passed-whole f.layout (length buf) (end_of v) (end_of v - length (kept_in f buf)) (length s) m)) b))

      row-keeping : Is (push_of f s buf) (buffer_of f s buf)
      row-keeping =
          by-test (ltb (length v) 58)
          (λ h.
          let k = ltb-true (length v) 58 h in
          found _ _ (short z l k) (push-is _ (on-short f.layout (length buf) (length (kept_in f buf)) (length s) v k))
          (to 58 (to-header (length buf) (length (kept_in f buf)) (length s) v (short-fault v k))))
          (λ h.
          let k = ltb-false (length v) 58 h in
          by_zero (header_fault v) row-right
          (λ y.
          found _ _ (wrong z l k y) (push-is _ (on-wrong f.layout (length buf) (length (kept_in f buf)) (length s) v k y))
          (to 58 (to-header (length buf) (length (kept_in f buf)) (length s) v y))))

  pub row : Is (push_of f s buf) (buffer_of f s buf)
  row =
      by_zero (push_fault f (length buf))
      (λ z. by_zero f.left (row-keeping z) (row-passing z))
      (λ z. found _ _ (refuses z) (push-refused f s buf z) (buffer-refused f s buf z))

-- What the code gives and stores at each of its returns is what the definitions say.
use Prim.Native.Nat.{ℕ, ◌+◌, ◌-◌, ◌≤◌, ◌<◌, min}
use mathlib.Core.Path.{◌≡◌, refl, sym, ap, ap₂, ◌∙◌}
use mathlib.Core.Bool.{false}
use mathlib.Core.List.{List, ◌++◌}
use native.Mathlib.Omega.{arith}
use lib.Dec.{eqb, ltb}
use lib.ListN.{length, take, length-append, length-take}
use lib.Seq.{sets, length-sets, length-take-le}
use borrow.Author.Tests.{eq-eqb, ne_eqb, lt-ltb, le-ltb}
use Rattle.std.specs.Prelude.{Result, Err}
use Rattle.std.specs.NonZero.{non_zero_usize_get}
use Rattle.std.specs.Result.{IsErrAnd}
use Rattle.std.specs.declared.num.NonZeroUsize.{NonZeroUsize}
use Rattle.std.proofs.lemmas.Result.{err_from_is_err_and}
use Rattle.fields.specs.declared.fault.Fault.{Fault}
use Rattle.fields.specs.Fault.{fault_number}
use Rattle.fields.specs.Answer.{room_fault}
use Rattle.fields.proofs.Laws.Answer.{fault_some}
use Rattle.fields.proofs.Laws.Stores.{take-sets, sets_over}
use Rattle.fields.proofs.Laws.Tests.{cond_yes, cond_no}
use Rattle.header.specs.Header.{body_limit}
use Rattle.header.specs.declared.HeaderRead.{HeaderRead}
use Rattle.header.specs.HeaderReader.{header_of, header_fault, header_read}
use Rattle.header.proofs.Laws.Faults.{fault-passed, header-read-passed, header-read-number}
use Rattle.message.specs.declared.Layout.{Layout}
use Rattle.message.specs.MessageReader.{read_of, refused}
use Rattle.feed.specs.Feed.{Feed, Nothing, Read, Refused, PushResult, step_in_state, left_in_state, is_stopped, feed_of, push_answered}
use Rattle.feed.specs.Opening as opening
use Rattle.feed.specs.declared.Feed as code
use Rattle.feed.specs.declared.Pushed.{Pushed}
use Rattle.feed.specs.declared.State.{State}
use Rattle.feed.specs.declared.State.TheVariants.{Keeping, Passing, Stopped}
use Rattle.feed.specs.Reading.{end_of}
use Rattle.feed.specs.Push.{keeping, stopped_feed, open_of, pushed, push_fault, kept_in, passed_of, fitting_of, taken_in, push_of, stored_to, buffer_of}
use Rattle.feed.proofs.Laws.Stores.{take-kept, front-put}
use Rattle.feed.proofs.Laws.Rows.{short-fault, push-refused, buffer-refused, push-passing, buffer-passing, push-keeping, buffer-keeping, on-short, on-wrong, on-exceeding, on-fitting, to-header, to-exceeding, to_end}
use Rattle.feed.proofs.Laws.Pushes.{room-same, same-front}

-- ---- open_feed

module _ (l : Layout) (room n : ℕ) (e : n ≡ room_fault 58 room) where
  pub opens_not : (n ≡ 0 → ⊥) → opening.Refused n ≡ open_of l room
  unfolding open_of
  opens_not h = ap opening.Refused e ∙ sym (cond_no (eqb (room_fault 58 room) 0) _ _ (ne_eqb (room_fault 58 room) 0 (λ z. h (e ∙ z))))

  pub opens-so : n ≡ 0 → opening.Opened (keeping l room 0) ≡ open_of l room
  unfolding open_of
  opens-so h = sym (cond_yes (eqb (room_fault 58 room) 0) _ _ (eq-eqb (room_fault 58 room) 0 (sym e ∙ h)))

-- ---- what is kept, k bytes, and the fragment

module _ (l : Layout) (k : ℕ) (s buf : List ℕ) (inside : k ≤ length buf) where
  abbrev u : List ℕ
  u = take k buf ++ s

  long : length (take k buf ++ s) ≡ k + length s
  long = length-append (take k buf) s ∙ ap (λ (n : ℕ). n + length s) (length-take-le k buf inside)

  -- take_body: the message ends at e, and fits
  module _ (e : ℕ) (fits : e ≤ length buf) where
    pub body-waits : length s < e - k → pushed Nothing (keeping l (length buf) (k + length s)) (length s) ≡ fitting_of l (length buf) k (length s) (take k buf ++ s) e
    unfolding fitting_of
    body-waits h =
        ap (λ (n : ℕ). pushed Nothing (keeping l (length buf) n) (length s)) (sym long)
        ∙ sym (cond_yes (ltb (length u) e) _ _ (lt-ltb (length u) e (omega (arith, h, long))))

    pub body_reads : e - k ≤ length s → (out : List ℕ) → out ≡ sets buf k (take (e - k) s)
        → pushed (Read (read_of l (take e out))) (keeping l (length buf) 0) (e - k) ≡ fitting_of l (length buf) k (length s) (take k buf ++ s) e
    unfolding fitting_of
    body_reads h out g =
        let m : e ≤ length u = omega (arith, h, long) in
        ap (λ (x : List ℕ). pushed (Read (read_of l x)) (keeping l (length buf) 0) (e - k)) (ap (take e) g ∙ front-put k buf s e e inside fits (omega arith) m)
        ∙ sym (cond_no (ltb (length u) e) _ _ (le-ltb (length u) e m))

  -- take_in: as far as the header goes
  abbrev Stored : ℕ → Type 0
  Stored n = sets buf k (take (n - k) s) ≡ sets buf k (take (stored_to (length buf) (take k buf ++ s) - k) s)

  stored-as : (n : ℕ) → stored_to (length buf) (take k buf ++ s) ≡ n → Stored n
  stored-as n e = ap (λ (j : ℕ). sets buf k (take (j - k) s)) (sym e)

  pub header-waits : length s < 58 - k
      → (pushed Nothing (keeping l (length buf) (k + length s)) (length s) ≡ taken_in l (length buf) k (length s) (take k buf ++ s)) × Stored 58
  header-waits h =
      let m : length u < 58 = omega (arith, h, long) in (
        ap (λ (n : ℕ). pushed Nothing (keeping l (length buf) n) (length s)) (sym long) ∙ sym (on-short l (length buf) k (length s) u m),
        stored-as 58 (to-header (length buf) k (length s) u (short-fault u m)),
      )

  -- the header is whole, and r is read from the buffer
  module _ (large : 58 ≤ length buf) (h : 58 - k ≤ length s) (out : List ℕ) (g : out ≡ sets buf k (take (58 - k) s)) (r : HeaderRead) (er : r ≡ header_read out) where
    whole : 58 ≤ length (take k buf ++ s)
    whole = omega (arith, h, long)

    same : (header_fault out ≡ header_fault (take k buf ++ s)) × (end_of out ≡ end_of (take k buf ++ s))
    same = same-front out u (ap (take 58) g ∙ front-put k buf s 58 58 inside large (omega arith) whole)

    number_is : r.number ≡ header_fault (take k buf ++ s)
    number_is = ap (λ (q : HeaderRead). q.number) er ∙ header-read-number out ∙ same.0

    pub header-wrong : (r.number ≡ 0 → ⊥)
        → (pushed (Read (refused r.number 0)) (stopped_feed l (length buf)) (58 - k) ≡ taken_in l (length buf) k (length s) (take k buf ++ s)) × Stored 58
    header-wrong z =
        let y : header_fault u ≡ 0 → ⊥ = λ e. z (number_is ∙ e) in (
          ap (λ (n : ℕ). pushed (Read (refused n 0)) (stopped_feed l (length buf)) (58 - k)) number_is ∙ sym (on-wrong l (length buf) k (length s) u whole y),
          stored-as 58 (to-header (length buf) k (length s) u y),
        )

    module _ (z : r.number ≡ 0) where
      right : header_fault (take k buf ++ s) ≡ 0
      right = sym number_is ∙ z

      size_is : r.body_size ≡ (header_of out).body_size
      size_is = ap (λ (q : HeaderRead). q.body_size) (er ∙ header-read-passed out (same.0 ∙ right))

      pub size-limit : r.body_size ≤ body_limit
      size-limit = omega (arith, size_is, (fault-passed out (same.0 ∙ right)).size-limit)

      end_is : 58 + r.body_size ≡ end_of (take k buf ++ s)
      end_is = ap (λ (n : ℕ). 58 + n) size_is ∙ same.1

      pub header-passes : length buf < 58 + r.body_size
          → (passed_of l (length buf) (58 + r.body_size) (58 + r.body_size - k) (length s) ≡ taken_in l (length buf) k (length s) (take k buf ++ s)) × Stored 58
      header-passes m =
          let n : length buf < end_of u = omega (arith, m, end_is) in (
            ap (λ (e : ℕ). passed_of l (length buf) e (e - k) (length s)) end_is ∙ sym (on-exceeding l (length buf) k (length s) u right n),
            stored-as 58 (to-exceeding (length buf) k (length s) u right n),
          )

      out-long : length out ≡ length buf
      out-long = ap length g ∙ length-sets buf k (take (58 - k) s)

      pub header-fits : 58 + r.body_size ≤ length buf
          → (fitting_of l (length out) k (length s) (take k out ++ s) (58 + r.body_size) ≡ taken_in l (length buf) k (length s) (take k buf ++ s))
          × (sets out k (take (58 + r.body_size - k) s) ≡ sets buf k (take (stored_to (length buf) (take k buf ++ s) - k) s))
      header-fits m =
          let n : end_of u ≤ length buf = omega (arith, m, end_is) in
          let e : ℕ = 58 + r.body_size in
          let c : take k out ≡ take k buf = ap (take k) g ∙ take-sets k buf k (take (58 - k) s) (omega arith) in (
            ap₂ (λ (j : ℕ) (t : List ℕ). fitting_of l j k (length s) (t ++ s) e) out-long c
                ∙ ap (fitting_of l (length buf) k (length s) u) end_is
                ∙ sym (on-fitting l (length buf) k (length s) u right n),
            ap (λ (b : List ℕ). sets b k (take (e - k) s)) g
                ∙ sets_over buf k (58 - k) (e - k) s (omega arith)
                ∙ stored-as e (to_end (length buf) k (length s) u right n ∙ sym end_is),
          )

-- ---- push

module _ (f : Feed) (s buf : List ℕ) where
  abbrev Is : PushResult → List ℕ → Type 0
  Is r out = (r ≡ push_of f s buf) × (out ≡ buffer_of f s buf)

  pub push-refuses : (n : ℕ) → n ≡ push_fault f (length buf) → (n ≡ 0 → ⊥) → Is (pushed (Refused n) f 0) buf
  push-refuses n e h =
      let z : push_fault f (length buf) ≡ 0 → ⊥ = λ y. h (e ∙ y) in
      (ap (λ (k : ℕ). pushed (Refused k) f 0) e ∙ sym (push-refused f s buf z), sym (buffer-refused f s buf z))

  module _ (z : push_fault f (length buf) ≡ 0) where
    pub push-passes : (f.left ≡ 0 → ⊥) → Is (passed_of f.layout (length buf) f.step f.left (length s)) buf
    push-passes l = (sym (push-passing f s buf z l), sym (buffer-passing f s buf z l))

    pub push-keeps : f.left ≡ 0 → (k : ℕ) → k ≡ min f.kept (length buf)
        → Is (taken_in f.layout (length buf) k (length s) (take k buf ++ s)) (sets buf k (take (stored_to (length buf) (take k buf ++ s) - k) s))
    push-keeps l k e =
        let c : k ≡ length (kept_in f buf) = e ∙ sym (length-take f.kept buf) in
        let d : take k buf ≡ kept_in f buf = ap (λ (n : ℕ). take n buf) c ∙ take-kept f.kept buf in (
          ap₂ (λ (n : ℕ) (t : List ℕ). taken_in f.layout (length buf) n (length s) (t ++ s)) c d ∙ sym (push-keeping f s buf z l),
          ap₂ (λ (n : ℕ) (t : List ℕ). sets buf n (take (stored_to (length buf) (t ++ s) - n) s)) c d ∙ sym (buffer-keeping f s buf z l),
        )

-- ---- the code's feed

pub none_left : (x : State) → ((step : ℕ) (left : NonZeroUsize) → x ≡ Passing step left → ⊥) → left_in_state x ≡ 0
none_left (Keeping kept) h = refl
none_left (Passing step left) h = absurd (h step left refl)
none_left Stopped h = refl

pub goes_on : (x : State) → (x ≡ Stopped → ⊥) → is_stopped x ≡ false
goes_on (Keeping kept) h = refl
goes_on (Passing step left) h = refl
goes_on Stopped h = absurd (h refl)

module _ (f : code.Feed) (s buf : List ℕ) where
  -- it is refused
  pub answers-refused : (e : Fault) (r : Result Pushed Fault) → fault_number e ≡ push_fault (feed_of f) (length buf) → IsErrAnd r (λ x. x ≡ e)
      → (push_answered f r ≡ push_of (feed_of f) s buf) × (buf ≡ buffer_of (feed_of f) s buf)
  answers-refused e r h k =
      let p = err_from_is_err_and r k in
      let w = push-refuses (feed_of f) s buf (fault_number e) h (fault_some e) in
      (ap (push_answered f) (p.1 ∙ ap Err p.2) ∙ w.0, w.1)

  module _ (z : push_fault (feed_of f) (length buf) ≡ 0) where
    -- a message is passed over
    pub answers-passing : (step left : ℕ) (x : NonZeroUsize) → f.state ≡ Passing step x → left ≡ non_zero_usize_get x → 0 < left
        → (passed_of f.layout f.room step left (length s) ≡ push_of (feed_of f) s buf) × (buf ≡ buffer_of (feed_of f) s buf)
    answers-passing step left x e l h =
        let r : f.room ≡ length buf = sym (room-same (feed_of f) (length buf) z) in
        let k : left ≡ left_in_state f.state = l ∙ sym (ap left_in_state e) in
        let w = push-passes (feed_of f) s buf z (λ y. omega (arith, h, k, y)) in
        ((λ i. passed_of f.layout (r i) (sym (ap step_in_state e) i) (k i) (length s)) ∙ w.0, w.1)

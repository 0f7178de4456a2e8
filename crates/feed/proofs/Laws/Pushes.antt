-- What every push takes and writes, and when it is refused: by its nine cases.
use Prim.Native.Nat.{ℕ, suc, ◌+◌, ◌-◌, ◌≤◌, ◌<◌}
use mathlib.Core.Path.{◌≡◌, refl, sym, ap, ◌∙◌, subst}
use mathlib.Core.Bool.{true, false, cond}
use mathlib.Core.List.{List, ◌++◌, append_assoc}
use native.Mathlib.Omega.{arith}
use native.Mathlib.Decide.{dec_le}
use lib.Dec.{eqb}
use lib.ListN.{length, get_or, take, drop, length-append, length-take, take-append-drop}
use lib.Seq.{length-sets, length-take-le, take-append-le, take-take, take_all}
use borrow.Author.Tests.{eqb-true, eq-eqb, ne_eqb}
use Rattle.fields.specs.Answer.{room_fault}
use Rattle.fields.proofs.Laws.Checks.{cond-fault, cond-pass}
use Rattle.fields.proofs.Laws.Answer.{room-enough, room_fits}
use Rattle.fields.proofs.Laws.Stores.{sets-before, sets-beyond}
use Rattle.fields.proofs.Laws.Tests.{cond_yes, cond_no}
use Rattle.header.specs.Header.{Header}
use Rattle.header.specs.HeaderReader.{header_fault}
use Rattle.header.proofs.Laws.Faults.{fault-passed}
use Rattle.header.proofs.Laws.Front.{header-front, fault-front}
use Rattle.message.specs.declared.Answer.{Answer}
use Rattle.message.specs.MessageReader.{read_of, refused, front_fault}
use Rattle.message.proofs.Laws.Read.{header_refused}
use Rattle.message.proofs.Laws.Front.{front-pass, read-whole-step, read-front}
use Rattle.feed.specs.Feed.{Feed, PushAnswer, Nothing, Read, Refused, PushResult}
use Rattle.feed.specs.Reading.{end_of}
use Rattle.feed.specs.Push.{pushed, push_fault, kept_in, push_of, stored_in}
use Rattle.feed.specs.FeedTheorems.{Takes, Writes, Refuses}
use Rattle.feed.proofs.Laws.Stores.{front-stored}
use Rattle.feed.proofs.Laws.Rows.{Row, refuses, passes, passed, short, wrong, begins, exceeds, part, whole, row}

-- ---- answers are told apart

abbrev pub kind_in : PushAnswer → ℕ
kind_in Nothing = 0
kind_in (Read a) = 1
kind_in (Refused n) = 2

abbrev pub read_in : Answer → PushAnswer → Answer
read_in d Nothing = d
read_in d (Read a) = a
read_in d (Refused n) = d

abbrev number_in : PushAnswer → ℕ
number_in Nothing = 0
number_in (Read a) = 0
number_in (Refused n) = n

pub apart : {C : Type 0} (a b : PushAnswer) → (kind_in a ≡ kind_in b → ⊥) → a ≡ b → C
apart a b h e = absurd (h (ap kind_in e))

-- ---- a header and a message, by their bytes

pub same-front : (s u : List ℕ) → take 58 s ≡ take 58 u → (header_fault s ≡ header_fault u) × (end_of s ≡ end_of u)
same-front s u e = (fault-front s u e, ap (λ (h : Header). 58 + h.body_size) (header-front s u e))

-- a stream and its front, of which the header is part
pub grown : (s x : List ℕ) → 58 ≤ length s → take 58 (s ++ x) ≡ take 58 s
grown s x h = take-append-le 58 s x h

-- the message at the front of u, by itself
pub record Whole (m : List ℕ) : Type 0 where
  pub front : front_fault m ≡ 0
  pub header : header_fault m ≡ 0
  pub size : length m ≡ end_of m

pub whole_of : (u m : List ℕ) → header_fault u ≡ 0 → take 58 m ≡ take 58 u → length m ≡ end_of u → Whole m
whole_of u m z e l =
    let k = same-front m u e in
    let h : header_fault m ≡ 0 = k.0 ∙ z in
    record { front = front-pass m h (omega (arith, l, k.1)); header = h; size = l ∙ sym k.1 }

pub whole-front : (u : List ℕ) → header_fault u ≡ 0 → end_of u ≤ length u → Whole (take (end_of u) u)
whole-front u z h = whole_of u (take (end_of u) u) z (take-take 58 (end_of u) u (omega arith)) (length-take-le (end_of u) u h)

-- ---- when a push is refused

pub fault-stopped : (f : Feed) (room : ℕ) → f.stopped ≡ true → push_fault f room ≡ 21
unfolding push_fault
fault-stopped f room h = cond_yes f.stopped _ _ h

fault-runs : (f : Feed) (room : ℕ) → f.stopped ≡ false → push_fault f room ≡ cond (eqb room f.room) (room_fault 58 room) 20
unfolding push_fault
fault-runs f room h = cond_no f.stopped _ _ h

pub fault-other : (f : Feed) (room : ℕ) → f.stopped ≡ false → (room ≡ f.room → ⊥) → push_fault f room ≡ 20
fault-other f room h k = fault-runs f room h ∙ cond_no (eqb room f.room) _ _ (ne_eqb room f.room k)

pub fault-room : (f : Feed) (room : ℕ) → f.stopped ≡ false → room ≡ f.room → push_fault f room ≡ room_fault 58 room
fault-room f room h k = fault-runs f room h ∙ cond_yes (eqb room f.room) _ _ (eq-eqb room f.room k)

pub fault-none : (f : Feed) (room : ℕ) → f.stopped ≡ false → room ≡ f.room → 58 ≤ room → push_fault f room ≡ 0
fault-none f room h k l = fault-room f room h k ∙ room-enough 58 room l

pub room-large : (f : Feed) (room : ℕ) → push_fault f room ≡ 0 → 58 ≤ room
unfolding push_fault
room-large f room z =
    let a = cond-fault f.stopped 20 _ z in
    room_fits 58 room (cond-pass (eqb room f.room) 19 _ a.1).1

pub room-same : (f : Feed) (room : ℕ) → push_fault f room ≡ 0 → room ≡ f.room
unfolding push_fault
room-same f room z =
    let a = cond-fault f.stopped 20 _ z in
    eqb-true room f.room (cond-pass (eqb room f.room) 19 _ a.1).0

module _ (f : Feed) (s buf : List ℕ) where
  abbrev t : List ℕ
  t = kept_in f buf

  abbrev u : List ℕ
  u = kept_in f buf ++ s

  long : length (kept_in f buf ++ s) ≡ length (kept_in f buf) + length s
  long = length-append (kept_in f buf) s

  -- ---- what is taken

  most : (r : PushResult) (b : List ℕ) → Row f s buf r b → r.taken ≤ length s
  most _ _ (refuses z) = omega arith
  most _ _ (passes z h) = omega arith
  most _ _ (passed z l h) = h
  most _ _ (short z l h) = omega arith
  most _ _ (wrong z l h y) = omega (arith, long, h)
  most _ _ (begins z l y k m) = omega arith
  most _ _ (exceeds z l y k m) = m
  most _ _ (part z l y k m) = omega arith
  most _ _ (whole z l y k m) = omega (arith, long, m)

  all : (r : PushResult) (b : List ℕ) → Row f s buf r b → r.answer ≡ Nothing → r.taken ≡ length s
  all _ _ (refuses z) e = apart _ _ (λ k. omega (arith, k)) e
  all _ _ (passes z h) e = refl
  all _ _ (passed z l h) e = apart _ _ (λ k. omega (arith, k)) e
  all _ _ (short z l h) e = refl
  all _ _ (wrong z l h y) e = apart _ _ (λ k. omega (arith, k)) e
  all _ _ (begins z l y k m) e = refl
  all _ _ (exceeds z l y k m) e = apart _ _ (λ k. omega (arith, k)) e
  all _ _ (part z l y k m) e = refl
  all _ _ (whole z l y k m) e = apart _ _ (λ k. omega (arith, k)) e

  -- a shorter fragment, while the header or the message is not whole: there is no answer
  module _ (n : ℕ) where
    abbrev v : List ℕ
    v = kept_in f buf ++ take n s

    v-long : length (kept_in f buf ++ take n s) ≤ length (kept_in f buf) + n
    v-long = omega (arith, length-append (kept_in f buf) (take n s), length-take n s)

    v-front : 58 ≤ length (kept_in f buf ++ take n s) → take 58 (kept_in f buf ++ take n s) ≡ take 58 (kept_in f buf ++ s)
    v-front h =
        sym (take-append-le 58 v (drop n s) h)
        ∙ ap (take 58) (append_assoc (kept_in f buf) (take n s) (drop n s) ∙ ap (λ (l : List ℕ). kept_in f buf ++ l) (take-append-drop n s))

    sooner : push_fault f (length buf) ≡ 0 → f.left ≡ 0
        → (58 ≤ length (kept_in f buf) + n → (header_fault (kept_in f buf ++ s) ≡ 0) × (length (kept_in f buf) + n < end_of (kept_in f buf ++ s)))
        → (r : PushResult) (b : List ℕ) → Row f (take n s) buf r b → r.answer ≡ Nothing
    sooner z l g _ _ (refuses y) = absurd (y z)
    sooner z l g _ _ (passes y h) = refl
    sooner z l g _ _ (passed y h k) = absurd (omega (arith, l, h))
    sooner z l g _ _ (short y _ h) = refl
    sooner z l g _ _ (wrong _ _ h y) = absurd (y ((same-front v u (v-front h)).0 ∙ (g (omega (arith, h, v-long))).0))
    sooner z l g _ _ (begins _ _ y k m) = refl
    sooner z l g _ _ (exceeds _ _ y k m) =
        let h : 58 ≤ length v = (fault-passed v y).long in
        absurd (omega (arith, (same-front v u (v-front h)).1, (g (omega (arith, h, v-long))).1, m, length-take n s))
    sooner z l g _ _ (part _ _ y k m) = refl
    sooner z l g _ _ (whole _ _ y k m) =
        let h : 58 ≤ length v = (fault-passed v y).long in
        absurd (omega (arith, (same-front v u (v-front h)).1, (g (omega (arith, h, v-long))).1, m, v-long))

    passing-sooner : push_fault f (length buf) ≡ 0 → n < f.left → (r : PushResult) (b : List ℕ) → Row f (take n s) buf r b → r.answer ≡ Nothing
    passing-sooner z h _ _ (refuses y) = absurd (y z)
    passing-sooner z h _ _ (passes y k) = refl
    passing-sooner z h _ _ (passed y k m) = absurd (omega (arith, length-take n s, h, m))
    passing-sooner z h _ _ (short y l k) = refl
    passing-sooner z h _ _ (wrong _ l _ y) = absurd (omega (arith, l, h))
    passing-sooner z h _ _ (begins _ l y k m) = refl
    passing-sooner z h _ _ (exceeds _ l y k m) = absurd (omega (arith, l, h))
    passing-sooner z h _ _ (part _ l y k m) = refl
    passing-sooner z h _ _ (whole _ l y k m) = absurd (omega (arith, l, h))

  no_sooner : (n : ℕ) (r : PushResult) (b : List ℕ) → Row f s buf r b → n < r.taken → (push_of f (take n s) buf).answer ≡ Nothing
  no_sooner n _ _ (refuses z) h = absurd (omega (arith, h))
  no_sooner n _ _ (passes z k) h = passing-sooner n z (omega (arith, h, k)) _ _ (row f (take n s) buf)
  no_sooner n _ _ (passed z l k) h = passing-sooner n z h _ _ (row f (take n s) buf)
  no_sooner n _ _ (short z l k) h = sooner n z l (λ g. absurd (omega (arith, long, h, k, g))) _ _ (row f (take n s) buf)
  no_sooner n _ _ (wrong z l k y) h = sooner n z l (λ g. absurd (omega (arith, h, g))) _ _ (row f (take n s) buf)
  no_sooner n _ _ (begins z l y k m) h = sooner n z l (λ g. (y, omega (arith, h, m))) _ _ (row f (take n s) buf)
  no_sooner n _ _ (exceeds z l y k m) h = sooner n z l (λ g. (y, omega (arith, h))) _ _ (row f (take n s) buf)
  no_sooner n _ _ (part z l y k m) h = sooner n z l (λ g. (y, omega (arith, h, m, long))) _ _ (row f (take n s) buf)
  no_sooner n _ _ (whole z l y k m) h = sooner n z l (λ g. (y, omega (arith, h))) _ _ (row f (take n s) buf)

  pub takes : Takes f s buf
  takes = record { most = most _ _ (row f s buf); all = all _ _ (row f s buf); no_sooner = λ n. no_sooner n _ _ (row f s buf) }

  -- ---- what is written

  stored-length : (to : ℕ) → length (stored_in f s buf to) ≡ length buf
  stored-length to = length-sets buf (length t) (take (to - length t) s)

  same_length : (r : PushResult) (b : List ℕ) → Row f s buf r b → length b ≡ length buf
  same_length _ _ (refuses z) = refl
  same_length _ _ (passes z h) = refl
  same_length _ _ (passed z l h) = refl
  same_length _ _ (short z l h) = stored-length 58
  same_length _ _ (wrong z l h y) = stored-length 58
  same_length _ _ (begins z l y k m) = stored-length 58
  same_length _ _ (exceeds z l y k m) = stored-length 58
  same_length _ _ (part z l y k m) = stored-length (end_of u)
  same_length _ _ (whole z l y k m) = stored-length (end_of u)

  -- the places in front of the bytes kept, and past those stored
  stored-before : (to i : ℕ) → i < length (kept_in f buf) → get_or (stored_in f s buf to) i 0 ≡ get_or buf i 0
  stored-before to i h = sets-before buf (length t) (take (to - length t) s) i h

  stored-beyond : (to i : ℕ) → to ≤ i → get_or (stored_in f s buf to) i 0 ≡ get_or buf i 0
  stored-beyond to i h = at (dec_le (length t) i)
    where
      at : Dec (length (kept_in f buf) ≤ i) → get_or (stored_in f s buf to) i 0 ≡ get_or buf i 0
      at (yes k) = sets-beyond buf (length t) (take (to - length t) s) i (omega (arith, k, h, length-take (to - length t) s))
      at (no k) = stored-before to i (omega (arith, k))

  stored_past : (to i : ℕ) → length (kept_in f buf) + length s ≤ i → get_or (stored_in f s buf to) i 0 ≡ get_or buf i 0
  stored_past to i h = sets-beyond buf (length t) (take (to - length t) s) i (omega (arith, h, length-take (to - length t) s))

  before : (i : ℕ) → i < length (kept_in f buf) → (r : PushResult) (b : List ℕ) → Row f s buf r b → get_or b i 0 ≡ get_or buf i 0
  before i g _ _ (refuses z) = refl
  before i g _ _ (passes z h) = refl
  before i g _ _ (passed z l h) = refl
  before i g _ _ (short z l h) = stored-before 58 i g
  before i g _ _ (wrong z l h y) = stored-before 58 i g
  before i g _ _ (begins z l y k m) = stored-before 58 i g
  before i g _ _ (exceeds z l y k m) = stored-before 58 i g
  before i g _ _ (part z l y k m) = stored-before (end_of u) i g
  before i g _ _ (whole z l y k m) = stored-before (end_of u) i g

  beyond : (i : ℕ) (r : PushResult) (b : List ℕ) → Row f s buf r b → length (kept_in f buf) + r.taken ≤ i → get_or b i 0 ≡ get_or buf i 0
  beyond i _ _ (refuses z) g = refl
  beyond i _ _ (passes z h) g = refl
  beyond i _ _ (passed z l h) g = refl
  beyond i _ _ (short z l h) g = stored_past 58 i g
  beyond i _ _ (wrong z l h y) g = stored-beyond 58 i (omega (arith, g))
  beyond i _ _ (begins z l y k m) g = stored_past 58 i g
  beyond i _ _ (exceeds z l y k m) g = stored-beyond 58 i (omega (arith, g))
  beyond i _ _ (part z l y k m) g = stored_past (end_of u) i g
  beyond i _ _ (whole z l y k m) g = stored-beyond (end_of u) i (omega (arith, g))

  exceeding : (i : ℕ) → length buf < end_of (kept_in f buf ++ s) → 58 ≤ i → (r : PushResult) (b : List ℕ) → Row f s buf r b → get_or b i 0 ≡ get_or buf i 0
  exceeding i g h _ _ (refuses z) = refl
  exceeding i g h _ _ (passes z _) = refl
  exceeding i g h _ _ (passed z l _) = refl
  exceeding i g h _ _ (short z l _) = stored-beyond 58 i h
  exceeding i g h _ _ (wrong z l _ y) = stored-beyond 58 i h
  exceeding i g h _ _ (begins z l y k m) = stored-beyond 58 i h
  exceeding i g h _ _ (exceeds z l y k m) = stored-beyond 58 i h
  exceeding i g h _ _ (part z l y k m) = absurd (omega (arith, g, k))
  exceeding i g h _ _ (whole z l y k m) = absurd (omega (arith, g, k))

  passed_over : 0 < f.left → (r : PushResult) (b : List ℕ) → Row f s buf r b → b ≡ buf
  passed_over g _ _ (refuses z) = refl
  passed_over g _ _ (passes z _) = refl
  passed_over g _ _ (passed z l _) = refl
  passed_over g _ _ (short z l _) = absurd (omega (arith, g, l))
  passed_over g _ _ (wrong z l _ y) = absurd (omega (arith, g, l))
  passed_over g _ _ (begins z l y k m) = absurd (omega (arith, g, l))
  passed_over g _ _ (exceeds z l y k m) = absurd (omega (arith, g, l))
  passed_over g _ _ (part z l y k m) = absurd (omega (arith, g, l))
  passed_over g _ _ (whole z l y k m) = absurd (omega (arith, g, l))

  header-stored : push_fault f (length buf) ≡ 0 → f.left ≡ 0 → 58 ≤ length (kept_in f buf ++ s) → (r : PushResult) (b : List ℕ) → Row f s buf r b
      → take 58 b ≡ take 58 (kept_in f buf ++ s)
  header-stored g j h _ _ (refuses z) = absurd (z g)
  header-stored g j h _ _ (passes z k) = absurd (omega (arith, j, k))
  header-stored g j h _ _ (passed z k _) = absurd (omega (arith, j, k))
  header-stored g j h _ _ (short z l k) = absurd (omega (arith, h, k))
  header-stored g j h _ _ (wrong z l _ y) = front-stored f.kept buf s 58 58 (room-large f (length buf) g) (omega arith) h
  header-stored g j h _ _ (begins z l y k m) = front-stored f.kept buf s 58 58 (room-large f (length buf) g) (omega arith) h
  header-stored g j h _ _ (exceeds z l y k m) = front-stored f.kept buf s 58 58 (room-large f (length buf) g) (omega arith) h
  header-stored g j h _ _ (part z l y k m) = front-stored f.kept buf s (end_of u) 58 k (omega arith) h
  header-stored g j h _ _ (whole z l y k m) = front-stored f.kept buf s (end_of u) 58 k (omega arith) h

  message-stored : (a : Answer) → (a.number ≡ 20 → ⊥) → (r : PushResult) (b : List ℕ) → Row f s buf r b → r.answer ≡ Read a
      → take a.step b ≡ take a.step (kept_in f buf ++ s)
  message-stored a g _ _ (refuses z) e = apart _ _ (λ k. omega (arith, k)) e
  message-stored a g _ _ (passes z _) e = apart _ _ (λ k. omega (arith, k)) e
  message-stored a g _ _ (passed z l _) e = absurd (g (sym (ap (λ (p : PushAnswer). (read_in a p).number) e)))
  message-stored a g _ _ (short z l _) e = apart _ _ (λ k. omega (arith, k)) e
  message-stored a g _ _ (wrong z l h y) e =
      let n : 0 ≡ a.step = ap (λ (p : PushAnswer). (read_in a p).step) e in
      subst (λ (k : ℕ). take k (stored_in f s buf 58) ≡ take k (kept_in f buf ++ s)) n refl
  message-stored a g _ _ (begins z l y k m) e = apart _ _ (λ k. omega (arith, k)) e
  message-stored a g _ _ (exceeds z l y k m) e = absurd (g (sym (ap (λ (p : PushAnswer). (read_in a p).number) e)))
  message-stored a g _ _ (part z l y k m) e = apart _ _ (λ k. omega (arith, k)) e
  message-stored a g _ _ (whole z l y k m) e =
      let w : Whole (take (end_of u) u) = whole-front u y m in
      let n : end_of u ≡ a.step =
      sym (length-take-le (end_of u) u m) ∙ w.size ∙ sym (read-whole-step f.layout (take (end_of u) u) w.front) ∙ ap (λ (p : PushAnswer). (read_in a p).step) e in
      subst (λ (j : ℕ). take j (stored_in f s buf (end_of u)) ≡ take j (kept_in f buf ++ s)) n
      (front-stored f.kept buf s (end_of u) (end_of u) k (omega arith) m)

  pub wrong-front : push_fault f (length buf) ≡ 0 → 58 ≤ length (kept_in f buf ++ s) → (header_fault (kept_in f buf ++ s) ≡ 0 → ⊥)
      → read_of f.layout (stored_in f s buf 58) ≡ refused (header_fault (kept_in f buf ++ s)) 0
  wrong-front z h y =
      let e = (same-front (stored_in f s buf 58) u (front-stored f.kept buf s 58 58 (room-large f (length buf) z) (omega arith) h)).0 in
      header_refused f.layout (stored_in f s buf 58) (λ k. y (sym e ∙ k)) ∙ ap (λ (n : ℕ). refused n 0) e

  pub read-of-front : header_fault (kept_in f buf ++ s) ≡ 0 → end_of (kept_in f buf ++ s) ≤ length buf → end_of (kept_in f buf ++ s) ≤ length (kept_in f buf ++ s)
      → read_of f.layout (stored_in f s buf (end_of (kept_in f buf ++ s))) ≡ read_of f.layout (take (end_of (kept_in f buf ++ s)) (kept_in f buf ++ s))
  read-of-front y k m =
      let g : List ℕ = take (end_of u) u in
      let w : Whole g = whole-front u y m in
      let e : end_of g ≡ end_of u = sym w.size ∙ length-take-le (end_of u) u m in
      sym (read-front g (stored_in f s buf (end_of u)) w.front
      (take_all (end_of g) g (omega (arith, w.size))
      ∙ sym (front-stored f.kept buf s (end_of u) (end_of u) k (omega arith) m)
      ∙ ap (λ (n : ℕ). take n (stored_in f s buf (end_of u))) (sym e))
      f.layout)

  in_front : (a : Answer) → (a.number ≡ 20 → ⊥) → (r : PushResult) (b : List ℕ) → Row f s buf r b → r.answer ≡ Read a → read_of f.layout b ≡ a
  in_front a g _ _ (refuses z) e = apart _ _ (λ k. omega (arith, k)) e
  in_front a g _ _ (passes z _) e = apart _ _ (λ k. omega (arith, k)) e
  in_front a g _ _ (passed z l _) e = absurd (g (sym (ap (λ (p : PushAnswer). (read_in a p).number) e)))
  in_front a g _ _ (short z l _) e = apart _ _ (λ k. omega (arith, k)) e
  in_front a g _ _ (wrong z l h y) e = wrong-front z h y ∙ ap (read_in a) e
  in_front a g _ _ (begins z l y k m) e = apart _ _ (λ k. omega (arith, k)) e
  in_front a g _ _ (exceeds z l y k m) e = absurd (g (sym (ap (λ (p : PushAnswer). (read_in a p).number) e)))
  in_front a g _ _ (part z l y k m) e = apart _ _ (λ k. omega (arith, k)) e
  in_front a g _ _ (whole z l y k m) e = read-of-front y k m ∙ ap (read_in a) e

  pub writes : Writes f s buf
  writes =
      record {
        same_length = same_length _ _ (row f s buf);
        before = λ i g. before i g _ _ (row f s buf);
        beyond = λ i. beyond i _ _ (row f s buf);
        exceeding = λ i g h. exceeding i g h _ _ (row f s buf);
        passed_over = λ g. passed_over g _ _ (row f s buf);
        header = λ a b c d h. header-stored (fault-none f (length buf) a b c) d h _ _ (row f s buf);
        message = λ a e g. message-stored a g _ _ (row f s buf) e;
        in_front = λ a e g. in_front a g _ _ (row f s buf) e;
      }

  -- ---- when it is refused

  refused-by : (n k : ℕ) → push_fault f (length buf) ≡ n → n ≡ suc k → (r : PushResult) (b : List ℕ) → Row f s buf r b → r.answer ≡ Refused n
  refused-by n j e g _ _ (refuses z) = ap (λ (m : ℕ). Refused m) e
  refused-by n j e g _ _ (passes z _) = absurd (omega (arith, e, g, z))
  refused-by n j e g _ _ (passed z l _) = absurd (omega (arith, e, g, z))
  refused-by n j e g _ _ (short z l _) = absurd (omega (arith, e, g, z))
  refused-by n j e g _ _ (wrong z l h y) = absurd (omega (arith, e, g, z))
  refused-by n j e g _ _ (begins z l y k m) = absurd (omega (arith, e, g, z))
  refused-by n j e g _ _ (exceeds z l y k m) = absurd (omega (arith, e, g, z))
  refused-by n j e g _ _ (part z l y k m) = absurd (omega (arith, e, g, z))
  refused-by n j e g _ _ (whole z l y k m) = absurd (omega (arith, e, g, z))

  untouched : (n : ℕ) (r : PushResult) (b : List ℕ) → Row f s buf r b → r.answer ≡ Refused n
      → (push_fault f (length buf) ≡ 0 → ⊥) × (r ≡ pushed (Refused n) f 0) × (b ≡ buf)
  untouched n _ _ (refuses z) e = (z, ap (λ (m : ℕ). pushed (Refused m) f 0) (ap number_in e), refl)
  untouched n _ _ (passes z _) e = apart _ _ (λ k. omega (arith, k)) e
  untouched n _ _ (passed z l _) e = apart _ _ (λ k. omega (arith, k)) e
  untouched n _ _ (short z l _) e = apart _ _ (λ k. omega (arith, k)) e
  untouched n _ _ (wrong z l h y) e = apart _ _ (λ k. omega (arith, k)) e
  untouched n _ _ (begins z l y k m) e = apart _ _ (λ k. omega (arith, k)) e
  untouched n _ _ (exceeds z l y k m) e = apart _ _ (λ k. omega (arith, k)) e
  untouched n _ _ (part z l y k m) e = apart _ _ (λ k. omega (arith, k)) e
  untouched n _ _ (whole z l y k m) e = apart _ _ (λ k. omega (arith, k)) e

  pub refusals : Refuses f s buf
  refusals =
      record {
        stopped_first = λ h. refused-by 21 20 (fault-stopped f (length buf) h) refl _ _ (row f s buf);
        other_length = λ h k. refused-by 20 19 (fault-other f (length buf) h k) refl _ _ (row f s buf);
        no_other = λ h k l n e. (untouched n _ _ (row f s buf) e).0 (fault-none f (length buf) h k l);
        untouched = λ n e. let w = untouched n _ _ (row f s buf) e in (w.1, w.2);
      }

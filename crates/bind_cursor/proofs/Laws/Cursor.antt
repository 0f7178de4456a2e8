-- The cursor after n steps: it is at the ends of the content that look-ups of child n come to. So it hands out child n.
use Prim.Native.Nat.{ℕ, zero, suc, ◌+◌, ◌-◌, ◌≤◌, ◌<◌}
use mathlib.Core.Path.{◌≡◌, refl, sym, ap, subst, ◌∙◌}
use mathlib.Core.Bool.{Bool, false}
use mathlib.Core.List.{List, [], ◌∷◌, ◌++◌, map, append_assoc}
use native.Mathlib.Omega.{arith}
use native.Mathlib.Nat.{sub-zero}
use lib.Dec.{eqb}
use lib.ListN.{length, take, drop, length-append}
use borrow.Author.Tests.{eq-eqb, ne_eqb, eqb-true}
use Rattle.fields.specs.Text.{text_of, past_text}
use Rattle.fields.proofs.Laws.Tests.{by_zero, cond_cases}
use Rattle.fields.proofs.Laws.Text.{text-take}
use Rattle.bind_layout.specs.Children.{Child}
use Rattle.bind_layout.specs.BindLayout.{child_count, headers, data_of, type_of, size_of, after_block}
use Rattle.content.specs.ContentCheck.{bind_fault, deepest}
use Rattle.bind_lookup.specs.ChildLookup.{Place, mark_of, headers_from, names_from, data_from, part_at}
use Rattle.bind_lookup.specs.LookupTheorems.{HasChildren, AtIndex}
use Rattle.bind_lookup.proofs.Laws.Lookup.{left-place}
use Rattle.bind_lookup.proofs.Laws.LookupTheorems.{accepted, count-of, marks, inside, place_at, pad, type-at, name-from, child-content, lookup-theorems}
use Rattle.bind_cursor.specs.declared.Cursor.{Cursor}
use Rattle.bind_cursor.specs.Cursor.{names_of, no_child, at_child, child_at, first_of, next_of, type_part, name_part, data_part}
use Rattle.bind_cursor.specs.CursorTheorems.{after, handed_of, handed_at, walked, StandsAt, CursorTheorems}
use Rattle.bind_cursor.proofs.Laws.Ends.{headers-next, names-next, data-next, past_two, headers-place, names-place, type-front, names-of}

-- ---- one step, of any cursor

stays_refused : (s : List ℕ) (x : Cursor) → (x.number ≡ 0 → ⊥) → next_of s x ≡ x
unfolding next_of
stays_refused s x z = simp (ne_eqb x.number 0 z)

stays_ended : (s : List ℕ) (x : Cursor) → x.left ≡ 0 → next_of s x ≡ x
unfolding next_of
stays_ended s x z = by_zero x.number (λ e. simp (eq-eqb x.number 0 e, eq-eqb x.left 0 z)) (stays_refused s x)

-- a cursor at three ends, each where its place says
module _ (s h t d : List ℕ) (left : ℕ) (mark : Bool) where
  abbrev here : Cursor
  here = at_child s h t d left mark

  at_none : left ≡ 0 → child_at s h t d left mark ≡ no_child 0 mark
  unfolding child_at
  at_none z = simp (eq-eqb left 0 z)

  at-child : (left ≡ 0 → ⊥) → child_at s h t d left mark ≡ here
  unfolding child_at
  at-child z = simp (ne_eqb left 0 z)

  at-kept : ((child_at s h t d left mark).number ≡ 0) × ((child_at s h t d left mark).left ≡ left) × ((child_at s h t d left mark).clean ≡ mark)
  unfolding child_at
  at-kept =
      cond_cases (λ (x : Cursor). (x.number ≡ 0) × (x.left ≡ left) × (x.clean ≡ mark)) (eqb left 0) (no_child 0 mark) here
      (λ z. (refl, sym (eqb-true left 0 z), refl))
      (λ z. (refl, refl, refl))

  next-at : (left ≡ 0 → ⊥) → drop (length s - length h) s ≡ h → drop (length s - length t) s ≡ t → drop (length s - length d) s ≡ d
      → next_of s here ≡ child_at s (drop 20 h) (past_text t) (after_block (size_of h) d) (left - 1) mark
  unfolding next_of
  next-at z p q r =
      let u = ap (λ (l : List ℕ). drop 1 (drop (length (text_of t)) l)) q ∙ past_two t in
      simp (ne_eqb left 0 z) (λ i. child_at s (drop 20 (p i)) (u i) (after_block (size_of h) (r i)) (left - 1) mark)

counts_down : (s : List ℕ) (x : Cursor) → x.number ≡ 0 → ((next_of s x).number ≡ 0) × ((next_of s x).left ≡ x.left - 1)
unfolding next_of
counts_down s x e =
    by_zero x.left
    (λ z.
    let k = stays_ended s x z in
    let y : x.left ≡ x.left - 1 = omega arith in
    (ap (λ (c : Cursor). c.number) k ∙ e, ap (λ (c : Cursor). c.left) k ∙ y))
    (λ z.
    let k = at-kept
    s
    (drop 20 (drop x.type_at s))
    (drop 1 (drop x.name_len (drop x.name_at s)))
    (after_block x.len (drop x.at s))
    (x.left - 1)
    x.clean in
    (simp (eq-eqb x.number 0 e, ne_eqb x.left 0 z) k.0, simp (eq-eqb x.number 0 e, ne_eqb x.left 0 z) k.1))

-- ---- all steps, in an accepted content

module _ (s : List ℕ) (e : bind_fault deepest s ≡ 0) where
  -- at what is left of the content from child n on
  abbrev at : ℕ → Cursor
  at n = child_at s (headers_from n s) (names_from n (names_of s)) (data_from n (headers s) (data_of s)) (child_count s - n) (mark_of s)

  none-at : (n : ℕ) → child_count s - n ≡ 0 → at n ≡ no_child 0 (mark_of s)
  none-at n z = at_none s _ _ _ _ (mark_of s) z

  next : (n : ℕ) → next_of s (at n) ≡ at (suc n)
  next n = by_zero (child_count s - n) ended further
    where
      ended : child_count s - n ≡ 0 → next_of s (at n) ≡ at (suc n)
      ended z =
          let y : child_count s - suc n ≡ 0 = omega arith in
          ap (next_of s) (none-at n z) ∙ stays_ended s (no_child 0 (mark_of s)) refl ∙ sym (none-at (suc n) y)

      further : (child_count s - n ≡ 0 → ⊥) → next_of s (at n) ≡ at (suc n)
      further z =
          let h = headers_from n s in
          let t = names_from n (names_of s) in
          let d = data_from n (headers s) (data_of s) in
          let y : child_count s - n - 1 ≡ child_count s - suc n = omega arith in
          ap (next_of s) (at-child s h t d (child_count s - n) (mark_of s) z)
          ∙ next-at s h t d (child_count s - n) (mark_of s) z (headers-place s n) (names-place s n) (left-place s n)
          ∙ (λ i. child_at s (headers-next s n i) (names-next n (names_of s) i) (data-next n (headers s) (data_of s) i) (y i) (mark_of s))

  stepped : (n : ℕ) → after n s ≡ at n
  unfolding after first_of names_from data_from
  stepped zero =
      simp (eq-eqb (bind_fault deepest s) 0 e) (ap (λ (m : ℕ). child_at s (headers s) (names_of s) (data_of s) m (mark_of s)) (sym (sub-zero (child_count s))))
  stepped (suc n) = ap (next_of s) (stepped n) ∙ next n

  -- what no step changes
  kept : (n : ℕ) → ((after n s).number ≡ 0) × ((after n s).clean ≡ mark_of s)
  kept n =
      let k = at-kept s (headers_from n s) (names_from n (names_of s)) (data_from n (headers s) (data_of s)) (child_count s - n) (mark_of s) in
      (ap (λ (x : Cursor). x.number) (stepped n) ∙ k.0, ap (λ (x : Cursor). x.clean) (stepped n) ∙ k.2)

-- ---- a refused content

module _ (s : List ℕ) (z : bind_fault deepest s ≡ 0 → ⊥) where
  refused : (n : ℕ) → after n s ≡ no_child (bind_fault deepest s) false
  unfolding after first_of
  refused zero = simp (ne_eqb (bind_fault deepest s) 0 z)
  refused (suc n) = ap (next_of s) (refused n) ∙ stays_refused s (no_child (bind_fault deepest s) false) z

number : (s : List ℕ) (n : ℕ) → (after n s).number ≡ bind_fault deepest s
number s n =
    by_zero (bind_fault deepest s)
    (λ e. (kept s e n).0 ∙ sym e)
    (λ z. ap (λ (x : Cursor). x.number) (refused s z n))

begins : (s : List ℕ) → 0 < (first_of s).left → (first_of s).number ≡ 0
unfolding after
begins s l =
    by_zero (bind_fault deepest s) (λ e. (kept s e 0).0) (λ z. absurd (omega (arith, l, ap (λ (x : Cursor). x.left) (refused s z 0))))

-- ---- the children

module _ (s : List ℕ) (cs : List Child) (h : HasChildren s cs) where
  past : (n : ℕ) → length cs ≤ n → after n s ≡ no_child 0 (mark_of s)
  past n l =
      let z : child_count s - n ≡ 0 = omega (arith, l, count-of s cs h) in
      stepped s (accepted s cs h) n ∙ none-at s (accepted s cs h) n z

  -- at child n, c
  module _ (n : ℕ) (c : Child) (k : AtIndex n c cs) where
    abbrev x : Cursor
    x = here s (headers_from n s) (names_from n (names_of s)) (data_from n (headers s) (data_of s)) (child_count s - n) (mark_of s)

    some_left : child_count s - n ≡ 0 → ⊥
    some_left z = omega (arith, z, inside s cs n c h k)

    after_is : after n s ≡ x
    after_is = stepped s (accepted s cs h) n ∙ at-child s _ _ _ _ (mark_of s) some_left

    type-handed : type_part s x ≡ c.type_text
    type-handed =
        ap (take (length (type_of (headers_from n s)))) (headers-place s n) ∙ type-front (headers_from n s) ∙ type-at s cs n c h k

    name-handed : name_part s x ≡ c.name
    name-handed =
        let t = names_from n (names_of s) in
        ap (take (length (text_of t))) (names-place s n) ∙ sym (text-take t) ∙ name-from s cs n c h k (names_of s) (pad s cs h ++ data_of s) (names-of s cs h)

    data-handed : data_part s x ≡ c.content
    data-handed = ap (λ (p : Place). part_at p s) (sym (place_at s cs n c h k)) ∙ child-content s cs n c h k

    stands : StandsAt s cs n c (after n s)
    stands =
        subst (StandsAt s cs n c) (sym after_is)
        (record {
          number = refl;
          left = omega (arith, inside s cs n c h k, count-of s cs h);
          handed = λ i. record { type = type-handed i; name = name-handed i; content = data-handed i };
          place = place_at s cs n c h k;
          mark = refl;
        })

-- ---- the whole walk

walked-ended : (k : ℕ) (s : List ℕ) (x : Cursor) → x.left ≡ 0 → walked k s x ≡ []
unfolding walked
walked-ended zero s x z = refl
walked-ended (suc k) s x z = simp (eq-eqb x.left 0 z)

walked_on : (k : ℕ) (s : List ℕ) (x : Cursor) → (x.left ≡ 0 → ⊥) → walked (suc k) s x ≡ handed_at s x ∷ walked k s (next_of s x)
unfolding walked
walked_on k s x z = simp (ne_eqb x.left 0 z)

-- the children before are done
module _ (s : List ℕ) (cs : List Child) (h : HasChildren s cs) where
  walk_from : (before others : List Child) → before ++ others ≡ cs → (k : ℕ) → length others ≤ k
      → walked k s (after (length before) s) ≡ map handed_of others
  unfolding after
  walk_from before [] e k l =
      let m = ap length e in
      let y : length cs ≤ length before = omega (arith, m, length-append before []) in
      walked-ended k s _ (ap (λ (x : Cursor). x.left) (past s cs h (length before) y))
  walk_from before (c ∷ others) e zero l = absurd (omega arith)
  walk_from before (c ∷ others) e (suc k) l =
      let n = length before in
      let a = stands s cs h n c (record { before = before; after = others; list = e; index = refl }) in
      let m : n + suc (length others) ≡ length cs = sym (length-append before (c ∷ others)) ∙ ap length e in
      let z : (after n s).left ≡ 0 → ⊥ = λ y. omega (arith, m, y, a.left) in
      let f : length (before ++ (c ∷ [])) ≡ suc n = length-append before (c ∷ []) ∙ omega arith in
      let r : walked k s (after (suc n) s) ≡ map handed_of others =
      ap (λ (j : ℕ). walked k s (after j s)) (sym f) ∙ walk_from (before ++ (c ∷ [])) others (append_assoc before (c ∷ []) others ∙ e) k (omega arith) in
      walked_on k s (after n s) z
      ∙ (λ i. a.handed i ∷ r i)

pub cursor-theorems : CursorTheorems
unfolding after
cursor-theorems =
    record {
      child = λ s cs n c h k. stands s cs h n c k;
      past = λ s cs n h l. past s cs h n l;
      walk = λ s cs k h l. walk_from s cs h [] cs refl k l;
      some = λ s b z. lookup-theorems.some s b (sym (number s 0) ∙ z);
      mark = λ s n z. marks s _ (kept s (sym (number s n) ∙ z) n).1;
      number = number;
      refused = λ s n z. refused s z n;
      refused_walk = λ s k z. walked-ended k s (after 0 s) (ap (λ (x : Cursor). x.left) (refused s z 0));
      nothing = λ number mark. refl;
      empty = λ s n b. refl;
      begins = begins;
      counts_down = counts_down;
      stays_refused = stays_refused;
      stays_ended = stays_ended;
    }

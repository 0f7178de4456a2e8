-- Tests and rules at each element of a list, and the bytes of its elements one after the other.
use Prim.Native.Nat.{ℕ, zero, suc, ◌+◌, ◌*◌, ◌≤◌, ◌<◌}
use mathlib.Core.Path.{◌≡◌, refl, sym, ap, ap₂, ◌∙◌}
use mathlib.Core.Logic.{◌⊎◌, inl, inr, ⊎_elim}
use mathlib.Core.Bool.{Bool, true, false}
use mathlib.Core.List.{List, [], ◌∷◌, ◌++◌, append_assoc, append-nil, map}
use native.Mathlib.Omega.{arith}
use native.Mathlib.Nat.{add_comm, mul-zero, mul-suc}
use native.Mathlib.Numerals.{add-one}
use lib.ListN.{length, get_or, take, drop, length-append, take-append-drop, drop_of_length-le}
use lib.Seq.{take-suc, take_all, drop-cons}
use Rattle.fields.specs.Bytes.{same}
use Rattle.fields.specs.Lists.{all_of, any_of, Each, flat}
use Rattle.fields.proofs.Laws.Bytes.{same-eq, same-differ}
use Rattle.fields.proofs.Laws.Checks.{and_split, and-join}
use Rattle.fields.proofs.Laws.Tests.{by-test}

-- ---- a test at each element, as a loop makes it: what it is from place i on

module _ {A : Type 0} (p : A → Bool) where
  pub all-step : (xs : List A) (i : ℕ) (d : A) → i < length xs → p (get_or xs i d) ≡ true → all_of p (drop i xs) ≡ all_of p (drop (i + 1) xs)
  unfolding all_of
  all-step xs i d h e = rw (add-one i, drop-cons xs i d h, e) refl

  pub all-stop : (xs : List A) (i : ℕ) (d : A) → i < length xs → p (get_or xs i d) ≡ false → all_of p (drop i xs) ≡ false
  unfolding all_of
  all-stop xs i d h e = rw (drop-cons xs i d h, e) refl

  pub all_end : (xs : List A) (i : ℕ) → length xs ≤ i → all_of p (drop i xs) ≡ true
  unfolding all_of
  all_end xs i h = rw (drop_of_length-le xs h) refl

  pub any_step : (xs : List A) (i : ℕ) (d : A) → i < length xs → p (get_or xs i d) ≡ false → any_of p (drop i xs) ≡ any_of p (drop (i + 1) xs)
  unfolding any_of
  any_step xs i d h e = rw (add-one i, drop-cons xs i d h, e) refl

  pub any-stop : (xs : List A) (i : ℕ) (d : A) → i < length xs → p (get_or xs i d) ≡ true → any_of p (drop i xs) ≡ true
  unfolding any_of
  any-stop xs i d h e = rw (drop-cons xs i d h, e) refl

  pub any-end : (xs : List A) (i : ℕ) → length xs ≤ i → any_of p (drop i xs) ≡ false
  unfolding any_of
  any-end xs i h = rw (drop_of_length-le xs h) refl

-- ---- a test and the rule that it tests

module _ {A : Type 0} (p : A → Bool) (P : A → Type 0) where
  pub all-each : ((x : A) → p x ≡ true → P x) → (xs : List A) → all_of p xs ≡ true → Each P xs
  unfolding all_of
  all-each f [] h = tt
  all-each f (x ∷ xs) h = let k = and_split (p x) (all_of p xs) h in (f x k.0, all-each f xs k.1)

  pub each_all : ((x : A) → P x → p x ≡ true) → (xs : List A) → Each P xs → all_of p xs ≡ true
  unfolding all_of
  each_all f [] h = refl
  each_all f (x ∷ xs) h = and-join (p x) (all_of p xs) (f x h.0) (each_all f xs h.1)

-- the rule of the first elements
pub each_take : {A : Type 0} (P : A → Type 0) (k : ℕ) (xs : List A) → Each P xs → Each P (take k xs)
each_take P zero xs h = tt
each_take P (suc k) [] h = tt
each_take P (suc k) (x ∷ xs) h = (h.0, each_take P k xs h.1)

-- the rule of an element in the middle
pub each-middle : {A : Type 0} (P : A → Type 0) (before : List A) (x : A) (after : List A) → Each P (before ++ (x ∷ after)) → P x
each-middle P [] x after h = h.0
each-middle P (y ∷ before) x after h = each-middle P before x after h.1

-- the first element whose part f is k, with those before and after it; or none is
module _ {A : Type 0} (f : A → List ℕ) (k : List ℕ) where
  abbrev pub FirstIn : List A → Type 0
  FirstIn xs =
      (before : List A) × (x : A) × (after : List A) × (before ++ (x ∷ after) ≡ xs) × (f x ≡ k) × Each (λ y. f y ≡ k → ⊥) before

  pub first_or_none : (xs : List A) → FirstIn xs ⊎ Each (λ y. f y ≡ k → ⊥) xs
  first_or_none [] = inr tt
  first_or_none (x ∷ xs) =
      by-test (same (f x) k)
      (λ e. inl ([], x, xs, refl, same-eq (f x) k e, tt))
      (λ e.
      let n = same-differ (f x) k e in
      ⊎_elim
      (λ r. inl (x ∷ r.0, r.1, r.2, ap {B = List A} (λ l. x ∷ l) r.3, r.4, (n, r.5)))
      (λ r. inr (n, r))
      (first_or_none xs))

-- a list of three numbers
pub three_back : (xs : List ℕ) → length xs ≡ 3 → get_or xs 0 0 ∷ get_or xs 1 0 ∷ get_or xs 2 0 ∷ [] ≡ xs
three_back [] h = absurd (omega arith)
three_back (x ∷ []) h = absurd (omega arith)
three_back (x ∷ y ∷ []) h = absurd (omega arith)
three_back (x ∷ y ∷ z ∷ []) h = refl
three_back (x ∷ y ∷ z ∷ w ∷ xs) h = absurd (omega arith)

-- ---- bytes of elements, one after the other

module _ {A : Type 0} (f : A → List ℕ) where
  -- the first element's in front of the others', with further bytes r
  pub flat-cons : (x : A) (xs : List A) (r : List ℕ) → flat f (x ∷ xs) ++ r ≡ f x ++ (flat f xs ++ r)
  unfolding flat
  flat-cons x xs r = append_assoc (f x) (flat f xs) r

  -- elements of w bytes each
  pub length-flat : (w : ℕ) → ((x : A) → length (f x) ≡ w) → (xs : List A) → length (flat f xs) ≡ w * length xs
  unfolding flat
  length-flat w h [] = sym (mul-zero w)
  length-flat w h (x ∷ xs) =
      length-append (f x) (flat f xs) ∙ ap₂ (λ (m n : ℕ). m + n) (h x) (length-flat w h xs) ∙ add_comm w (w * length xs) ∙ sym (mul-suc w (length xs))

  pub flat_append : (xs ys : List A) → flat f (xs ++ ys) ≡ flat f xs ++ flat f ys
  unfolding flat
  flat_append [] ys = refl
  flat_append (x ∷ xs) ys = ap (λ (l : List ℕ). f x ++ l) (flat_append xs ys) ∙ sym (append_assoc (f x) (flat f xs) (flat f ys))

  flat-one : (x : A) → flat f (x ∷ []) ≡ f x
  unfolding flat
  flat-one x = append-nil (f x)

  -- as a loop writes them: none, one more, all
  pub flat-none : (xs : List A) → flat f (take 0 xs) ≡ []
  unfolding flat
  flat-none xs = refl

  pub flat-next : (xs : List A) (i : ℕ) (d : A) → i < length xs → flat f (take (i + 1) xs) ≡ flat f (take i xs) ++ f (get_or xs i d)
  flat-next xs i d h =
      ap (λ (n : ℕ). flat f (take n xs)) (add-one i)
      ∙ ap (flat f) (take-suc xs i d h)
      ∙ flat_append (take i xs) (get_or xs i d ∷ [])
      ∙ ap (λ (l : List ℕ). flat f (take i xs) ++ l) (flat-one (get_or xs i d))

  pub flat-all : (xs : List A) (i : ℕ) → length xs ≤ i → flat f (take i xs) ≡ flat f xs
  flat-all xs i h = ap (flat f) (take_all i xs h)

  pub length-flat-next : (xs : List A) (i : ℕ) (d : A) → i < length xs
      → length (flat f (take (i + 1) xs)) ≡ length (flat f (take i xs)) + length (f (get_or xs i d))
  length-flat-next xs i d h = ap length (flat-next xs i d h) ∙ length-append (flat f (take i xs)) (f (get_or xs i d))

  pub length-flat-le : (xs : List A) (i : ℕ) → length (flat f (take i xs)) ≤ length (flat f xs)
  length-flat-le xs i =
      let e = ap length (sym (flat_append (take i xs) (drop i xs)) ∙ ap (flat f) (take-append-drop i xs)) in
      omega (arith, length-append (flat f (take i xs)) (flat f (drop i xs)))

-- the bytes of what g makes of each element
pub flat_map : {A : Type 0} (f : List ℕ → List ℕ) (g : A → List ℕ) (xs : List A) → flat f (map g xs) ≡ flat (λ x. f (g x)) xs
unfolding flat
flat_map f g [] = refl
flat_map f g (x ∷ xs) = ap (λ (l : List ℕ). f (g x) ++ l) (flat_map f g xs)

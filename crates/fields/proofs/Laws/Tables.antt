-- Tables: what holds of all items, from what holds of one. The data are of any type D: one run of bytes, or more than one.
use Prim.Native.Nat.{ℕ, zero, suc, ◌+◌, ◌*◌, ◌^◌, ◌≤◌, ◌<◌}
use mathlib.Core.Path.{◌≡◌, refl, sym, ap, ap₂, subst, ◌∙◌}
use mathlib.Core.Bool.{true}
use mathlib.Core.List.{List, [], ◌∷◌, ◌++◌, append-nil, append_assoc}
use native.Mathlib.Omega.{arith}
use native.Mathlib.Nat.{mul-suc}
use lib.Dec.{eqb}
use lib.ListN.{length, take, drop, length-append, length-drop, take-append-drop}
use lib.Seq.{take_at, drop_at, drop-drop}
use borrow.Author.Tests.{eqb-true}
use Rattle.fields.specs.Bytes.{Bytes}
use Rattle.fields.specs.Lists.{Each, flat}
use Rattle.fields.specs.Numbers.{be_val, be_bytes, be_at}
use Rattle.fields.specs.Tables.{counted}
use Rattle.fields.proofs.Laws.Bytes.{bytes_drop}
use Rattle.fields.proofs.Laws.Lists.{flat-cons, length-flat}
use Rattle.fields.proofs.Laws.Numbers.{length-be_bytes, be_val-be_bytes, be_bytes-be_at, be_at-lt}

-- the width of a header; the item in front of headers and data, and the data behind it; an item's header, and the item's data put in front
pub record Items (D A : Type 0) : Type 0 where
  pub width : ℕ
  pub item : List ℕ → D → A
  pub after : List ℕ → D → D
  pub header : A → List ℕ
  pub put : A → D → D

module _ {D A : Type 0} (t : Items D A) where
  -- the first k items
  abbrev pub items_from : ℕ → List ℕ → D → List A
  items_from zero h d = []
  items_from (suc k) h d = t.item h d ∷ items_from k (drop t.width h) (t.after h d)

  pub length-items : (k : ℕ) (h : List ℕ) (d : D) → length (items_from k h d) ≡ k
  length-items zero h d = refl
  length-items (suc k) h d = ap suc (length-items k (drop t.width h) (t.after h d))

  -- the data of items, put in front
  abbrev pub puts : List A → D → D
  puts [] d = d
  puts (x ∷ xs) d = t.put x (puts xs d)

  -- a run of bytes in them: what f writes of each item
  pub puts-run : (f : A → List ℕ) (run : D → List ℕ) → ((x : A) (d : D) → run (t.put x d) ≡ f x ++ run d) → (xs : List A) (d : D)
      → run (puts xs d) ≡ flat f xs ++ run d
  unfolding flat
  puts-run f run e [] d = refl
  puts-run f run e (x ∷ xs) d = e x (puts xs d) ∙ ap (λ (l : List ℕ). f x ++ l) (puts-run f run e xs d) ∙ sym (flat-cons f x xs (run d))

-- where nothing is left of a run, it is all
pub none_left : (l r s : List ℕ) → eqb (length r) 0 ≡ true → l ++ r ≡ s → l ≡ s
none_left l [] s z e = sym (append-nil l) ∙ e
none_left l (x ∷ r) s z e = absurd (omega (arith, eqb-true (length (x ∷ r)) _ z))

-- what one item owes, where `Passes k h d` says that a check of k items passes and Asked what else is asked of the data. The first item of those
-- that pass is what its bytes are written from; a well formed item is read back, and passes in front of others that do
pub record ItemLaws {D A : Type 0} (t : Items D A) (Well : A → Type 0) (Passes : ℕ → List ℕ → D → Type 0) (Asked : D → Type 0) : Type 0 where
  pub wide : (x : A) → length (t.header x) ≡ t.width
  pub read : (k : ℕ) (h : List ℕ) (d : D) → Bytes h → t.width ≤ length h → Asked d → Passes (suc k) h d
      → (t.header (t.item h d) ++ drop t.width h ≡ h) × (t.put (t.item h d) (t.after h d) ≡ d) × Well (t.item h d)
      × Asked (t.after h d) × Passes k (drop t.width h) (t.after h d)
  pub back : (x : A) → Well x → (h : List ℕ) (d : D) → (t.item (t.header x ++ h) (t.put x d) ≡ x) × (t.after (t.header x ++ h) (t.put x d) ≡ d)
  pub passes : (x : A) → Well x → (k : ℕ) (h : List ℕ) (d : D) → Passes k h d → Passes (suc k) (t.header x ++ h) (t.put x d)

module _ {D A : Type 0} {t : Items D A} {Well : A → Type 0} {Passes : ℕ → List ℕ → D → Type 0} {Asked : D → Type 0} (laws : ItemLaws t Well Passes Asked) where
  items-read : (k : ℕ) (h : List ℕ) (d : D) → Bytes h → t.width * k ≤ length h → Asked d → Passes k h d
      → (g : List ℕ) × (e : D) × (flat t.header (items_from t k h d) ++ g ≡ h) × (puts t (items_from t k h d) e ≡ d) × Each Well (items_from t k h d) × Passes 0 g e
  unfolding flat
  items-read zero h d b l f p = (h, d, refl, refl, tt, p)
  items-read (suc k) h d b l f p =
      let w = t.width in
      let x = t.item h d in
      let m = mul-suc w k in
      let o = laws.read k h d b (omega arith) f p in
      let r = items-read k (drop w h) (t.after h d) (bytes_drop w h b) (omega (arith, length-drop w h)) o.3 o.4 in (
        r.0,
        r.1,
        append_assoc (t.header x) (flat t.header (items_from t k (drop w h) (t.after h d))) r.0 ∙ ap (λ (l : List ℕ). t.header x ++ l) r.2 ∙ o.0,
        ap (t.put x) r.3 ∙ o.1,
        (o.2, r.4),
        r.5,
      )

  items-written : (xs : List A) → Each Well xs → (r : List ℕ) (e : D) → Passes 0 r e
      → Passes (length xs) (flat t.header xs ++ r) (puts t xs e) × (items_from t (length xs) (flat t.header xs ++ r) (puts t xs e) ≡ xs)
  unfolding flat
  items-written [] w r e p = (p, refl)
  items-written (x ∷ xs) w r e p =
      let h = flat t.header xs ++ r in
      let d = puts t xs e in
      let i = items-written xs w.1 r e p in
      let c = flat-cons t.header x xs r in
      let b = laws.back x w.0 h d in (
        subst (λ (l : List ℕ). Passes (suc (length xs)) l (t.put x d)) (sym c) (laws.passes x w.0 (length xs) h d i.0),
        ap (λ (l : List ℕ). items_from t (suc (length xs)) l (t.put x d)) c
            ∙ ap₂ {C = List A} (λ y ys. y ∷ ys) b.0 (ap₂ (items_from t (length xs)) (drop_at (t.header x) h t.width (laws.wide x)) b.1 ∙ i.1),
      )

  -- ---- with a count in front of the headers, and further bytes r behind them

  module _ (xs : List A) (r : List ℕ) where
    abbrev table : List ℕ
    table = counted t.header xs r

    pub counted-count : take 2 table ≡ be_bytes 2 (length xs)
    counted-count = take_at (be_bytes 2 (length xs)) (flat t.header xs ++ r) 2 (length-be_bytes 2 (length xs))

    pub counted-headers : drop 2 table ≡ flat t.header xs ++ r
    counted-headers = drop_at (be_bytes 2 (length xs)) (flat t.header xs ++ r) 2 (length-be_bytes 2 (length xs))

    pub length-counted : length table ≡ 2 + t.width * length xs + length r
    length-counted =
        let n = length-flat t.header t.width laws.wide xs in
        omega (arith, length-append (be_bytes 2 (length xs)) (flat t.header xs ++ r), length-append (flat t.header xs) r, length-be_bytes 2 (length xs))

    -- the bytes behind the headers
    after-headers : (s : List ℕ) → be_at 2 0 s ≡ length xs → drop 2 s ≡ flat t.header xs ++ r → drop (2 + t.width * be_at 2 0 s) s ≡ r
    after-headers s n e =
        ap (λ (m : ℕ). drop (2 + t.width * m) s) n
        ∙ sym (drop-drop (t.width * length xs) 2 s)
        ∙ ap (drop (t.width * length xs)) e
        ∙ drop_at (flat t.header xs) r (t.width * length xs) (length-flat t.header t.width laws.wide xs)

    module _ (fits : length xs < 256 ^ 2) where
      pub counted-number : be_at 2 0 table ≡ length xs
      counted-number = ap be_val counted-count ∙ be_val-be_bytes 2 (length xs) fits

      pub counted-after : drop (2 + t.width * be_at 2 0 table) table ≡ r
      counted-after = after-headers table counted-number counted-headers

      -- what is written passes, and is read back
      pub counted-written : Each Well xs → (e : D) → Passes 0 r e
          → Passes (be_at 2 0 table) (drop 2 table) (puts t xs e) × (items_from t (be_at 2 0 table) (drop 2 table) (puts t xs e) ≡ xs)
      counted-written w e p =
          let i = items-written xs w r e p in (
            subst (λ (l : List ℕ). Passes (be_at 2 0 table) l (puts t xs e)) (sym counted-headers)
                (subst (λ (n : ℕ). Passes n (flat t.header xs ++ r) (puts t xs e)) (sym counted-number) i.0),
            ap₂ (λ (n : ℕ) (l : List ℕ). items_from t n l (puts t xs e)) counted-number counted-headers ∙ i.1,
          )

  -- what passes is what its items are written as, and they are well formed
  module _ (s : List ℕ) (b : Bytes s) (l : 2 + t.width * be_at 2 0 s ≤ length s) (d : D) (f : Asked d) (p : Passes (be_at 2 0 s) (drop 2 s) d) where
    abbrev items : List A
    items = items_from t (be_at 2 0 s) (drop 2 s) d

    pub counted-read : (counted t.header items (drop (2 + t.width * be_at 2 0 s) s) ≡ s) × (length items < 256 ^ 2) × Each Well items
        × ((g : List ℕ) × (e : D) × (puts t items e ≡ d) × Passes 0 g e)
    counted-read =
        let n = length-items t (be_at 2 0 s) (drop 2 s) d in
        let r = items-read (be_at 2 0 s) (drop 2 s) d (bytes_drop 2 s b) (omega (arith, length-drop 2 s)) f p in (
          ap₂ (λ (m : ℕ) (x : List ℕ). be_bytes 2 m ++ (flat t.header items ++ x)) n (after-headers items r.0 s (sym n) (sym r.2))
              ∙ ap₂ (λ (x y : List ℕ). x ++ y) (be_bytes-be_at 2 0 s b (omega arith)) r.2
              ∙ take-append-drop 2 s,
          subst (λ (m : ℕ). m < 256 ^ 2) (sym n) (be_at-lt 2 0 s b),
          r.4,
          (r.0, r.1, r.3, r.5),
        )

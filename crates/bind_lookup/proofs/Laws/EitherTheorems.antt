-- Look-ups in two bundles: the site's child of the name, else the default's.
use Prim.Native.Nat.{ℕ, ◌≤◌, ◌<◌}
use mathlib.Core.Path.{◌≡◌, sym, ap, ap₂, subst, ◌∙◌}
use mathlib.Core.Bool.{Bool, false}
use mathlib.Core.List.{List, []}
use native.Mathlib.Omega.{arith}
use lib.Dec.{ltb}
use lib.ListN.{take}
use lib.Seq.{take-nil, drop-nil}
use borrow.Author.Tests.{eq-eqb, ne_eqb, lt-ltb, le-ltb, ltb-true, ltb-false}
use Rattle.fields.proofs.Laws.Checks.{else-zero, else-first, else-second}
use Rattle.fields.proofs.Laws.Tests.{by-test}
use Rattle.bind_layout.specs.Children.{Child}
use Rattle.bind_layout.specs.BindLayout.{child_count}
use Rattle.content.specs.ContentCheck.{bind_fault, deepest}
use Rattle.bind_lookup.specs.ChildLookup.{Place, index_of, mark_of, index_fault, place_in, place_of}
use Rattle.bind_lookup.specs.EitherLookup.{EitherPlace, Source, Site, Default, Neither, either_fault, sourced, either_place, bundle_of, either_part}
use Rattle.bind_lookup.specs.LookupTheorems.{HasChildren, AtIndex, NoneNamed, FirstNamed, Marks, EitherTheorems}
use Rattle.bind_lookup.proofs.Laws.LookupTheorems.{accepted, marks, placed-marked, count-of, inside, child-place, child-content, index-named, index-unnamed, place_none, place-refused}

sourced-accepted : (x : Source) (p : Place) → p.number ≡ 0 → sourced x p ≡ record { number = 0; source = x; at = p.at; len = p.len; clean = p.clean }
unfolding sourced
sourced-accepted x p e =
    simp (eq-eqb p.number 0 e) (ap {B = EitherPlace} (λ (n : ℕ). record { number = n; source = x; at = p.at; len = p.len; clean = p.clean }) e)

pub sourced-refused : (x : Source) (p : Place) → (p.number ≡ 0 → ⊥) → sourced x p ≡ record { number = p.number; source = Neither; at = p.at; len = p.len; clean = p.clean }
unfolding sourced
sourced-refused x p h = simp (ne_eqb p.number 0 h)

module _ (a b x : List ℕ) where
  pub from-site : index_of a x < child_count a → either_place a b x ≡ sourced Site (place_in (either_fault a b) (mark_of a) a (index_of a x))
  unfolding either_place
  from-site h = simp (lt-ltb (index_of a x) (child_count a) h)

  pub from-default : child_count a ≤ index_of a x → either_place a b x ≡ sourced Default (place_in (either_fault a b) (mark_of b) b (index_of b x))
  unfolding either_place
  from-default h = simp (le-ltb (index_of a x) (child_count a) h)

  -- one of the two
  by-source : {C : Type 0}
      → (either_place a b x ≡ sourced Site (place_in (either_fault a b) (mark_of a) a (index_of a x)) → C)
      → (either_place a b x ≡ sourced Default (place_in (either_fault a b) (mark_of b) b (index_of b x)) → C) → C
  by-source f g =
      by-test (ltb (index_of a x) (child_count a)) (λ e. f (from-site (ltb-true _ _ e))) (λ e. g (from-default (ltb-false _ _ e)))

  -- a fault of either refuses
  faulty : (either_fault a b ≡ 0 → ⊥) → either_place a b x ≡ record { number = either_fault a b; source = Neither; at = 0; len = 0; clean = false }
  faulty h = by-source (λ e. e ∙ refused Site (mark_of a) a (index_of a x)) (λ e. e ∙ refused Default (mark_of b) b (index_of b x))
    where
      refused : (y : Source) (m : Bool) (s : List ℕ) (j : ℕ) → sourced y (place_in (either_fault a b) m s j) ≡ record { number = either_fault a b; source = Neither; at = 0; len = 0; clean = false }
      refused y m s j = ap (sourced y) (place-refused (either_fault a b) m s j h) ∙ sourced-refused y _ h

  -- the mark of the bundle answered from
  marked : (either_place a b x).number ≡ 0 → Marks (either_place a b x).clean (bundle_of (either_place a b x).source a b)
  unfolding sourced
  marked z = by-source (from Site (index_of a x)) (from Default (index_of b x))
    where
      from : (y : Source) (j : ℕ) → either_place a b x ≡ sourced y (place_in (either_fault a b) (mark_of (bundle_of y a b)) (bundle_of y a b) j)
          → Marks (either_place a b x).clean (bundle_of (either_place a b x).source a b)
      from y j e =
          let s = bundle_of y a b in
          let p = place_in (either_fault a b) (mark_of s) s j in
          let n : p.number ≡ 0 = sym (ap (λ (q : EitherPlace). q.number) e) ∙ z in
          subst
          (λ (q : EitherPlace). Marks q.clean (bundle_of q.source a b))
          (sym (e ∙ sourced-accepted y p n))
          (marks s p.clean (placed-marked (index_fault (either_fault a b) s j) (mark_of s) s j n))

-- child n of the bundle of a source
found : (y : Source) (s : List ℕ) (cs : List Child) (n : ℕ) (c : Child) → HasChildren s cs → AtIndex n c cs → (fault j : ℕ) → fault ≡ 0 → j ≡ n
    → sourced y (place_in fault (mark_of s) s j) ≡ record { number = 0; source = y; at = (place_of s n).at; len = (place_of s n).len; clean = mark_of s }
found y s cs n c h k fault j e i =
    ap₂ (λ (f m : ℕ). sourced y (place_in f (mark_of s) s m)) (e ∙ sym (accepted s cs h)) i
    ∙ sourced-accepted y (place_of s n) (ap (λ (p : Place). p.number) (child-place s cs n c h k))
    ∙ ap {B = EitherPlace} (λ (b : Bool). record { number = 0; source = y; at = (place_of s n).at; len = (place_of s n).len; clean = b }) (ap (λ (p : Place). p.clean) (child-place s cs n c h k))

-- two accepted bundles
module _ (a b : List ℕ) (cs ds : List Child) (x : List ℕ) (ha : HasChildren a cs) (hb : HasChildren b ds) where
  faultless : either_fault a b ≡ 0
  faultless = else-zero (bind_fault deepest a) (bind_fault deepest b) (accepted a cs ha) (accepted b ds hb)

  in-site : (n : ℕ) (c : Child) → FirstNamed x n c cs
      → (either_place a b x ≡ record { number = 0; source = Site; at = (place_of a n).at; len = (place_of a n).len; clean = mark_of a }) × (either_part (either_place a b x) a b ≡ c.content)
  in-site n c f =
      let i = index-named a cs ha x n c f in
      let e = from-site a b x (omega (arith, i, inside a cs n c ha f.at_index)) ∙ found Site a cs n c ha f.at_index _ _ faultless i in
      (e, ap (λ (p : EitherPlace). either_part p a b) e ∙ child-content a cs n c ha f.at_index)

  -- the site has no child of the name
  module _ (none : NoneNamed x cs) where
    left-to-default : either_place a b x ≡ sourced Default (place_in (either_fault a b) (mark_of b) b (index_of b x))
    left-to-default = from-default a b x (omega (arith, index-unnamed a cs ha x none, count-of a cs ha))

    in-default : (n : ℕ) (c : Child) → FirstNamed x n c ds
        → (either_place a b x ≡ record { number = 0; source = Default; at = (place_of b n).at; len = (place_of b n).len; clean = mark_of b }) × (either_part (either_place a b x) a b ≡ c.content)
    in-default n c f =
        let e = left-to-default ∙ found Default b ds n c hb f.at_index _ _ faultless (index-named b ds hb x n c f) in
        (e, ap (λ (p : EitherPlace). either_part p a b) e ∙ child-content b ds n c hb f.at_index)

    in-neither : NoneNamed x ds → either_place a b x ≡ record { number = 19; source = Neither; at = 0; len = 0; clean = false }
    in-neither f =
        left-to-default
        ∙ ap (sourced Default) (place_none (either_fault a b) b (index_of b x) faultless (mark_of b) (omega (arith, index-unnamed b ds hb x f, count-of b ds hb)))
        ∙ sourced-refused Default _ (λ z. omega arith)

-- what is refused is an empty part of neither
no_part : (a b x : List ℕ) → ((either_place a b x).number ≡ 0 → ⊥) → ((either_place a b x).source ≡ Neither) × (either_part (either_place a b x) a b ≡ [])
unfolding sourced
no_part a b x h = by-source a b x (of-neither Site _) (of-neither Default _)
  where
    of-neither : (y : Source) (p : Place) → either_place a b x ≡ sourced y p → ((either_place a b x).source ≡ Neither) × (either_part (either_place a b x) a b ≡ [])
    of-neither y p e =
        let k = e ∙ sourced-refused y p (λ z. h (ap (λ (q : EitherPlace). q.number) e ∙ z)) in (
          ap (λ (q : EitherPlace). q.source) k,
          ap (λ (q : EitherPlace). either_part q a b) k ∙ ap (take p.len) (drop-nil p.at) ∙ take-nil p.len,
        )

pub either-theorems : EitherTheorems
either-theorems =
    record {
      site = λ a b cs ds x n c ha hb f. in-site a b cs ds x ha hb n c f;
      default = λ a b cs ds x n c ha hb none f. in-default a b cs ds x ha hb none n c f;
      mark = marked;
      neither = in-neither;
      site_fault = λ a b x h.
          let e = else-first (bind_fault deepest a) (bind_fault deepest b) h in
          faulty a b x (λ z. h (sym e ∙ z)) ∙ ap (λ (n : ℕ). record { number = n; source = Neither; at = 0; len = 0; clean = false }) e;
      default_fault = λ a b x h k.
          let e = else-second (bind_fault deepest a) (bind_fault deepest b) h in
          faulty a b x (λ z. k (sym e ∙ z)) ∙ ap (λ (n : ℕ). record { number = n; source = Neither; at = 0; len = 0; clean = false }) e;
      empty = no_part;
      found = λ a b x number bytes source mark f. f;
    }

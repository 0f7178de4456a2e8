-- What a look-up answers, by what the check of its content says.
use Prim.Native.Nat.{ℕ, ◌≤◌, ◌<◌}
use mathlib.Core.Path.{◌≡◌, refl, sym, ap, ap₂, ◌∙◌}
use mathlib.Core.Bool.{Bool, false}
use mathlib.Core.List.{List}
use native.Mathlib.Omega.{arith}
use borrow.Author.Tests.{eq-eqb, ne_eqb}
use Rattle.std.specs.Option.{ok_or}
use Rattle.std.specs.Prelude.{Option, Some, None, Result, Ok, Err}
use Rattle.fields.specs.Answer.{Checked, checked_of}
use Rattle.fields.specs.Fault.{fault_number}
use Rattle.fields.specs.declared.fault.Fault.{Fault}
use Rattle.fields.specs.declared.fault.Fault.TheVariants.{NotFound}
use Rattle.fields.proofs.Laws.Answer.{fault_some}
use Rattle.fields.proofs.Laws.Checks.{else-zero}
use Rattle.bind_layout.specs.BindLayout.{child_count}
use Rattle.content.specs.ContentCheck.{bind_fault, bind_checked, deepest}
use Rattle.content.proofs.Laws.ChildrenWalk.{bind-fault}
use Rattle.bind_lookup.specs.ChildLookup.{Place, index_of, mark_of, count_of, placed, place_in, place_of}
use Rattle.bind_lookup.specs.EitherLookup.{EitherPlace, Site, Default, Neither, either_fault, sourced, either_place}
use Rattle.bind_lookup.proofs.Laws.LookupTheorems.{number-found, place_none, place-refused}
use Rattle.bind_lookup.proofs.Laws.EitherTheorems.{sourced-refused, from-site, from-default, either-theorems}

-- why no index is handed on
pub not_found : (o : Option ℕ) (f : Fault) → o ≡ None → ◌≡◌ {A = Result ℕ Fault} (Err f) (ok_or o NotFound) → f ≡ NotFound
not_found None f p e = cc
not_found (Some i) f p e = absurd (cc)

-- child i of a content, by an index j that is i
module _ (fault : ℕ) (s : List ℕ) (m : Bool) (i j : ℕ) (e : fault ≡ 0) (k : mark_of s ≡ m) (p : i ≡ j) where
  is-found : i < child_count s → placed 0 m s i ≡ place_in fault (mark_of s) s j
  is-found h =
      let r : j < child_count s = omega arith in
      sym (ap₂ (λ (n : ℕ) (b : Bool). placed n b s j) (number-found fault s j e r) k ∙ ap (placed 0 m s) (sym p))

  is-missing : child_count s ≤ i → record { number = 19; at = 0; len = 0; clean = false } ≡ place_in fault (mark_of s) s j
  is-missing h = sym (place_none fault s j e (mark_of s) (omega arith))

-- a content that is refused
module _ (s : List ℕ) (f : Fault) (e : checked_of (Err f) ≡ bind_checked deepest s) where
  pub refused-number : bind_fault deepest s ≡ fault_number f
  refused-number = sym (ap (λ (c : Checked). c.number) e ∙ bind-fault deepest s)

  refused-some : bind_fault deepest s ≡ 0 → ⊥
  refused-some z = fault_some f (sym refused-number ∙ z)

  pub count-refused : record { number = fault_number f; count = 0; clean = false } ≡ count_of s
  unfolding count_of
  count-refused =
      simp (ne_eqb _ 0 refused-some)
      (λ i. record { number = sym refused-number i; count = 0; clean = ap (λ (c : Checked). c.clean) e i })

  pub place-of-refused : (j : ℕ) → record { number = fault_number f; at = 0; len = 0; clean = false } ≡ place_of s j
  place-of-refused j =
      ap {B = Place} (λ (n : ℕ). record { number = n; at = 0; len = 0; clean = false }) (sym refused-number)
      ∙ sym (place-refused (bind_fault deepest s) (mark_of s) s j refused-some)

-- one that is accepted, with its mark
module _ (s : List ℕ) (m : Bool) (e : checked_of (Ok m) ≡ bind_checked deepest s) where
  pub accepted-number : bind_fault deepest s ≡ 0
  accepted-number = sym (ap (λ (c : Checked). c.number) e ∙ bind-fault deepest s)

  pub accepted-mark : mark_of s ≡ m
  accepted-mark = sym (ap (λ (c : Checked). c.clean) e)

  pub count-accepted : record { number = 0; count = child_count s; clean = m } ≡ count_of s
  unfolding count_of
  count-accepted =
      simp (eq-eqb _ 0 accepted-number)
      (λ i. record { number = sym accepted-number i; count = child_count s; clean = sym accepted-mark i })

  pub place-of-found : (i j : ℕ) → i ≡ j → i < child_count s → placed 0 m s i ≡ place_of s j
  place-of-found i j p h = is-found (bind_fault deepest s) s m i j accepted-number accepted-mark p h

  pub place-of-missing : (j : ℕ) → child_count s ≤ j → record { number = 19; at = 0; len = 0; clean = false } ≡ place_of s j
  place-of-missing j h = is-missing (bind_fault deepest s) s m j j accepted-number accepted-mark refl h

-- ---- two bundles

module _ (a b x : List ℕ) where
  pub either-site-refused : (f : Fault) → checked_of (Err f) ≡ bind_checked deepest a
      → record { number = fault_number f; source = Neither; at = 0; len = 0; clean = false } ≡ either_place a b x
  either-site-refused f e =
      ap {B = EitherPlace} (λ (n : ℕ). record { number = n; source = Neither; at = 0; len = 0; clean = false }) (sym (refused-number a f e))
      ∙ sym (either-theorems.site_fault a b x (refused-some a f e))

  module _ (m : Bool) (ea : checked_of (Ok m) ≡ bind_checked deepest a) where
    pub either-default-refused : (f : Fault) → checked_of (Err f) ≡ bind_checked deepest b
        → record { number = fault_number f; source = Neither; at = 0; len = 0; clean = false } ≡ either_place a b x
    either-default-refused f e =
        ap {B = EitherPlace} (λ (n : ℕ). record { number = n; source = Neither; at = 0; len = 0; clean = false }) (sym (refused-number b f e))
        ∙ sym (either-theorems.default_fault a b x (accepted-number a m ea) (refused-some b f e))

    module _ (n : Bool) (eb : checked_of (Ok n) ≡ bind_checked deepest b) where
      faultless : either_fault a b ≡ 0
      faultless = else-zero (bind_fault deepest a) (bind_fault deepest b) (accepted-number a m ea) (accepted-number b n eb)

      pub either-in-site : (i : ℕ) → i ≡ index_of a x → i < child_count a → sourced Site (placed 0 m a i) ≡ either_place a b x
      either-in-site i p h =
          ap (sourced Site) (is-found (either_fault a b) a m i (index_of a x) faultless (accepted-mark a m ea) p h)
          ∙ sym (from-site a b x (omega arith))

      module _ (none : child_count a ≡ index_of a x) where
        pub either-in-default : (i : ℕ) → i ≡ index_of b x → i < child_count b → sourced Default (placed 0 n b i) ≡ either_place a b x
        either-in-default i p h =
            ap (sourced Default) (is-found (either_fault a b) b n i (index_of b x) faultless (accepted-mark b n eb) p h)
            ∙ sym (from-default a b x (omega arith))

        pub either-in-neither : child_count b ≡ index_of b x → record { number = 19; source = Neither; at = 0; len = 0; clean = false } ≡ either_place a b x
        either-in-neither p =
            let q = is-missing (either_fault a b) b n (child_count b) (index_of b x) faultless (accepted-mark b n eb) p (omega arith) in
            sym (sourced-refused Default _ (λ z. omega arith)) ∙ ap (sourced Default) q ∙ sym (from-default a b x (omega arith))

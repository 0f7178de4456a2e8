-- A slice of slices, by the lists behind its elements: one element, and the bytes of the elements one after the other, as a loop writes them.
use Prim.Native.Nat.{ℕ, ◌+◌, ◌≤◌, ◌<◌}
use mathlib.Core.Path.{◌≡◌, sym, ap, ◌∙◌}
use mathlib.Core.List.{List, [], map}
use native.Mathlib.Omega.{arith}
use denote.Ref.{Bor}
use lib.ListN.{length, get_or, take, length-map, get_or-map}
use lib.Seq.{sets}
use Rattle.fields.specs.Lists.{flat}
use Rattle.fields.proofs.Laws.Lists.{flat-all, length-flat-next, length-flat-le}
use Rattle.fields.proofs.Laws.Stores.{sets-flat-next}
use Rattle.bind_writer.specs.ChildLists.{SameCount}

-- what is read past the end of a slice of slices
abbrev pub none : Bor (List ℕ)
none = record { ref_ptr = (0, 0); now = [] }

-- elements of any kind, one part of each of which is given as a slice
module _ {A : Type 0} (f : A → List ℕ) (xs : List A) (ps : List (Bor (List ℕ))) (e : map f xs ≡ map (λ x. x.now) ps) where
  pub length-given : length xs ≡ length ps
  length-given = sym (length-map xs f) ∙ ap length e ∙ length-map ps (λ x. x.now)

  pub given-at : (i : ℕ) (d : A) → f d ≡ [] → f (get_or xs i d) ≡ (get_or ps i none).now
  given-at i d z =
      sym (get_or-map f xs i d) ∙ ap (get_or (map f xs) i) z ∙ ap (λ (l : List (List ℕ)). get_or l i []) e ∙ get_or-map (λ x. x.now) ps i none

-- three slices of slices, by their lengths
module _ (ts ns ds : List (Bor (List ℕ))) where
  pub same_count : length ns ≡ length ts → length ds ≡ length ts → SameCount (map (λ x. x.now) ts) (map (λ x. x.now) ns) (map (λ x. x.now) ds)
  same_count p q =
      record {
        names = length-map ns (λ x. x.now) ∙ p ∙ sym (length-map ts (λ x. x.now));
        contents = length-map ds (λ x. x.now) ∙ q ∙ sym (length-map ts (λ x. x.now));
      }

  pub count_same : SameCount (map (λ x. x.now) ts) (map (λ x. x.now) ns) (map (λ x. x.now) ds) → (length ns ≡ length ts) × (length ds ≡ length ts)
  count_same h =
      (sym (length-map ns (λ x. x.now)) ∙ h.names ∙ length-map ts (λ x. x.now), sym (length-map ds (λ x. x.now)) ∙ h.contents ∙ length-map ts (λ x. x.now))

module _ (f : List ℕ → List ℕ) (ps : List (Bor (List ℕ))) (i : ℕ) where
  at-now : get_or (map (λ x. x.now) ps) i [] ≡ (get_or ps i none).now
  at-now = get_or-map (λ x. x.now) ps i none

  pub slices-all : length ps ≤ i → flat f (take i (map (λ x. x.now) ps)) ≡ flat f (map (λ x. x.now) ps)
  slices-all h = flat-all f (map (λ x. x.now) ps) i (omega (arith, length-map ps (λ x. x.now)))

  module _ (h : i < length ps) where
    below : i < length (map (λ x. x.now) ps)
    below = omega (arith, length-map ps (λ x. x.now))

    pub length-slices-next : length (flat f (take (i + 1) (map (λ x. x.now) ps))) ≡ length (flat f (take i (map (λ x. x.now) ps))) + length (f (get_or ps i none).now)
    length-slices-next =
        length-flat-next f (map (λ x. x.now) ps) i [] below ∙ ap (λ (x : List ℕ). length (flat f (take i (map (λ x. x.now) ps))) + length (f x)) at-now

    pub length-slices-le : length (flat f (take i (map (λ x. x.now) ps))) + length (f (get_or ps i none).now) ≤ length (flat f (map (λ x. x.now) ps))
    length-slices-le = omega (arith, length-slices-next, length-flat-le f (map (λ x. x.now) ps) (i + 1))

    pub sets-slices-next : (out : List ℕ) (at : ℕ)
        → sets (sets out at (flat f (take i (map (λ x. x.now) ps)))) (at + length (flat f (take i (map (λ x. x.now) ps)))) (f (get_or ps i none).now)
        ≡ sets out at (flat f (take (i + 1) (map (λ x. x.now) ps)))
    sets-slices-next out at =
        ap (λ (x : List ℕ). sets (sets out at (flat f (take i (map (λ x. x.now) ps)))) (at + length (flat f (take i (map (λ x. x.now) ps)))) (f x)) (sym at-now)
        ∙ sets-flat-next f out at (map (λ x. x.now) ps) i [] below

-- The walks over what children are written as: past some of them they come to the others.
use Prim.Native.Nat.{ℕ, suc, ◌*◌}
use mathlib.Core.Path.{◌≡◌, refl, sym, ap, ap₂, subst, ◌∙◌}
use mathlib.Core.List.{List, [], ◌∷◌, ◌++◌, append_assoc, append-nil}
use lib.ListN.{length, drop}
use lib.Seq.{drop_at}
use Rattle.fields.specs.Bytes.{same}
use Rattle.fields.specs.Lists.{Each, flat}
use Rattle.fields.specs.Text.{past_text}
use Rattle.fields.proofs.Laws.Bytes.{same_refl, not_same}
use Rattle.fields.proofs.Laws.Lists.{each-middle, flat-cons, flat_append}
use Rattle.bind_layout.specs.Children.{Child, child_header, child_name, child_data, padded, WellChild}
use Rattle.bind_layout.specs.BindLayout.{size_of, after_block}
use Rattle.bind_layout.proofs.Laws.Children.{header-size, header-rest, name_text, name-rest, block-rest}
use Rattle.bind_layout.proofs.Laws.Written.{length-headers, data-front}
use Rattle.bind_lookup.specs.ChildLookup.{names_from, data_from, index_in}
use Rattle.bind_lookup.specs.LookupTheorems.{NoneNamed}

module _ (others : List Child) (r : List ℕ) where
  pub headers-past : (cs : List Child) → drop (20 * length cs) (flat child_header (cs ++ others) ++ r) ≡ flat child_header others ++ r
  headers-past cs =
      ap (λ (l : List ℕ). drop (20 * length cs) (l ++ r)) (flat_append child_header cs others)
      ∙ ap (drop (20 * length cs)) (append_assoc (flat child_header cs) (flat child_header others) r)
      ∙ drop_at (flat child_header cs) (flat child_header others ++ r) (20 * length cs) (length-headers cs)

  pub names-past : (cs : List Child) → Each WellChild (cs ++ others) → names_from (length cs) (flat child_name (cs ++ others) ++ r) ≡ flat child_name others ++ r
  unfolding names_from
  names-past [] w = refl
  names-past (c ∷ cs) w =
      ap (λ (l : List ℕ). names_from (length cs) (past_text l)) (flat-cons child_name c (cs ++ others) r)
      ∙ ap (names_from (length cs)) (name-rest c w.0 (flat child_name (cs ++ others) ++ r))
      ∙ names-past cs w.1

  pub data-past : (cs : List Child) → Each WellChild (cs ++ others)
      → data_from (length cs) (flat child_header (cs ++ others) ++ r) (flat child_data (cs ++ others)) ≡ flat child_data others
  unfolding data_from
  data-past [] w = refl
  data-past (c ∷ cs) w =
      let l = flat child_header (cs ++ others) ++ r in
      let d = flat child_data (cs ++ others) in
      ap₂ (λ (x y : List ℕ). data_from (length cs) (drop 20 x) (after_block (size_of x) y)) (flat-cons child_header c (cs ++ others) r) (data-front c (cs ++ others))
      ∙ ap₂ (λ (x : List ℕ) (n : ℕ). data_from (length cs) x (after_block n (padded c.content ++ d))) (header-rest c l) (header-size c l w.0)
      ∙ ap (data_from (length cs) l) (block-rest c.content d)
      ∙ data-past cs w.1

-- one step of the search for a name
module _ (c : Child) (w : WellChild c) (k : ℕ) (t x : List ℕ) where
  index-here : c.name ≡ x → index_in (suc k) (child_name c ++ t) x ≡ 0
  unfolding index_in
  index-here e = simp (ap₂ same (name_text c w t) (sym e) ∙ same_refl c.name)

  index-further : (c.name ≡ x → ⊥) → index_in (suc k) (child_name c ++ t) x ≡ suc (index_in k t x)
  unfolding index_in
  index-further h =
      simp (ap (λ (l : List ℕ). same l x) (name_text c w t) ∙ not_same c.name x h) (ap (λ (l : List ℕ). suc (index_in k l x)) (name-rest c w t))

-- past children without the name, where the search ends at the others
module _ (x : List ℕ) (others : List Child) (r : List ℕ) (h : index_in (length others) (flat child_name others ++ r) x ≡ 0) where
  index-past : (cs : List Child) → Each WellChild (cs ++ others) → NoneNamed x cs
      → index_in (length (cs ++ others)) (flat child_name (cs ++ others) ++ r) x ≡ length cs
  index-past [] w n = h
  index-past (c ∷ cs) w n =
      ap (λ (t : List ℕ). index_in (suc (length (cs ++ others))) t x) (flat-cons child_name c (cs ++ others) r)
      ∙ index-further c w.0 (length (cs ++ others)) (flat child_name (cs ++ others) ++ r) x n.0
      ∙ ap suc (index-past cs w.1 n.1)

pub index-first : (x : List ℕ) (before : List Child) (c : Child) (after : List Child) (r : List ℕ) → Each WellChild (before ++ (c ∷ after)) → c.name ≡ x
    → NoneNamed x before → index_in (length (before ++ (c ∷ after))) (flat child_name (before ++ (c ∷ after)) ++ r) x ≡ length before
index-first x before c after r w e n =
    let h = ap (λ (t : List ℕ). index_in (suc (length after)) t x) (flat-cons child_name c after r)
    ∙ index-here c (each-middle WellChild before c after w) (length after) (flat child_name after ++ r) x e in
    index-past x (c ∷ after) r h before w n

pub index-none : (x : List ℕ) (cs : List Child) (r : List ℕ) → Each WellChild cs → NoneNamed x cs → index_in (length cs) (flat child_name cs ++ r) x ≡ length cs
unfolding index_in
index-none x cs r w n =
    let e = append-nil cs in
    ap (λ (l : List Child). index_in (length l) (flat child_name l ++ r) x) (sym e)
    ∙ index-past x [] r refl cs (subst (Each WellChild) (sym e) w) n

-- An index is that of a child or past them, and a name is that of a first child or of none.
use Prim.Native.Nat.{ℕ, suc, ◌<◌, ◌≤◌}
use mathlib.Core.Path.{refl, sym}
use mathlib.Core.Logic.{◌⊎◌, inl, inr, ⊎_elim}
use mathlib.Core.List.{List}
use native.Mathlib.Nat.{le_of_lt}
use lib.Dec.{ltb}
use lib.ListN.{length, get_or, take, drop}
use lib.Seq.{split_at, length-take-le}
use borrow.Author.Tests.{ltb-true, ltb-false}
use Rattle.fields.proofs.Laws.Lists.{first_or_none}
use Rattle.fields.proofs.Laws.Tests.{by-test}
use Rattle.bind_layout.specs.Children.{Child}
use Rattle.content.proofs.Laws.Faults.{no_child}
use Rattle.bind_lookup.specs.LookupTheorems.{AtIndex, NoneNamed, FirstNamed}

pub index_or_none : (n : ℕ) (cs : List Child) → ((c : Child) × AtIndex n c cs) ⊎ (length cs ≤ n)
index_or_none n cs =
    by-test (ltb n (length cs))
    (λ e.
    let h : n < length cs = ltb-true n (length cs) e in
    inl (
      get_or cs n no_child,
      record {
        before = take n cs;
        after = drop (suc n) cs;
        list = sym (split_at cs n no_child h);
        index = length-take-le n cs (le_of_lt h);
      },
    ))
    (λ e. inr (ltb-false n (length cs) e))

pub named_or_none : (x : List ℕ) (cs : List Child) → ((n : ℕ) × (c : Child) × FirstNamed x n c cs) ⊎ NoneNamed x cs
named_or_none x cs =
    ⊎_elim
    (λ r.
    inl (
      length r.0,
      r.1,
      record { at_index = record { before = r.0; after = r.2; list = r.3; index = refl }; named = r.4; first = r.5 },
    ))
    inr
    (first_or_none (λ c. c.name) x cs)

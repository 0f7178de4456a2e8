-- The check of the three lists: what it says where it passes, and that it fails otherwise.
use Prim.Native.Nat.{ℕ}
use mathlib.Core.Path.{◌≡◌}
use mathlib.Core.Bool.{true, false, ◌&&◌}
use mathlib.Core.List.{List}
use lib.Dec.{eqb}
use lib.ListN.{length}
use borrow.Author.Tests.{eqb-true, eq-eqb}
use Rattle.fields.specs.Lists.{all_of}
use Rattle.fields.proofs.Laws.Checks.{and_split, and-join}
use Rattle.fields.proofs.Laws.Tests.{is_false}
use Rattle.bind_writer.specs.ChildLists.{children, SameCount}
use Rattle.bind_writer.specs.BindWriter.{texts_ok, count_fits, table_fits, lists_ok}

pub record ListsPassed (ts ns ds : List (List ℕ)) : Type 0 where
  pub count : SameCount ts ns ds
  pub few : count_fits ts ≡ true
  pub texts : all_of texts_ok (children ts ns ds) ≡ true
  pub table : table_fits (children ts ns ds) ≡ true

module _ (ts ns ds : List (List ℕ)) where
  pub lists-passed : lists_ok ts ns ds ≡ true → ListsPassed ts ns ds
  unfolding lists_ok
  lists-passed h =
      let a = and_split (eqb (length ns) (length ts)) _ h in
      let b = and_split (eqb (length ds) (length ts)) _ a.1 in
      let k = and_split (count_fits ts) _ b.1 in
      let t = and_split (all_of texts_ok (children ts ns ds)) _ k.1 in
      record {
        count = record { names = eqb-true (length ns) (length ts) a.0; contents = eqb-true (length ds) (length ts) b.0 };
        few = k.0;
        texts = t.0;
        table = t.1;
      }

  pub lists-pass : ListsPassed ts ns ds → lists_ok ts ns ds ≡ true
  unfolding lists_ok
  lists-pass l =
      and-join _ _ (eq-eqb (length ns) (length ts) l.count.names)
      (and-join _ _ (eq-eqb (length ds) (length ts) l.count.contents)
      (and-join _ _ l.few (and-join _ _ l.texts l.table)))

  -- where the other tests pass, the table's decides
  pub lists-by-table : SameCount ts ns ds → count_fits ts ≡ true → all_of texts_ok (children ts ns ds) ≡ true → lists_ok ts ns ds ≡ table_fits (children ts ns ds)
  unfolding lists_ok
  lists-by-table l f t =
      λ i. eq-eqb (length ns) (length ts) l.names i && (eq-eqb (length ds) (length ts) l.contents i && (f i && (t i && table_fits (children ts ns ds))))

  pub lists-refused : (ListsPassed ts ns ds → ⊥) → lists_ok ts ns ds ≡ false
  lists-refused n = is_false (lists_ok ts ns ds) (λ e. n (lists-passed e))

-- `bind_writer::lists_ok` meets its contract: where the counts and the texts pass, the table decides; else what fails contradicts what lists that
-- pass say.
use Prim.Native.Nat.{ℕ}
use mathlib.Core.Path.{◌≡◌, ap, sym, ◌∙◌}
use mathlib.Core.Bool.{true, false≢true, ◌&&◌}
use mathlib.Core.List.{List, map}
use denote.Ref.{Bor}
use lib.Dec.{eqb, leb}
use lib.ListN.{length, length-map}
use borrow.Author.Tests.{eqb-true, eq-eqb}
use Rattle.fields.proofs.Laws.Checks.{and_split}
use Rattle.bind_writer.specs.ChildLists.{children, SameCount}
use Rattle.bind_writer.specs.BindWriter.{count_fits}
use Rattle.bind_writer.proofs.Laws.Slices.{same_count, count_same}
use Rattle.bind_writer.proofs.Laws.Children.{lists_of}
use Rattle.bind_writer.proofs.Laws.Layout.{lists-by-table, lists-refused}
use Rattle.bind_writer.proofs.Laws.Encoding.{table-given}
use Rattle.bind_writer.proofs.lists_ok.Goals as goal
use Rattle.bind_writer.proofs.lists_ok.Goals.{then-counts_ok, else-counts_ok}

module _ (ts ns ds : List (Bor (List ℕ))) where
  abbrev Counts : Type 0
  Counts = (eqb (length ns) (length ts) && (eqb (length ds) (length ts) && leb (length ts) 65535)) ≡ true

  few : leb (length ts) 65535 ≡ count_fits (map (λ x. x.now) ts)
  few = ap (λ (n : ℕ). leb n 65535) (sym (length-map ts (λ x. x.now)))

  counted : Counts → SameCount (map (λ x. x.now) ts) (map (λ x. x.now) ns) (map (λ x. x.now) ds) × (count_fits (map (λ x. x.now) ts) ≡ true)
  counted h =
      let a = and_split (eqb (length ns) (length ts)) _ h in
      let b = and_split (eqb (length ds) (length ts)) _ a.1 in
      (same_count ts ns ds (eqb-true (length ns) (length ts) a.0) (eqb-true (length ds) (length ts) b.0), sym few ∙ b.1)

  counts : SameCount (map (λ x. x.now) ts) (map (λ x. x.now) ns) (map (λ x. x.now) ds) → count_fits (map (λ x. x.now) ts) ≡ true → Counts
  counts h f =
      let e = count_same ts ns ds h in
      λ i. eq-eqb (length ns) (length ts) e.0 i && (eq-eqb (length ds) (length ts) e.1 i && (few ∙ f) i)

pub returns-then-texts_ok : goal.returns-then-texts_ok
returns-then-texts_ok c =
    let a = c.args in
    let ts = map (λ x. x.now) a.types.now in
    let ns = map (λ x. x.now) a.names.now in
    let ds = map (λ x. x.now) a.contents.now in
    elim c.if-counts_ok.branch [
      | then-counts_ok w ↦
          let k = counted a.types.now a.names.now a.contents.now (sym c.counts_ok.ensures ∙ w.if-counts_ok.true) in
          let e = lists_of ts ns ds k.0 in
          let texts = sym (w.texts_ok.ensures (children ts ns ds) e.0 e.1) ∙ sym w.value-is ∙ c.if-texts_ok.true in
          c.table_ok.ensures ∙ ap (λ t. leb (length t) 65535) (sym (table-given ts ns ds k.0)) ∙ sym (lists-by-table ts ns ds k.0 k.1 texts)
      | else-counts_ok w ↦ absurd (false≢true (sym w.if-counts_ok.false ∙ sym w.value-is ∙ c.if-texts_ok.true))
    ]

pub returns-else-texts_ok : goal.returns-else-texts_ok
returns-else-texts_ok c =
    let a = c.args in
    let ts = map (λ x. x.now) a.types.now in
    let ns = map (λ x. x.now) a.names.now in
    let ds = map (λ x. x.now) a.contents.now in
    c.if-texts_ok.false
    ∙ sym (lists-refused ts ns ds (λ l.
    elim c.if-counts_ok.branch [
      | then-counts_ok w ↦
          let e = lists_of ts ns ds l.count in
          false≢true (sym c.if-texts_ok.false ∙ w.value-is ∙ w.texts_ok.ensures (children ts ns ds) e.0 e.1 ∙ l.texts)
      | else-counts_ok w ↦ false≢true (sym w.if-counts_ok.false ∙ c.counts_ok.ensures ∙ counts a.types.now a.names.now a.contents.now l.count l.few)
    ]))

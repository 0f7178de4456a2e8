-- `message::body::put_extended` meets its contract: seven stores, each where the one before it ends, are one of the joined fields.
use Prim.Native.Nat.{ℕ, ◌+◌}
use mathlib.Core.Path.{refl, ap, ap₂, sym, ◌∙◌, subst}
use native.Mathlib.Omega.{arith}
use mathlib.Core.List.{List}
use lib.ListN.{length}
use lib.Seq.{sets}
use borrow.Author.Rules.{rules}
use Rattle.fields.specs.Numbers.{be_bytes}
use Rattle.metadata.specs.MetadataCheck.{index_size_in}
use Rattle.content.specs.ContentCheck.{deepest}
use Rattle.cleaning.specs.CleanBytes.{clean_bytes}
use Rattle.cleaning.proofs.Laws.Lengths.{length-clean}
use Rattle.cleaning.proofs.Laws.CleaningWalk.{put-left}
use Rattle.message.specs.declared.extended.ExtendedNumbers.{ExtendedNumbers}
use Rattle.message.specs.Body.{extended_numbers, MetadataFits}
use Rattle.message.specs.MessageWriter.{sections_given}
use Rattle.message.proofs.Laws.Body.{body-2, extended-stored}
use Rattle.message.proofs.body.put_extended.Goals as goal

pub overflow_add-content_at : goal.overflow_add-content_at
overflow_add-content_at c = omega (arith, (c.requires.0 refl).0)

pub overflow_add-metadata_at : goal.overflow_add-metadata_at
overflow_add-metadata_at c = omega (arith, (c.requires.0 refl).0, c.requires.1)

pub extended_numbers-numbers-requires : goal.extended_numbers-numbers-requires
extended_numbers-numbers-requires c = subst (λ (k : ℕ). MetadataFits c.args.layout k (length c.args.message.metadata.now)) (sym c.index_size-index.ensures) (c.requires.0 refl).1

pub overflow_cast-content_at : goal.overflow_cast-content_at
overflow_cast-content_at c = search (rules, (c.requires.0 refl).0)

pub returns : goal.returns
returns c =
    -- the seven stores, from the last to the first
    let a = c.args in
    let m = a.message in
    let t = m.type_text.now in
    let y = m.content.now in
    let n : ℕ = 12 + length m.further.now in
    let x = sections_given m.id m.further.now (clean_bytes deepest t y) m.metadata.now in
    let e = c.extended_numbers-numbers.ensures
    ∙ ap (λ (k : ℕ). extended_numbers a.layout k (length m.metadata.now) m.id) c.index_size-index.ensures in
    let front = c.put-5.ensures
    ∙ ap (λ (r : List ℕ). sets r 12 m.further.now)
    (c.put-4.ensures
    ∙ ap₂ (λ (r : List ℕ) (x : ExtendedNumbers). sets r 8 (be_bytes 4 x.fourth))
    (c.put-3.ensures
    ∙ ap₂ (λ (r : List ℕ) (x : ExtendedNumbers). sets r 4 (be_bytes 4 x.third))
    (c.put-2.ensures ∙ ap₂ (λ (r : List ℕ) (x : ExtendedNumbers). sets r 2 (be_bytes 2 x.second)) c.put.ensures e) e) e) in
    let clean =
    put-left deepest t y n _ _ c.put_clean.ensures
    (omega (arith, c.requires.2, c.put-5.auto.out, c.put-4.auto.out, c.put-3.auto.out, c.put-2.auto.out, c.put.auto.out)) in
    c.put-6.ensures
    ∙ ap₂ (λ (r : List ℕ) (k : ℕ). sets r (n + k) m.metadata.now) (clean ∙ ap (λ (r : List ℕ). sets r n (clean_bytes deepest t y)) front) (sym (length-clean deepest t y))
    ∙ extended-stored a.layout (index_size_in m.metadata.now) x a.out.now
    ∙ ap (sets a.out.now 0) (sym (body-2 a.layout 2 (index_size_in m.metadata.now) x refl))

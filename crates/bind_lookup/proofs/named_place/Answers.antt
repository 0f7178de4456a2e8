-- `bind_lookup::named_place` meets its contract: the fault of the content, then the index of the name.
use Prim.Native.Nat.{ℕ, ◌<◌}
use mathlib.Core.Path.{◌≡◌, sym, ap, subst, ◌∙◌}
use native.Mathlib.Omega.{arith}
use Rattle.std.specs.Prelude.{Option, IfSome, Err}
use Rattle.fields.specs.declared.fault.Fault.{Fault}
use Rattle.fields.proofs.Laws.Answer.{passed_on}
use Rattle.bind_layout.specs.BindLayout.{child_count}
use Rattle.bind_lookup.specs.ChildLookup.{index_or, index_of, place_answer}
use Rattle.bind_lookup.proofs.Laws.Judged.{not_found, place-of-refused, place-of-found, place-of-missing}
use Rattle.bind_lookup.proofs.named_place.Goals as goal

pub returns-in_err-mark : goal.returns-in_err-mark
returns-in_err-mark c =
    let s = c.args.content.now in
    let f = c.in_err-mark.field-0.0 in
    ap place_answer (passed_on f c.from_residual.result c.from_residual.ensures.1) ∙ place-of-refused s f c.in_err-mark.ensures (index_of s c.args.name.now)

pub returns-in_err-i : goal.returns-in_err-i
returns-in_err-i c =
    let s = c.args.content.now in
    let f = c.in_err-i.field-0.0 in
    let none = c.in_err-i.ensures.ok_part in
    let p : child_count s ≡ index_of s c.args.name.now = ap (index_or (child_count s)) (sym none) ∙ c.index_of.ensures.value in
    ap place_answer (passed_on f c.from_residual-in_err-i.result c.from_residual-in_err-i.ensures.1)
    ∙ ap (λ (g : Fault). place_answer (Err g)) (not_found c.index_of.result f none c.in_err-i.ensures.value)
    ∙ place-of-missing s c.in_ok-mark.mark c.in_ok-mark.ensures (index_of s c.args.name.now) (omega arith)

pub returns : goal.returns
returns c =
    let s = c.args.content.now in
    let i = c.in_ok-i.i in
    let some = c.in_ok-i.ensures.ok_part in
    let p : i ≡ index_of s c.args.name.now = ap (index_or (child_count s)) (sym some) ∙ c.index_of.ensures.value in
    let h : i < child_count s = subst (λ (o : Option ℕ). IfSome o (λ j. j < child_count s)) some c.index_of.ensures.inside in
    c.place_at.ensures ∙ place-of-found s c.in_ok-mark.mark c.in_ok-mark.ensures i (index_of s c.args.name.now) p h

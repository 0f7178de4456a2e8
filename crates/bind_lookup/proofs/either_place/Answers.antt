-- `bind_lookup::either_place` meets its contract: the faults of the two bundles, then the site's bundle where it has the name, else the default one.
use Prim.Native.Nat.{ℕ, ◌<◌}
use mathlib.Core.Path.{◌≡◌, sym, ap, subst, ◌∙◌}
use Rattle.std.specs.Prelude.{Option, IfSome, Err}
use Rattle.fields.specs.declared.fault.Fault.{Fault}
use Rattle.fields.proofs.Laws.Answer.{passed_on}
use Rattle.bind_layout.specs.BindLayout.{child_count}
use Rattle.bind_lookup.specs.ChildLookup.{index_or, index_of}
use Rattle.bind_lookup.specs.EitherLookup.{Site, Default, sourced, either_answer}
use Rattle.bind_lookup.proofs.Laws.Judged.{not_found, either-site-refused, either-default-refused, either-in-site, either-in-default, either-in-neither}
use Rattle.bind_lookup.proofs.either_place.Goals as goal

pub returns-in_err-site_clean : goal.returns-in_err-site_clean
returns-in_err-site_clean c =
    let z = c.args in
    let f = c.in_err-site_clean.field-0.0 in
    ap either_answer (passed_on f c.from_residual.result c.from_residual.ensures.1)
    ∙ either-site-refused z.site.now z.default.now z.name.now f c.in_err-site_clean.ensures

pub returns-in_err-default_clean : goal.returns-in_err-default_clean
returns-in_err-default_clean c =
    let z = c.args in
    let f = c.in_err-default_clean.field-0.0 in
    let r = c.from_residual-in_err-default_clean in
    let a = c.in_ok-site_clean in
    ap either_answer (passed_on f r.result r.ensures.1)
    ∙ either-default-refused z.site.now z.default.now z.name.now a.site_clean a.ensures f c.in_err-default_clean.ensures

pub returns-in-Some : goal.returns-in-Some
unfolding sourced
returns-in-Some c =
    let z = c.args in
    let a = c.in_ok-site_clean in
    let b = c.in_ok-default_clean in
    let i = c.in-Some in
    ap (sourced Site) c.place_at.ensures
    ∙ either-in-site z.site.now z.default.now z.name.now a.site_clean a.ensures b.default_clean b.ensures i.i i.ensures.value i.ensures.inside

pub returns-in_err-i : goal.returns-in_err-i
returns-in_err-i c =
    let z = c.args in
    let a = c.in_ok-site_clean in
    let b = c.in_ok-default_clean in
    let f = c.in_err-i.field-0.0 in
    let none = c.in_err-i.ensures.ok_part in
    let n = child_count z.default.now in
    let p : n ≡ index_of z.default.now z.name.now = ap (index_or n) (sym none) ∙ c.index_of-2.ensures.value in
    ap either_answer (passed_on f c.from_residual-in_err-i.result c.from_residual-in_err-i.ensures.1)
    ∙ ap (λ (g : Fault). either_answer (Err g)) (not_found c.index_of-2.result f none c.in_err-i.ensures.value)
    ∙ either-in-neither z.site.now z.default.now z.name.now a.site_clean a.ensures b.default_clean b.ensures c.in_default.ensures.value p

pub returns : goal.returns
unfolding sourced
returns c =
    let z = c.args in
    let a = c.in_ok-site_clean in
    let b = c.in_ok-default_clean in
    let i = c.in_ok-i.i in
    let some = c.in_ok-i.ensures.ok_part in
    let n = child_count z.default.now in
    let p : i ≡ index_of z.default.now z.name.now = ap (index_or n) (sym some) ∙ c.index_of-2.ensures.value in
    let h : i < n = subst (λ (o : Option ℕ). IfSome o (λ j. j < n)) some c.index_of-2.ensures.inside in
    ap (sourced Default) c.place_at-2.ensures
    ∙ either-in-default z.site.now z.default.now z.name.now a.site_clean a.ensures b.default_clean b.ensures c.in_default.ensures.value i p h

use mathlib.Core.Path.{◌≡◌, sym, ap, ap₂, ◌∙◌}
use mathlib.Core.Bool.{Bool, true, false, cond, ◌&&◌}
use mathlib.Core.List.{List}
use Prim.Native.Nat.{ℕ, ◌-◌, ◌+◌, ◌<◌}
use native.Mathlib.Omega.{arith}
use lib.ListN.{take}
use Rattle.fields.specs.Text.{text_ok, field_ok}
use Rattle.fields.specs.declared.fault.Fault.TheVariants.{Bind}
use Rattle.fields.proofs.Laws.Answer.{mark_is, refusal_is}
use Rattle.fields.specs.Received.{TextField}
use Rattle.fields.proofs.Laws.Checks.{and_assoc, and-true, and-false}
use Rattle.bind_layout.specs.BindLayout.{types_ok, types_clean}
use Rattle.bind_layout.proofs.Laws.Marks.{types-end, types-stop, types-next, clean-next, clean-stop, types-answer}
use Rattle.bind_layout.proofs.layout_check.types_check.Goals as goal

pub returns-in_default : goal.returns-in_default
returns-in_default c =
    let l = c.loop in
    let k = c.args.n - l.counter in
    let h = l.left.now in
    let p : 0 < k = omega (arith, c.loop-test.true) in
    let e : text_ok (take 12 h) ≡ false = sym (ap (λ (x : TextField). x.ok) c.in_default.ensures ∙ ap text_ok c.first.ensures) in
    let no = ap {B = ℕ} (λ (t : Bool). cond t 0 10) (l.invariant.0 ∙ types-stop k h p e) in
    refusal_is Bind false ∙ types-answer _ _ (sym no) (sym (l.invariant.1 ∙ ap (λ (t : Bool). l.clean && t) (clean-stop k h p e) ∙ and-false l.clean))

pub loop-preserved : goal.loop-preserved
loop-preserved c =
    let l = c.loop in
    let k = c.args.n - l.counter in
    let h = l.left.now in
    let p : 0 < k = omega (arith, c.loop-test.true) in
    let first = c.first.ensures in
    let read = c.in-Some.ensures in
    let e : text_ok (take 12 h) ≡ true = sym (ap (λ (x : TextField). x.ok) read ∙ ap text_ok first) in
    let m = ap (λ (x : TextField). x.clean) read ∙ ap field_ok first in
    let r = c.rest-left.result.now in
    let n : k - 1 ≡ c.args.n - (l.counter + 1) = omega arith in (
      l.invariant.0 ∙ types-next k h p e ∙ ap₂ types_ok n (sym c.rest-left.ensures),
      l.invariant.1
          ∙ ap (λ (t : Bool). l.clean && t) (clean-next k h p ∙ ap₂ (λ (a : Bool) (x : List ℕ). a && types_clean (k - 1) x) (sym m) (sym c.rest-left.ensures))
          ∙ sym (and_assoc l.clean c.in-Some.field.clean (types_clean (k - 1) r))
          ∙ ap (λ (j : ℕ). (l.clean && c.in-Some.field.clean) && types_clean j r) n,
    )

pub returns : goal.returns
returns c =
    let l = c.loop in
    let k = c.args.n - l.counter in
    let e = types-end k l.left.now (omega (arith, c.loop-test.false)) in
    let yes = ap {B = ℕ} (λ (t : Bool). cond t 0 10) (l.invariant.0 ∙ e.0) in
    mark_is l.clean ∙ types-answer _ _ (sym yes) (sym (l.invariant.1 ∙ ap (λ (t : Bool). l.clean && t) e.1 ∙ and-true l.clean))

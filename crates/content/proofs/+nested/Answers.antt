use mathlib.Core.Path.{◌≡◌, refl, sym, ap, ap₂, ◌∙◌, subst}
use mathlib.Core.Logic.{◌⊎◌, inl, inr}
use mathlib.Core.Bool.{Bool, true, false, cond, ◌&&◌}
use Rattle.pose.specs.TransformReader.{transform_fault}
use Rattle.pose.specs.PositionReader.{position_fault, count_fault}
use Rattle.image.specs.ImageReader.{image_fault, rule_fault}
use mathlib.Core.List.{List}
use Prim.Native.Nat.{ℕ, ◌+◌, ◌-◌, ◌%◌, ◌<◌, ◌≤◌}
use native.Mathlib.Omega.{arith}
use lib.ListN.{length, take, drop, length-take, length-drop}
use Rattle.bind_layout.specs.BindLayout.{child_count, headers, data_of, type_of, size_of, after_block}
use Rattle.std.specs.Prelude.{Err}
use Rattle.fields.specs.declared.fault.Fault.TheVariants.{BindDepth}
use Rattle.fields.specs.Answer.{Checked, checked_of, checked}
use Rattle.fields.proofs.Laws.Answer.{fault_some, mark_is, refusal_is, passed_on}
use Rattle.fields.proofs.Laws.Checks.{and_assoc, and-true}
use Rattle.bind_layout.proofs.Laws.Read.{data-shorter}
use Rattle.content.specs.declared.Kind.TheVariants.{Transform, Position, Image, Other}
use Rattle.content.specs.ContentCheck.{children_fault, bind_fault, children_clean, bind_clean, content_checked}
use Rattle.content.proofs.Laws.ChildrenWalk.{kind-checked, kind-bound, bind-none-left, bind-walk, children-end, children-stop, children-next, bind-refused, bind-passed, bind-mark, layout-number, layout-stop, marks-end, marks-next, child-fault, child-stop}
use Rattle.content.proofs.+nested.Goals as goal

-- the answer for the child in front, as the walk names it
child-answer : (l : ℕ) (h d : List ℕ) {r : Checked} {n : ℕ} {t x : List ℕ} → r ≡ content_checked l t x → t ≡ type_of h → x ≡ take n d → n ≡ size_of h
    → r ≡ content_checked l (type_of h) (take (size_of h) d)
child-answer l h d p q u v = p ∙ ap₂ (content_checked l) q (u ∙ ap (λ (m : ℕ). take m d) v)

length-after_block : (n : ℕ) (d : List ℕ) → length (after_block n d) ≡ length d - n - n % 2
length-after_block n d = length-drop (n % 2) (drop n d) ∙ ap (λ (m : ℕ). m - n % 2) (length-drop n d)

pub nested_bind_check-returns-then-levels-eq0 : goal.nested_bind_check-returns-then-levels-eq0
nested_bind_check-returns-then-levels-eq0 t c =
    let z = c.args in
    let e : 11 ≡ bind_fault z.levels z.content.now = sym (bind-none-left z.levels z.content.now c.if-levels-eq0.true) in
    refusal_is BindDepth true ∙ bind-refused z.levels 11 z.content.now true e (λ q. omega (arith, q))

pub nested_bind_check-returns-in_err-clean : goal.nested_bind_check-returns-in_err-clean
nested_bind_check-returns-in_err-clean t c =
    let z = c.args in
    let s = z.content.now in
    let f = c.in_err-clean.field-0.0 in
    let e = c.in_err-clean.ensures in
    let n = ap (λ (x : Checked). x.number) e ∙ layout-number s in
    ap checked_of (passed_on f c.from_residual.result c.from_residual.ensures.1) ∙ e ∙ layout-stop z.levels s c.if-levels-eq0.false (λ q. fault_some f (n ∙ q))

pub nested_bind_check-loop-init : goal.nested_bind_check-loop-init
nested_bind_check-loop-init t c =
    let z = c.args in
    let s = z.content.now in
    let f = children_fault (bind_fault (z.levels - 1)) in
    let g = children_clean (bind_clean (z.levels - 1)) in
    let layout = c.in_ok-clean.ensures in
    let h = sym (ap (λ (x : Checked). x.number) layout ∙ layout-number s) in
    let hs = sym c.of-left.ensures.headers in
    let ds = sym c.of-left.ensures.content in
    let k = c.child_count-end.result - 0 in
    let n : child_count s ≡ k = omega (arith, c.child_count-end.ensures) in
    let e = ap length c.of-left.ensures.content in
    let shorter = data-shorter s h in (
      bind-walk z.levels s c.if-levels-eq0.false h
          ∙ ap (λ (m : ℕ). f m (headers s) (data_of s)) n
          ∙ ap₂ (f k) hs ds,
      omega arith,
      bind-mark z.levels s c.if-levels-eq0.false c.in_ok-clean.clean (ap (λ (x : Checked). x.clean) layout) h
          ∙ ap (λ (m : ℕ). c.in_ok-clean.clean && g m (headers s) (data_of s)) n
          ∙ ap₂ (λ (x y : List ℕ). c.in_ok-clean.clean && g k x y) hs ds,
    )

pub nested_bind_check-nested_check-requires : goal.nested_bind_check-nested_check-requires
nested_bind_check-nested_check-requires t c =
    let d = c.loop.left.data.now in
    let e = ap length c.first.ensures ∙ length-take c.size-size.result d in
    (omega arith, tt)

pub nested_bind_check-returns-in_err-child : goal.nested_bind_check-returns-in_err-child
nested_bind_check-returns-in_err-child t c =
    let z = c.args in
    let l = z.levels - 1 in
    let h = c.loop.left.headers.now in
    let d = c.loop.left.data.now in
    let f = c.in_err-child.field-0.0 in
    let r = checked_of (Err f) in
    let k = c.child_count-end.result - c.loop.counter in
    let p : 0 < k = omega (arith, c.loop-test.true) in
    let e : r ≡ content_checked l (type_of h) (take (size_of h) d) = child-answer l h d c.in_err-child.ensures c.type_text.ensures c.first.ensures c.size-size.ensures in
    let stop = c.loop.invariant.0 ∙ children-stop l k h d p r.number (child-fault l k h d p r e) (fault_some f) in
    ap checked_of (passed_on f c.from_residual-in_err-child.result c.from_residual-in_err-child.ensures.1) ∙ child-stop l k h d p r e z.levels z.content.now stop (fault_some f)

pub nested_bind_check-loop-preserved : goal.nested_bind_check-loop-preserved
nested_bind_check-loop-preserved t c =
    let l = c.args.levels - 1 in
    let h = c.loop.left.headers.now in
    let d = c.loop.left.data.now in
    let m = c.in_ok-child.child in
    let r : Checked = record { number = 0; clean = m } in
    let k = c.child_count-end.result - c.loop.counter in
    let p : 0 < k = omega (arith, c.loop-test.true) in
    let e : r ≡ content_checked l (type_of h) (take (size_of h) d) = child-answer l h d c.in_ok-child.ensures c.type_text.ensures c.first.ensures c.size-size.ensures in
    let after = c.after-left.ensures.content ∙ ap (λ (m : ℕ). after_block m d) c.size-size.ensures in
    let n = ap length after ∙ length-after_block (size_of h) d in
    let hs = sym c.after-left.ensures.headers in
    let ds = sym after in
    let j : k - 1 ≡ c.child_count-end.result - (c.loop.counter + 1) = omega arith in
    let others : ℕ → List ℕ → List ℕ → Bool = children_clean (bind_clean l) in
    let x = c.after-left.result.headers.now in
    let y = c.after-left.result.data.now in (
      c.loop.invariant.0
          ∙ children-next l k h d p r.number (child-fault l k h d p r e) refl
          ∙ ap₂ (children_fault (bind_fault l) (k - 1)) hs ds
          ∙ ap (λ (m : ℕ). children_fault (bind_fault l) m x y) j,
      omega arith,
      c.loop.invariant.2
          ∙ ap (λ (b : Bool). c.loop.clean && b) (marks-next l k h d p r e refl ∙ ap₂ (λ (u v : List ℕ). r.clean && others (k - 1) u v) hs ds)
          ∙ sym (and_assoc c.loop.clean r.clean (others (k - 1) x y))
          ∙ ap (λ (m : ℕ). (c.loop.clean && r.clean) && others m x y) j,
    )

pub nested_bind_check-returns : goal.nested_bind_check-returns
nested_bind_check-returns t c =
    let z = c.args in
    let l = z.levels - 1 in
    let h = c.loop.left.headers.now in
    let d = c.loop.left.data.now in
    let k = c.child_count-end.result - c.loop.counter in
    let q : k ≤ 0 = omega (arith, c.loop-test.false) in
    let e = c.loop.invariant.0 ∙ children-end l k h d q in
    let m = c.loop.invariant.2 ∙ ap (λ (b : Bool). c.loop.clean && b) (marks-end l k h d q) ∙ and-true c.loop.clean in
    mark_is c.loop.clean ∙ bind-passed z.levels z.content.now c.loop.clean e m

pub nested_check-returns-in-Transform : goal.nested_check-returns-in-Transform
nested_check-returns-in-Transform t c =
    let z = c.args in
    let k = sym c.kind_of.ensures ∙ c.in-Transform.is in
    c.textless.ensures ∙ ap (λ (n : ℕ). checked n true) c.transform_fault.ensures ∙ sym (kind-checked z.levels z.type_text.now z.content.now Transform k)

pub nested_check-returns-in-Position : goal.nested_check-returns-in-Position
nested_check-returns-in-Position t c =
    let z = c.args in
    let k = sym c.kind_of.ensures ∙ c.in-Position.is in
    c.textless-in-Position.ensures ∙ ap (λ (n : ℕ). checked n true) c.position_fault.ensures ∙ sym (kind-checked z.levels z.type_text.now z.content.now Position k)

pub nested_check-returns-in-Image : goal.nested_check-returns-in-Image
nested_check-returns-in-Image t c =
    let z = c.args in
    let k = sym c.kind_of.ensures ∙ c.in-Image.is in
    c.textless-in-Image.ensures ∙ ap (λ (n : ℕ). checked n true) c.image_fault.ensures ∙ sym (kind-checked z.levels z.type_text.now z.content.now Image k)

pub nested_check-returns-in-Bind : goal.nested_check-returns-in-Bind
nested_check-returns-in-Bind t c =
    let z = c.args in
    let k = sym c.kind_of.ensures ∙ c.in-Bind.is in
    c.nested_bind_check.ensures ∙ sym (kind-bound z.levels z.type_text.now z.content.now k)

pub nested_check-returns-in-Other : goal.nested_check-returns-in-Other
nested_check-returns-in-Other t c =
    let z = c.args in
    let k = sym c.kind_of.ensures ∙ c.in-Other.is in
    mark_is true ∙ sym (kind-checked z.levels z.type_text.now z.content.now Other k)

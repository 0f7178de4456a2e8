-- `bind_layout::layout_check::layout_check` meets its contract: the test made last decides, where those before it passed.
use mathlib.Core.Path.{◌≡◌, refl, sym, ap, ap₂, ◌∙◌}
use mathlib.Core.Bool.{Bool, true, false, ◌&&◌}
use mathlib.Core.List.{List}
use Prim.Native.Nat.{ℕ}
use native.Mathlib.Omega.{arith}
use borrow.Author.Tests.{le-leb, lt-leb}
use Rattle.fields.specs.declared.fault.Fault.TheVariants.{Bind}
use Rattle.fields.specs.Answer.{checked_of}
use Rattle.fields.proofs.Laws.Answer.{mark_is, refusal_is, passed_on}
use Rattle.bind_layout.specs.BindLayout.{headers, table_size, data_of, types_clean, data_ok, layout_ok}
use Rattle.fields.proofs.Laws.Numbers.{be_at-lt}
use Rattle.bind_layout.proofs.Laws.Marks.{types-passed, types-refused, layout-by, layout-refused, layout-passed}
use Rattle.bind_layout.proofs.layout_check.layout_check.Goals as goal
use Rattle.bind_layout.proofs.layout_check.layout_check.Goals.{After-table_ok}

-- with the name table looked at
by-table : (c : After-table_ok) (g d : List ℕ) → g ≡ headers c.args.content.now → d ≡ data_of c.args.content.now
    → layout_ok c.args.content.now ≡ (c.table_ok.result && data_ok c.child_count-n.result g d)
by-table c g d p q =
    let s = c.args.content.now in
    let m : c.read-table_size.result ≡ table_size s = cc in
    let types = (types-passed _ _ _ c.in_ok-types_clean.ensures).0 in
    layout-by s c.child_count-n.ensures m c.headers.ensures c.table_of.ensures p q ∙ simp (le-leb _ _ c.if-content-n.false, types, c.table_ok.ensures)

-- and the data
by-data : (c : After-table_ok) (g d : List ℕ) {r : Bool} → g ≡ headers c.args.content.now → d ≡ data_of c.args.content.now
    → r ≡ data_ok c.child_count-n.result g d → c.table_ok.result ≡ true → layout_ok c.args.content.now ≡ r
by-data c g d p q e t = by-table c g d p q ∙ (simp t) ∙ sym e

pub overflow_mul-n : goal.overflow_mul-n
overflow_mul-n c = omega (arith, be_at-lt 2 0 c.args.content.now (λ i. (c.type_inv.content i).fits))

pub overflow_add-n : goal.overflow_add-n
overflow_add-n c = omega (arith, be_at-lt 2 0 c.args.content.now (λ i. (c.type_inv.content i).fits))

pub overflow_add-n-2 : goal.overflow_add-n-2
overflow_add-n-2 c = omega (arith, be_at-lt 2 0 c.args.content.now (λ i. (c.type_inv.content i).fits))

pub returns-then-content-n : goal.returns-then-content-n
returns-then-content-n c =
    let s = c.args.content.now in
    let m : c.read-table_size.result ≡ table_size s = cc in
    refusal_is Bind false ∙ sym (layout-refused s (layout-by s c.child_count-n.ensures m refl refl refl refl ∙ simp (lt-leb _ _ c.if-content-n.true)))

pub returns-in_err-types_clean : goal.returns-in_err-types_clean
returns-in_err-types_clean c =
    let s = c.args.content.now in
    let m : c.read-table_size.result ≡ table_size s = cc in
    let stopped = types-refused _ _ _ c.in_err-types_clean.ensures in
    let types = stopped.0 in
    ap checked_of (passed_on c.in_err-types_clean.field-0.0 c.from_residual.result c.from_residual.ensures.1)
    ∙ stopped.1
    ∙ sym (layout-refused s (layout-by s c.child_count-n.ensures m c.headers.ensures refl refl refl ∙ simp (le-leb _ _ c.if-content-n.false, types)))

pub returns-then-not-table_ok : goal.returns-then-not-table_ok
returns-then-not-table_ok c = refusal_is Bind false ∙ sym (layout-refused _ (by-table (goal.at.returns-then-not-table_ok c).After-table_ok _ _ refl refl ∙ simp c.if-not-table_ok.true))

pub returns-then-not-data_ok : goal.returns-then-not-data_ok
returns-then-not-data_ok c = refusal_is Bind false ∙ sym (layout-refused _ (by-data (goal.at.returns-then-not-data_ok c).After-table_ok _ _ c.of.ensures.headers c.of.ensures.content c.data_ok.ensures c.if-not-table_ok.false ∙ c.if-not-data_ok.true))

pub returns : goal.returns
returns c =
    let n = c.child_count-n.ensures in
    let mark = (types-passed _ _ _ c.in_ok-types_clean.ensures).1 ∙ ap₂ types_clean n c.headers.ensures in
    mark_is _ ∙ sym (layout-passed _ (by-data (goal.at.returns c).After-table_ok _ _ c.of.ensures.headers c.of.ensures.content c.data_ok.ensures c.if-not-table_ok.false ∙ c.if-not-data_ok.false) _ (sym mark))

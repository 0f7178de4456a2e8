-- A content's layout is accepted exactly when some children are written as it, and only one list of children is.
use mathlib.Core.Path.{◌≡◌}
use mathlib.Core.Logic.{inl, inr}
use mathlib.Core.List.{List}
use Rattle.fields.specs.Formats.{TwoWay}
use Rattle.fields.proofs.Laws.Checks.{cond-refused}
use Rattle.fields.proofs.Laws.Formats.{two_way}
use Rattle.fields.proofs.Laws.Tests.{by_zero}
use Rattle.bind_layout.specs.Children.{Child, encode_children, WellBundle}
use Rattle.bind_layout.specs.BindLayout.{layout_ok, layout_fault}
use Rattle.bind_layout.specs.BundleTheorems.{BundleTheorems}
use Rattle.bind_layout.proofs.Laws.Children.{children_of}
use Rattle.bind_layout.proofs.Laws.Written.{layout-written, children-written}
use Rattle.bind_layout.proofs.Laws.Marks.{layout-no-mark, layout-clean}
use Rattle.bind_layout.proofs.Laws.Read.{encode-read, well-children}

bundle-two-way : TwoWay WellBundle encode_children layout_fault (λ n. n ≡ 10)
unfolding layout_fault
bundle-two-way =
    two_way WellBundle encode_children layout_fault (λ n. n ≡ 10) children_of
    (record {
      well = λ s b h. well-children s h b;
      back = λ s b h. encode-read s h b;
      accepts = layout-written;
      decoded = children-written;
      numbers = λ s. by_zero (layout_fault s) inl (λ z. inr (cond-refused (layout_ok s) 10 z));
    })

pub bundle-unique : (xs ys : List Child) → WellBundle xs → WellBundle ys → encode_children xs ≡ encode_children ys → xs ≡ ys
bundle-unique = bundle-two-way.only_one

pub bundle-theorems : BundleTheorems
bundle-theorems =
    record {
      two_way = bundle-two-way;
      no_mark = layout-no-mark;
      mark = layout-clean;
    }

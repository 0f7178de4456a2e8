-- What is proved of a BIND content's layout: it is accepted exactly when some children that can be written encode to these bytes, and
-- only one list of children does; it is marked clean exactly if the rest of each CTYPE is zeros, and never where it is refused.
use Rattle.std.specs.Prelude.{ℕ, ◌≡◌, ◌↔◌, true, false, List}
use Rattle.fields.specs.Formats.{IsWritten, TwoWay}
use Rattle.fields.specs.Lists.{Each}
use Rattle.bind_layout.specs.Children.{Child, encode_children, WellBundle, CleanChild}
use Rattle.bind_layout.specs.BindLayout.{layout_fault, layout_checked}

-- some children are written as these bytes
abbrev pub IsBundle : List ℕ → Type 0
IsBundle s = IsWritten WellBundle encode_children s

pub record BundleTheorems : Type 0 where
  pub two_way : TwoWay WellBundle encode_children layout_fault (λ n. n ≡ 10)
  pub no_mark : (s : List ℕ) → (layout_fault s ≡ 0 → ⊥) → (layout_checked s).clean ≡ false
  pub mark : (cs : List Child) → WellBundle cs → ((layout_checked (encode_children cs)).clean ≡ true) ↔ Each CleanChild cs

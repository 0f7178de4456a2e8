-- The numbers that stand for the layouts in scripts, and for programs in other languages: 1 is the old layout, any other the new.
use Rattle.std.specs.Prelude.{ℕ, cond, eqb}
use Rattle.message.specs.declared.Layout.{Layout}
use Rattle.message.specs.declared.Layout.TheVariants.{New, Old}

unfoldable pub layout_of : ℕ → Layout
layout_of n = cond (eqb n 1) Old New

-- the smallest number of each
abbrev pub layout_number : Layout → ℕ
layout_number New = 0
layout_number Old = 1

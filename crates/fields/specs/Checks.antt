-- Checks in order. A fault is a number of rule 5.1, and 0 is none. Check 8 is the check whose fault is 8.
use Rattle.std.specs.Prelude.{ℕ, zero, suc}

-- the first fault of two
abbrev pub or_else : ℕ → ℕ → ℕ
or_else zero n = n
or_else (suc k) n = suc k

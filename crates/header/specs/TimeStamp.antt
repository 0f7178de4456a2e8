-- TIME_STAMP (rule 3.12): the seconds, the fraction of a second in units of 2^-32, and that fraction in nanoseconds, rounded down.
use Rattle.std.specs.Prelude.{ℕ, ◌*◌, ◌/◌, ◌%◌, ◌^◌}

abbrev pub seconds_of : ℕ → ℕ
seconds_of stamp = stamp / 2 ^ 32

abbrev pub fraction_of : ℕ → ℕ
fraction_of stamp = stamp % 2 ^ 32

abbrev pub nanoseconds_of : ℕ → ℕ
nanoseconds_of stamp = fraction_of stamp * 1000000000 / 2 ^ 32

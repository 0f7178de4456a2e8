-- The walks over the table; what each call gives, check by check, and by the number of its first fault; then `Demand3` from the bottom up:
-- labels and contents, the panel's agreement with a room place by place, and how one call more leaves it. What a room answers is crate room's.
pub mod Faults
pub mod Table
pub mod Calls
pub mod Same
pub mod Labels
pub mod Contents
pub mod Rows
pub mod Agreement
pub mod Alike
pub mod Checked
pub mod Step
pub mod Demand3
pub mod Refusals

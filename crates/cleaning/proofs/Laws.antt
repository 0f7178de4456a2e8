pub mod Lengths
pub mod CleaningWalk
pub mod CleaningTheorems

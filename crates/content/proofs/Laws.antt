pub mod Kinds
pub mod ChildrenWalk
pub mod Faults
pub mod Contents
pub mod Cleaned
pub mod Marks
